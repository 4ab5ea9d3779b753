use Rattle.std.proofs.Common.{rules}
use Rattle.ot_image.specs.Reads.{seen}
use Rattle.ot_image.proofs.FieldSteps.{end_err, end_ok}
use Rattle.ot_image.proofs.whole.end_of.Goals as goal

pub returns-then-is_empty : goal.returns-then-is_empty
returns-then-is_empty c = end_ok (seen c.args.spot) (search rules)

pub returns : goal.returns
returns c = end_err (seen c.args.spot) (search rules)
