use Rattle.std.proofs.Common.{sym}
use Rattle.ot_reasons.proofs.Each.{count-view}
use Rattle.ot_reasons.proofs.checks.count.Goals as goal

pub returns : goal.returns
returns c = sym (count-view c.args.items.now)
