use Rattle.std.proofs.Common.{◌∙◌}
use Rattle.ot_judge.proofs.Repeated.{find-agree}
use Rattle.ot_judge.proofs.contents.first_doubled.Goals as goal

pub returns : goal.returns
returns c = c.first_in.ensures ∙ find-agree _ _ c.in_ok-twice.ensures c.args.list.now
