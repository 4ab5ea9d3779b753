use Rattle.std.proofs.Common.{sym, ◌∙◌}
use Rattle.ot_rules.proofs.Over.{over_more, over_none}
use Rattle.ot_rules.proofs.wrong.turned_over.Goals as goal

pub returns-in_default : goal.returns-in_default
returns-in_default c =
    over_none c.args.op.now c.loop-other.current c.other-item.result c.args.concurrent.now c.loop-other.other-index c.loop-other-test.true c.other-item.is c.loop-other.invariant
    (sym c.in_ok-next.ensures ∙ c.in_default.is)

pub loop-other-preserved : goal.loop-other-preserved
loop-other-preserved c =
    over_more c.args.op.now c.loop-other.current c.other-item.result c.args.concurrent.now c.loop-other.other-index c.loop-other-test.true c.other-item.is c.loop-other.invariant
    _ (sym c.in_ok-next.ensures ∙ c.in-Some.is)
