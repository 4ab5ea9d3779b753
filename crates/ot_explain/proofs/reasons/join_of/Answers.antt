use Rattle.std.proofs.Common.{sym, ◌∙◌}
use Rattle.ot_explain.proofs.Joins.{joins_here, joins_later}
use Rattle.ot_explain.proofs.reasons.join_of.Goals as goal

pub returns-then-joins : goal.returns-then-joins
returns-then-joins c =
    joins_here c.args.client c.loop-number.number c.args.schedule.now.instrs c.in-Some.instr.now c.in-Some.ensures.some (sym c.joins.ensures ∙ c.if-joins.true)
    ∙ c.loop-number.invariant

pub loop-number-preserved : goal.loop-number-preserved
loop-number-preserved c =
    joins_later c.args.client c.loop-number.number c.args.schedule.now.instrs c.in-Some.instr.now c.in-Some.ensures.some (sym c.joins.ensures ∙ c.if-joins.false)
    ∙ c.loop-number.invariant
