use Rattle.ot_model.specs.Table.{step}
use Rattle.ot_debug.proofs.Firsts.{UnchangedUpTo}
use Rattle.ot_debug.proofs.watching.first_changed.Given as goal

abbrev pub invariant-loop-number : goal.invariant-loop-number
invariant-loop-number l = UnchangedUpTo (step l.machine l.instr) l.machine l.watches l.firsts l.number-index
