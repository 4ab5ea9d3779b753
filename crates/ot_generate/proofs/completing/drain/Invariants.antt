use Rattle.std.proofs.Common.{◌-◌, List, length}
use Rattle.ot_isa.specs.declared.instruction.Instr.{Instr}
use Rattle.ot_generate.specs.Completing.{IsDraining}
use Rattle.ot_generate.proofs.completing.drain.Given as goal

abbrev pub invariant-loop-instr : goal.invariant-loop-instr
invariant-loop-instr l = (more : List Instr) × IsDraining l.initial.walk more l.walk

abbrev pub decreases-loop-instr : goal.decreases-loop-instr
decreases-loop-instr l = l.walk.room - length l.walk.recorded.instrs
