use Rattle.std.specs.Prelude.{◌-◌, length}
use Rattle.ot_conform.specs.Read.{read_as}
use Rattle.ot_conform.specs.Standing.{Passes}
use Rattle.ot_conform.proofs.Going.{running}
use Rattle.ot_conform.proofs.comparison.Comparison.pass_over.Given as goal

abbrev pub invariant-loop-instr : goal.invariant-loop-instr
invariant-loop-instr l = Passes l.schedule (running l.fn.self) (read_as l.line) (running l.self)

abbrev pub decreases-loop-instr : goal.decreases-loop-instr
decreases-loop-instr l = length l.schedule.instrs - l.self.place
