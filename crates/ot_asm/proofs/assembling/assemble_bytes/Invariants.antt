use Rattle.std.proofs.Common.{◌≤◌, ◌+◌, length}
use Rattle.streams.specs.Lines.{lines_of}
use Rattle.ot_asm.proofs.Running.{HasRead}
use Rattle.ot_asm.proofs.assembling.assemble_bytes.Given as goal

-- the lines above the rest have no fault
abbrev pub invariant-loop-rest : goal.invariant-loop-rest
invariant-loop-rest l = record {
  read : HasRead (lines_of l.text) (lines_of l.rest) l.line l.body;
  few : l.line + length l.rest ≤ 1 + length l.text;
}

abbrev pub decreases-loop-rest : goal.decreases-loop-rest
decreases-loop-rest l = length l.rest
