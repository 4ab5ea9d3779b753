use Rattle.std.proofs.Common.{◌≡◌, false}
use Rattle.ot_values.proofs.Ascii.{AreFreeTo}
use Rattle.ot_values.proofs.letters.are_free.Given as goal

abbrev pub invariant-loop-place : goal.invariant-loop-place
invariant-loop-place l = l.escaped ≡ false → AreFreeTo l.bytes l.place
