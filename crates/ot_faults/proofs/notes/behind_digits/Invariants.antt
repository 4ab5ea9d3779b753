use Rattle.std.proofs.Common.{◌≡◌, length}
use Rattle.ot_faults.specs.Notes.{behind_digits}
use Rattle.ot_faults.proofs.notes.behind_digits.Given as goal

abbrev pub invariant-loop-byte : goal.invariant-loop-byte
invariant-loop-byte l = behind_digits l.rest ≡ behind_digits l.text

abbrev pub decreases-loop-byte : goal.decreases-loop-byte
decreases-loop-byte l = length l.rest
