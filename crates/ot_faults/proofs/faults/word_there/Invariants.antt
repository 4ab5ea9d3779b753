use Rattle.std.proofs.Common.{◌≡◌, ◌≤◌, ◌++◌, ◌-◌, length, take, drop}
use Rattle.ot_asm.specs.Words.{first_word}
use Rattle.ot_faults.specs.Faults.{word_there}
use Rattle.ot_faults.proofs.faults.word_there.Given as goal

abbrev pub invariant-loop-at : goal.invariant-loop-at
invariant-loop-at l = record {
  word : take l.at l.rest ++ first_word (drop l.at l.rest) ≡ word_there l.rest;
  within : l.at ≤ length l.rest;
}

abbrev pub decreases-loop-at : goal.decreases-loop-at
decreases-loop-at l = length l.rest - l.at
