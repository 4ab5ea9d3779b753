use Rattle.std.proofs.Common.{◌≡◌, ◌+◌, drop}
use Rattle.ot_conform.specs.Answers.{same_front}
use Rattle.ot_conform.proofs.answers.same_front.Given as goal

-- the characters before are equal
abbrev pub invariant-loop-same : goal.invariant-loop-same
invariant-loop-same l = same_front l.found l.wanted ≡ l.same + same_front (drop l.same l.found) (drop l.same l.wanted)
