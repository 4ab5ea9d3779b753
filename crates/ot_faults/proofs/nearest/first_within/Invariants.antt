use Rattle.std.proofs.Common.{◌≡◌, drop}
use Rattle.ot_faults.specs.Nearest.{first_within}
use Rattle.ot_faults.proofs.nearest.first_within.Given as goal

-- none of the words before is so near
abbrev pub invariant-loop-word : goal.invariant-loop-word
invariant-loop-word l = first_within l.most l.found l.words ≡ first_within l.most l.found (drop l.word-index l.words)
