use Rattle.std.proofs.Common.{◌≡◌, ◌≤◌, length}
use Rattle.std.specs.Prelude.{◌⊎◌}
use Rattle.ot_conform.specs.Summed.{both_values}
use Rattle.ot_conform.proofs.Summing.{both_to}
use Rattle.ot_conform.proofs.counts.together.Given as goal

-- the counts before the place are added; there are 15
abbrev pub invariant-loop-place : goal.invariant-loop-place
invariant-loop-place l = (both_values l.fn.counts l.others ≡ both_to l.counts l.others l.place) × ((l.place ≡ 0) ⊎ (length l.others ≤ 15))
