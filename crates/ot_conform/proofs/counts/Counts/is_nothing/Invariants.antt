use Rattle.std.proofs.Common.{◌≡◌, drop}
use Rattle.ot_conform.specs.Counted.{are_nothing, counted_keys}
use Rattle.ot_conform.proofs.counts.Counts.is_nothing.Given as goal

-- the counts before are 0, or say no more
abbrev pub invariant-loop-place : goal.invariant-loop-place
invariant-loop-place l = are_nothing counted_keys l.self.values ≡ are_nothing (drop l.place counted_keys) (drop l.place l.self.values)
