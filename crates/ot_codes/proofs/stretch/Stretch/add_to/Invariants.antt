use Rattle.std.proofs.Common.{◌≡◌, ◌+◌, ◌≤◌, ◌∷◌, ◌++◌, length, map, take}
use Rattle.ot_codes.specs.Ends.{moved}
use Rattle.ot_codes.proofs.stretch.Stretch.add_to.Given as goal

abbrev pub invariant-loop-end : goal.invariant-loop-end
invariant-loop-end l =
    (l.ends.items ≡ l.fn.ends.items ++ l.base ∷ map (moved l.self-inside.done l.base) (take l.end-index l.self-inside.ends.now))
    × (l.ends.len + length l.self-inside.ends.now ≤ l.ends.cap + l.end-index)
