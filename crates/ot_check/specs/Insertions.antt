-- Neighbours that are inserted together.
use Rattle.std.specs.Prelude.{ℕ, zero, suc, List, [], ◌∷◌}
use Rattle.ot_model.specs.declared.trace.Placed.{Placed}

-- so many neighbours of one maker, numbered from `first` on, the first at `place`
abbrev pub placed_run : ℕ → ℕ → ℕ → ℕ → List Placed
placed_run origin first place zero = []
placed_run origin first place (suc count) = record { tag = record { origin = origin; serial = first }; place = place } ∷ placed_run origin (suc first) (suc place) count
