-- Loops over items: the first fault, and what is noted, one item further and at the end.
use Rattle.std.proofs.Common.{◌≡◌, ◌≢◌, List, [], ◌∷◌, length, refl, arith}
use Rattle.serde_json.specs.View.{items_view}
use Rattle.serde_json.specs.declared.value.Value.{Value}
use Rattle.ot_reasons.specs.declared.place.Place.{Place}
use Rattle.ot_reasons.specs.declared.place.Wanted.TheVariants as wanted
use Rattle.ot_reasons.specs.Faults.{count_items, placed_parts, tag_parts, wants}

-- ---- the first fault

-- ---- what is noted

-- ---- how many items there are

pub count-view : (vs : List Value) → count_items (items_view vs) ≡ length vs
count-view [] = refl
count-view (v ∷ vs) = omega (arith, count-view vs)

pub tag_parts-long : (p : Place) (vs : List Value) → length vs ≢ 2 → wants p wanted.Tag ≡ tag_parts p (items_view vs)
tag_parts-long p [] h = refl
tag_parts-long p (o ∷ []) h = refl
tag_parts-long p (o ∷ s ∷ []) h = absurd (h refl)
tag_parts-long p (o ∷ s ∷ x ∷ xs) h = refl

pub placed_parts-long : (p : Place) (vs : List Value) → length vs ≢ 3 → wants p wanted.Placed ≡ placed_parts p (items_view vs)
placed_parts-long p [] h = refl
placed_parts-long p (o ∷ []) h = refl
placed_parts-long p (o ∷ s ∷ []) h = refl
placed_parts-long p (o ∷ s ∷ x ∷ []) h = absurd (h refl)
placed_parts-long p (o ∷ s ∷ x ∷ y ∷ ys) h = refl
