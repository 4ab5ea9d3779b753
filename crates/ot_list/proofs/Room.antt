-- Spans carried out on what is made of each item, and the room that they need.
use Rattle.std.proofs.Common.{◌≡◌, ℕ, ◌+◌, ◌-◌, min, ◌≤◌, List, [], ◌∷◌, length, drop, map, inl, inr, refl, sym, ◌∙◌, arith}
use Rattle.std.specs.Prelude.{All, ◌⊎◌}
use Rattle.std.proofs.lemmas.List.{map-append, take-map, drop-map}
use Rattle.ot_list.specs.declared.span.Span.{Span}
use Rattle.ot_list.specs.Spans.{all_gone, merged, IsEven, Fit}
use Rattle.ot_list.proofs.Merging.{length-merged-all, gone-within}

-- lists of another type, as long
pub fit_as : {A B : Type 0} (ss : List Span) (old new : List A) (old' new' : List B) → Fit ss old new → length old ≡ length old' → length new ≡ length new' → Fit ss old' new'
fit_as ss old new old' new' f o n = let w = f.within in let a = f.all in record { within = omega arith; all = a ∙ n }

pub map-merged : {A B : Type 0} (f : A → B) (ss : List Span) (old new : List A) → map f (merged ss old new) ≡ merged ss (map f old) (map f new)
map-merged f [] old new = refl
map-merged {A} {B} f (s ∷ ss) old new =
    rw (map-append, map-append, map-merged f ss (drop (s.kept + s.gone) old) (drop s.put new), take-map f s.kept old, take-map f s.put new, drop-map f (s.kept + s.gone) old, drop-map f s.put new) refl

pub ready_room : {A : Type 0} (ss : List Span) (old new : List A) → Fit ss old new → (count gone a b c d : ℕ) → gone ≡ all_gone ss → count ≡ length old - gone + length new → count ≤ a → count ≤ b → gone ≤ c → gone ≤ d → (length (merged ss old new) ≤ min a b) × (all_gone ss ≤ min c d)
ready_room ss old new f count gone a b c d e n p q r s =
    let m = length-merged-all ss old new f in
    let w = f.within in
    let g = gone-within ss in
    (omega arith, omega arith)

-- the room for both of two lists is room for each
pub ready_parts : {A B C : Type 0} (ss : List Span) (old new : List A) (old' new' : List B) (old'' new'' : List C) (a b c d : ℕ) → Fit ss old new → length old' ≡ length old → length new' ≡ length new → length old'' ≡ length old → length new'' ≡ length new → All IsEven ss ⊎ ((length (merged ss old new) ≤ min a b) × (all_gone ss ≤ min c d)) → (All IsEven ss ⊎ ((length (merged ss old' new') ≤ a) × (all_gone ss ≤ c))) × (All IsEven ss ⊎ ((length (merged ss old'' new'') ≤ b) × (all_gone ss ≤ d)))
ready_parts ss old new old' new' old'' new'' a b c d f o n o' n' (inl e) = (inl e, inl e)
ready_parts ss old new old' new' old'' new'' a b c d f o n o' n' (inr r) =
    let m = length-merged-all ss old new f in
    let m' = length-merged-all ss old' new' (fit_as ss old new old' new' f (sym o) (sym n)) in
    let m'' = length-merged-all ss old'' new'' (fit_as ss old new old'' new'' f (sym o') (sym n')) in
    (inr (omega arith, omega arith), inr (omega arith, omega arith))
