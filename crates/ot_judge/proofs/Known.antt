-- What the first events of a trace give to one that knows them.
use Rattle.std.proofs.Common.{◌≡◌, ℕ, ◌+◌, List, [], ◌∷◌, ◌++◌, map, ap, sym, ◌∙◌, cond, arith, refl, Bool, true, false, ◌||◌, append_assoc}
use Rattle.std.specs.Prelude.{filter}
use Rattle.std.proofs.lemmas.List.Folds.{list_any-append}
use Rattle.std.proofs.lemmas.List.Elements.{filter-append}
use Rattle.ot_model.specs.declared.trace.Placed.{Placed}
use Rattle.ot_model.specs.Trace.{contains, same_tag, EventView, event_at}
use Rattle.std.specs.List.{flat_map, range_with_len}
use Rattle.std.proofs.lemmas.List.FromFn.{map-range_with_len_more}
use Rattle.std.proofs.lemmas.List.{map-id, append-nil}
use Rattle.std.proofs.lemmas.List.Concat.{flat_map-append}
use Rattle.ot_isa.specs.declared.elements.Tag.{Tag}
use Rattle.ot_model.specs.WeakList.{knows}

abbrev pub from_first : List EventView → ℕ → (EventView → List Tag) → ℕ → List Tag
from_first events e part n = flat_map (λ d. cond (knows events e d) (part (event_at events d)) []) (range_with_len 0 n)

pub range-more : (n : ℕ) → range_with_len 0 (n + 1) ≡ range_with_len 0 n ++ n ∷ []
range-more n = sym (map-id (range_with_len 0 (n + 1))) ∙ map-range_with_len_more (λ (k : ℕ). k) 0 n n (omega arith) ∙ ap (λ (xs : List ℕ). xs ++ n ∷ []) (map-id (range_with_len 0 n))

pub from_first-more : (events : List EventView) (e : ℕ) (part : EventView → List Tag) (n : ℕ) → from_first events e part (n + 1) ≡ from_first events e part n ++ cond (knows events e n) (part (event_at events n)) []
from_first-more events e part n =
    let f : ℕ → List Tag = λ d. cond (knows events e d) (part (event_at events d)) [] in
    ap (flat_map f) (range-more n) ∙ flat_map-append f (range_with_len 0 n) (n ∷ []) ∙ ap (λ (xs : List Tag). from_first events e part n ++ xs) (append-nil (f n))

-- a set with what one more event gives
pub contains-grown : (events : List EventView) (e : ℕ) (part : EventView → List Tag) (n : ℕ) (q : Tag) (has new : Bool) (gained : List Tag) → has ≡ contains (from_first events e part n) q → new ≡ (has || contains gained q) → gained ≡ cond (knows events e n) (part (event_at events n)) [] → new ≡ contains (from_first events e part (n + 1)) q
contains-grown events e part n q has new gained h w g =
    w ∙ ap (λ (b : Bool). b || contains gained q) h ∙ sym (list_any-append (same_tag q) (from_first events e part n) gained) ∙ ap (λ (xs : List Tag). contains (from_first events e part n ++ xs) q) g ∙ sym (ap (λ (xs : List Tag). contains xs q) (from_first-more events e part n))

-- a filtered list with what one more event gives
pub filter-grown : (p : Tag → Bool) (start : List Tag) (events : List EventView) (e : ℕ) (part : EventView → List Tag) (n : ℕ) (old new gained : List Tag) → old ≡ filter p (start ++ from_first events e part n) → new ≡ old ++ filter p gained → gained ≡ cond (knows events e n) (part (event_at events n)) [] → new ≡ filter p (start ++ from_first events e part (n + 1))
filter-grown p start events e part n old new gained h w g =
    w ∙ ap (λ (xs : List Tag). xs ++ filter p gained) h ∙ sym (filter-append p (start ++ from_first events e part n) gained) ∙ ap (λ (xs : List Tag). filter p ((start ++ from_first events e part n) ++ xs)) g
    ∙ ap (filter p) (append_assoc start (from_first events e part n) (cond (knows events e n) (part (event_at events n)) [])) ∙ ap (λ (xs : List Tag). filter p (start ++ xs)) (sym (from_first-more events e part n))

-- the tags of what an event gives where it is known
pub map-known : (b : Bool) (xs : List Placed) → map (λ (x : Placed). x.tag) (cond b xs []) ≡ cond b (map (λ (x : Placed). x.tag) xs) []
map-known true xs = refl
map-known false xs = refl
