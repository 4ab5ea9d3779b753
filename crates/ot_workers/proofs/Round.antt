-- The round of the clients.
use Rattle.std.proofs.Common.{◌≡◌, ℕ, zero, suc, ◌+◌, ◌%◌, ◌<◌, List, length, refl, ap, sym, ◌∙◌, subst, arith, Option, Some, None}
use Rattle.std.specs.Prelude.{slice_index_or}
use Rattle.std.proofs.lemmas.Option.{same_Some}
use Rattle.ot_workers.specs.declared.choosing.Seat.{Seat}
use Rattle.ot_workers.specs.declared.choosing.Way.{Way}
use Rattle.ot_workers.specs.Choosing.{way, seat_at, nobody, with_place, first_from, choice}

-- where the client at a place cannot be obtained, the round goes on
pub onward : (seats : List Seat) (p q left more : ℕ) → q ≡ suc p → more ≡ suc left → way (seat_at seats p) ≡ None → first_from seats q left ≡ first_from seats p more
onward seats p q left more next count nobody =
    ap (λ k. first_from seats k left) next
    ∙ sym (ap (with_place (p % length seats) (first_from seats (suc p) left)) nobody)
    ∙ ap (first_from seats p) (sym count)

-- the client that is chosen is there, and its seat says how it is obtained
found : (seats : List Seat) (place left c : ℕ) (y : Way) → 0 < length seats → first_from seats place left ≡ Some (c, y) → (c < length seats) × (way (slice_index_or seats c nobody) ≡ Some y)
found seats place zero c y some e = absurd (cc)
found seats place (suc left) c y some e = go (λ f. found seats (suc place) left c y some f) (way (seat_at seats place)) refl e
  where
    go : (first_from seats (suc place) left ≡ Some (c, y) → (c < length seats) × (way (slice_index_or seats c nobody) ≡ Some y)) → (o : Option Way) → way (seat_at seats place) ≡ o
        → with_place (place % length seats) (first_from seats (suc place) left) o ≡ Some (c, y) → (c < length seats) × (way (slice_index_or seats c nobody) ≡ Some y)
    go later (Some z) is f =
        let pair = same_Some (place % length seats, z) (c, y) f in
        let here : place % length seats ≡ c = ap (λ (p : ℕ × Way). p.0) pair in
        let same : z ≡ y = ap (λ (p : ℕ × Way). p.1) pair in
        let within : place % length seats < length seats = omega (arith, some) in
        (omega (arith, within, here), subst (λ (n : ℕ). way (slice_index_or seats n nobody) ≡ Some y) here (is ∙ ap (λ (w : Way). Some w) same))
    go later None is f = later f

found_in : (seats : List Seat) (place n c : ℕ) (y : Way) → n ≡ length seats → first_from seats place n ≡ Some (c, y) → (c < length seats) × (way (slice_index_or seats c nobody) ≡ Some y)
found_in seats place zero c y is e = absurd (cc)
found_in seats place (suc n) c y is e = found seats place (suc n) c y (omega (arith, is)) e

pub chosen_at : (seats : List Seat) (w k c : ℕ) (y : Way) → choice seats w k ≡ Some (c, y) → (c < length seats) × (way (slice_index_or seats c nobody) ≡ Some y)
chosen_at seats w k c y e = found_in seats (w + k) (length seats) c y refl e
