-- The opening.
use Rattle.std.proofs.Common.{◌≡◌, ℕ, zero, suc, ◌-◌, ◌≤◌, List, [], ◌∷◌, ◌++◌, length, map, replicate, refl, sym, ap, ◌∙◌, subst}
use Rattle.std.proofs.lemmas.List.{map-append}
use Rattle.std.proofs.lemmas.Option.{same_Some}
use Rattle.ot_isa.specs.declared.elements.Tagged.{Tagged}
use Rattle.ot_server.specs.History.{History}
use Rattle.ot_model.specs.Table.{Client, start_list, present_with, absent, opening}
use Rattle.ot_model.specs.Sound.{IsSound}
use Rattle.ot_model.proofs.Steps.{opening_sound, slice_get-replicate}
use Rattle.ot_machine.specs.declared.seat.Seat.{Seat}
use Rattle.ot_machine.specs.Seats.{View, view_of, client_of, idle, incoming, state_from, AreQueues, IsKept}
use Rattle.ot_machine.proofs.Taking.{clients_of}

map-replicate : {X Y : Type 0} (f : X → Y) (n : ℕ) (x : X) → map f (replicate n x) ≡ replicate n (f x)
map-replicate f zero x = refl
map-replicate f (suc n) x = ap (λ ys. f x ∷ ys) (map-replicate f n x)

queues_opening :
    (m n : ℕ) (x y : Client) → [] ≡ incoming x 0 → [] ≡ incoming y 0 → AreQueues 0 (replicate m (idle x) ++ replicate n (idle y))
queues_opening zero n x y here there c v at =
    subst (λ (u : View). u.queue ≡ incoming u.client 0) (slice_get-replicate n c (idle y) v at) there
queues_opening (suc m) n x y here there zero v at =
    subst (λ (u : View). u.queue ≡ incoming u.client 0) (same_Some (idle x) v at) here
queues_opening (suc m) n x y here there (suc c) v at = queues_opening m n x y here there c v at

-- the fields at the opening
pub record Opened (clients present : ℕ) (text : List ℕ) (server : History Tagged) (seats : List Seat) : Type 0 where
  pub state : state_from server seats 0 ≡ opening clients present text
  pub kept : IsKept server seats 0

pub opened :
    (clients present : ℕ) (text : List ℕ) (server : History Tagged) (seats : List Seat)
    → clients ≤ 64 → present ≤ clients → length text ≤ 40000
    → server ≡ record { document = start_list text; log = [] }
    → map view_of seats ≡ replicate present (idle (present_with (start_list text))) ++ replicate (clients - present) (idle absent)
    → Opened clients present text server seats
opened clients present text server seats few within short is views =
    let x = present_with (start_list text) in
    let of_views : map client_of seats ≡ replicate present x ++ replicate (clients - present) absent =
    sym (clients_of seats) ∙ ap (map (λ (v : View). v.client)) views
    ∙ map-append (λ (v : View). v.client) (replicate present (idle x)) (replicate (clients - present) (idle absent))
    ∙ ap (λ xs. xs ++ map (λ (v : View). v.client) (replicate (clients - present) (idle absent))) (map-replicate (λ (v : View). v.client) present (idle x))
    ∙ ap (λ xs. replicate present x ++ xs) (map-replicate (λ (v : View). v.client) (clients - present) (idle absent)) in
    let state : state_from server seats 0 ≡ opening clients present text = rw (is, of_views) refl in
    record {
      state = state;
      kept = record {
        sound = subst IsSound (sym state) (opening_sound clients present text few within short);
        queues = rw (is, views) (queues_opening present (clients - present) x absent refl refl);
      };
    }
