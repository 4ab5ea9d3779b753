-- A message to the server.
use Rattle.std.proofs.Common.{◌≡◌, ℕ, zero, suc, ◌<◌, List, [], ◌∷◌, length, map, set, get_or, refl, sym, ap, ◌∙◌, subst, arith, Option, Some, None, Err}
use Rattle.std.proofs.lemmas.List.{map-set, length-map}
use Rattle.std.proofs.lemmas.Option.{slice_get-map, slice_get_read, same_Some}
use Rattle.std.specs.Prelude.{slice_get}
use Rattle.ot_machine.specs.declared.seat.Seat.{Seat}
use Rattle.ot_isa.specs.declared.elements.Tagged.{Tagged}
use Rattle.ot_server.specs.History.{History}
use Rattle.ot_server.specs.Faults.{Names}
use Rattle.ot_server.specs.declared.fault.ServerFault.{ServerFault}
use Rattle.ot_server.specs.declared.fault.ServerFault.TheVariants as fault
use Rattle.ot_model.specs.Table.{Message}
use Rattle.ot_machine.specs.Seats.{View, view_of, phase_of, revision_of, outstanding_at, outstanding_of, emptied, without_message, IsReceivable, IsMemory}

pub outstanding_read :
    (seats before : List Seat) (c n : ℕ) (seat : Seat) → map view_of seats ≡ map view_of before → n ≡ length seats → c < n → seat ≡ get_or seats c seat
    → outstanding_at (map view_of before) c ≡ outstanding_of (revision_of seat.client) (phase_of seat.client)
outstanding_read seats before c n seat same many there read =
    rw (← same, slice_get-map view_of seats c, slice_get_read seats n c seat many there read) refl

pub receivable : (server : History Tagged) (message found : Option Message) → IsReceivable server message → message ≡ found → IsReceivable server found
receivable server message found is at = subst (IsReceivable server) at is

emptied_set : (c : ℕ) (views : List View) (v : View) → slice_get views c ≡ Some v → set views c (without_message v) ≡ emptied c views
emptied_set c [] v at = refl
emptied_set zero (w ∷ views) v at = ap (λ u. without_message u ∷ views) (sym (same_Some w v at))
emptied_set (suc c) (w ∷ views) v at = ap (λ us. w ∷ us) (emptied_set c views v at)

pub emptied_read :
    (seats : List Seat) (views : List View) (c n : ℕ) (seat new : Seat) → map view_of seats ≡ views → n ≡ length seats → c < n → seat ≡ get_or seats c seat
    → view_of new ≡ without_message (view_of seat) → map view_of (set seats c new) ≡ emptied c views
emptied_read seats views c n seat new same many there read is =
    let at : slice_get views c ≡ Some (view_of seat) = rw (← same, slice_get-map view_of seats c, slice_get_read seats n c seat many there read) refl in
    map-set view_of seats c new ∙ ap (λ v. set (map view_of seats) c v) is ∙ ap (λ vs. set vs c (without_message (view_of seat))) same ∙ emptied_set c views (view_of seat) at

Some_not_None : {X : Type 0} (x : X) → Some x ≡ None → ⊥
Some_not_None x e = cc

pub only_wanting : (e : ServerFault) (why : Option ServerFault) → Names {X = Unit {0}} (Err e) why → why ≡ None → IsMemory e
only_wanting fault.Memory why names none = tt
only_wanting fault.NotInHistory why names none = absurd (Some_not_None _ (sym names ∙ none))
only_wanting fault.BadBase why names none = absurd (Some_not_None _ (sym names ∙ none))
only_wanting fault.LogFull why names none = absurd (Some_not_None _ (sym names ∙ none))
only_wanting fault.TooLong why names none = absurd (Some_not_None _ (sym names ∙ none))

pub still_there : (seats before : List Seat) (f : View → View) (c : ℕ) → map view_of seats ≡ map f (map view_of before) → c < length before → c < length seats
still_there seats before f c same there =
    let many : length seats ≡ length before = sym (length-map seats view_of) ∙ ap length same ∙ length-map (map view_of before) f ∙ length-map before view_of in
    omega (arith, many, there)
