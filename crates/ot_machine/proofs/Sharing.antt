-- A list that a delivery makes of a synchronized client's, and that another has already.
use Rattle.std.proofs.Common.{◌≡◌, ℕ, suc, ◌+◌, List, length, take, drop, sym, ap, ◌∙◌, subst, arith, Option, None, Some, IfSome}
use Rattle.std.proofs.lemmas.List.{take_all}
use Rattle.std.proofs.lemmas.Option.{same_Some}
use Rattle.std.specs.Prelude.{slice_get}
use Rattle.ot_operation.specs.Operation.{apply}
use Rattle.ot_isa.specs.declared.elements.Tagged.{Tagged}
use Rattle.ot_model.specs.Table.{Client, Entry, Phase, State, against_pending, delivered}
use Rattle.ot_model.specs.Sound.{IsPhaseSound, IsSoundFrom, apply_entries}
use Rattle.ot_model.proofs.Clients.{apply_entries_push}
use Rattle.ot_model.proofs.States.{take_entry}
use Rattle.ot_client.specs.declared.client.Client.TheVariants as client
use Rattle.ot_server.specs.History.{History}
use Rattle.ot_machine.specs.declared.seat.Seat.{Seat}
use Rattle.ot_machine.specs.Common.{IsDelivered, IsSynchronizedAt}
use Rattle.ot_machine.specs.Seats.{client_of, phase_of, revision_of, state_from, IsKept}
use Rattle.ot_machine.proofs.RowLaws.{client_at}

-- a synchronized client's list is the log's at its revision
list_at :
    (start : List Tagged) (text : List ℕ) (s : State) (c r : ℕ) (x : Client)
    → IsSoundFrom start text s → slice_get s.clients c ≡ Some x → IsSynchronizedAt r x → x.list ≡ apply_entries start (take r s.log)
list_at start text s c r x sound at is =
    let now = subst (λ (p : Phase). IsPhaseSound c p start (take x.revision s.log) (drop x.revision s.log) x.list x.message) is.0 (sound.clients c x at) in
    now.list_is ∙ ap (λ k. apply_entries start (take k s.log)) is.1

-- the log's list one entry later
next_list :
    (start : List Tagged) (text : List ℕ) (s : State) (c r : ℕ) (x : Client) (h : Entry)
    → IsSoundFrom start text s → slice_get s.clients c ≡ Some x → IsSynchronizedAt r x → slice_get s.log r ≡ Some h
    → apply_entries start (take (suc r) s.log) ≡ apply h.op x.list
next_list start text s c r x h sound at is head =
    ap (apply_entries start) (take_entry s.log r h head) ∙ apply_entries_push start (take r s.log) h ∙ ap (apply h.op) (sym (list_at start text s c r x sound at is))

-- so a list that is the log's one entry later is what the delivery makes
delivered_is :
    (start : List Tagged) (text : List ℕ) (s : State) (c r : ℕ) (y : Client) (list : List Tagged)
    → IsSoundFrom start text s → slice_get s.clients c ≡ Some y → IsSynchronizedAt r y → list ≡ apply_entries start (take (suc r) s.log)
    → IsDelivered s c list
delivered_is start text s c r y list sound at is there = λ x h at-x head.
    let same : x ≡ y = same_Some x y (sym at-x ∙ at) in
    let here = subst (IsSynchronizedAt r) (sym same) is in
    (here.0, there ∙ next_list start text s c r x h sound at-x here (subst (λ k. slice_get s.log k ≡ Some h) here.1 head))

-- a client that is synchronized, as a seat has it
pub at_rest : (seat : Seat) (revision here : ℕ) → seat.client ≡ Some (client.Synchronized here) → revision ≡ here → IsSynchronizedAt revision (client_of seat)
at_rest seat revision here is same = (ap phase_of is, ap revision_of is ∙ sym same)

-- so of a copy, if there is one, of what is the log's list one entry later
copied :
    (server : History Tagged) (seats : List Seat) (steps c r : ℕ) (seat : Seat) (t : State) (list : List Tagged) (copy : Option (List Tagged))
    → IsKept server seats steps → slice_get seats c ≡ Some seat → IsSynchronizedAt r (client_of seat) → state_from server seats steps ≡ t
    → ((start : List Tagged) (text : List ℕ) → IsSoundFrom start text (state_from server seats steps) → list ≡ apply_entries start (take (suc r) server.log))
    → IfSome copy (λ d. d ≡ list) → IfSome copy (IsDelivered t c)
copied server seats steps c r seat t list None kept at is value there same = tt
copied server seats steps c r seat t list (Some d) kept at is value there same =
    let sound = kept.sound in
    subst (λ v. IsDelivered v c d) value
    (delivered_is sound.0 sound.1 (state_from server seats steps) c r (client_of seat) d sound.2 (client_at seats c seat at) is (same ∙ there sound.0 sound.1 sound.2))

-- the server's, where the entry is its last one
pub common_server :
    (server : History Tagged) (seats : List Seat) (steps c r : ℕ) (seat : Seat) (t : State) (copy : Option (List Tagged))
    → IsKept server seats steps → slice_get seats c ≡ Some seat → IsSynchronizedAt r (client_of seat) → state_from server seats steps ≡ t → r + 1 ≡ length server.log
    → IfSome copy (λ d. d ≡ server.document) → IfSome copy (IsDelivered t c)
common_server server seats steps c r seat t copy kept at is value last same =
    let all : take (suc r) server.log ≡ server.log = take_all (suc r) server.log (omega (arith, last)) in
    copied server seats steps c r seat t server.document copy kept at is value (λ start text sound. sound.server ∙ ap (apply_entries start) (sym all)) same

-- that of a client that is synchronized one entry later
pub common_other :
    (server : History Tagged) (seats : List Seat) (steps c r d : ℕ) (seat other : Seat) (t : State) (copy : Option (List Tagged))
    → IsKept server seats steps → slice_get seats c ≡ Some seat → IsSynchronizedAt r (client_of seat) → state_from server seats steps ≡ t
    → slice_get seats d ≡ Some other → IsSynchronizedAt (r + 1) (client_of other)
    → IfSome copy (λ x. x ≡ other.list) → IfSome copy (IsDelivered t c)
common_other server seats steps c r d seat other t copy kept at is value at-other is-other same =
    let more : r + 1 ≡ suc r = omega arith in
    let later = subst (λ k. IsSynchronizedAt k (client_of other)) more is-other in
    copied server seats steps c r seat t other.list copy kept at is value
    (λ start text sound. list_at start text (state_from server seats steps) d (suc r) (client_of other) sound (client_at seats d other at-other) later) same

-- such a list is what the row makes of the client's
pub common_is :
    (server : History Tagged) (seats : List Seat) (steps c : ℕ) (seat : Seat) (h : Entry) (t : State) (common : Option (List Tagged))
    → state_from server seats steps ≡ t → slice_get seats c ≡ Some seat → slice_get server.log (revision_of seat.client) ≡ Some h
    → IfSome common (IsDelivered t c) → IfSome common (λ list. list ≡ (delivered (client_of seat) h.op).list)
common_is server seats steps c seat h t None value at head is = tt
common_is server seats steps c seat h t (Some d) value at head is =
    let here = subst (λ v. IsDelivered v c d) (sym value) is (client_of seat) h (client_at seats c seat at) head in
    here.1 ∙ ap (λ (p : Phase). apply (against_pending p h.op) seat.list) (sym here.0)
