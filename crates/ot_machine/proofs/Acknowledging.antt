-- The row of an acknowledgement.
use Rattle.std.proofs.Common.{◌≡◌, ℕ, suc, ◌+◌, ◌-◌, ◌<◌, ◌≤◌, List, ◌∷◌, length, take, drop, set, refl, sym, ap, ◌∙◌, subst, arith, Option, Some, None, true, false}
use Rattle.std.proofs.lemmas.Option.{slice_get_within, same_Some}
use Rattle.std.proofs.lemmas.Bool.{eqb-true}
use Rattle.std.specs.Prelude.{slice_get, ◌==◌}
use Rattle.ot_isa.specs.declared.elements.Tagged.{Tagged}
use Rattle.ot_isa.specs.declared.instruction.Instr.TheVariants.{Acknowledge}
use Rattle.ot_server.specs.History.{History}
use Rattle.ot_model.specs.declared.shown.Refusal.TheVariants.{LinkEmpty, WrongHead}
use Rattle.ot_model.specs.Operation.{Operation}
use Rattle.ot_model.specs.Table.{Client, Entry, Message, Phase, NotJoined, Synchronized, AwaitingConfirm, AwaitingWithBuffer, State, is_joined, step, Performed, Refused, with_client, acknowledged}
use Rattle.ot_model.specs.Sound.{IsPhaseSound, IsSent}
use Rattle.ot_model.proofs.Algebra.{laws}
use Rattle.ot_model.proofs.States.{drop_entry, acknowledged_kept}
use Rattle.ot_machine.specs.declared.seat.Seat.{Seat}
use Rattle.ot_machine.specs.Seats.{phase_of, revision_of, client_of, state_from, incoming, numbers, IsAwaiting, MaySeatAcknowledge}
use Rattle.ot_machine.specs.Answers.{IsPerformed}
use Rattle.ot_machine.proofs.RowLaws.{not_full, joined_of, client_at, none_up, of_value, performs, kept, state_changed, Changed}
use Rattle.ot_machine.proofs.Delivering.{IsReceiver, receiver_queue, queue_rest}

acknowledge_is :
    (s : State) (c : ℕ) (x y : Client) (h : Entry)
    → slice_get s.clients c ≡ Some x → s.steps < 1000000 → is_joined x.phase ≡ true → slice_get s.log x.revision ≡ Some h → (h.maker == c) ≡ true → acknowledged x x.phase ≡ Some y
    → step s (Acknowledge c) ≡ Performed (with_client s c y) None
acknowledge_is s c x y h at below on head own is = rw (at, not_full s.steps below, on, head, own, is) refl

pub acknowledge_empty :
    (server : History Tagged) (seats : List Seat) (steps c : ℕ) (seat : Seat) (t : State) → IsReceiver server seats steps c seat → state_from server seats steps ≡ t → slice_get server.log (revision_of seat.client) ≡ None
    → step t (Acknowledge c) ≡ Refused LinkEmpty
acknowledge_empty server seats steps c seat t is value none =
    let s : State = state_from server seats steps in
    let row : step s (Acknowledge c) ≡ Refused LinkEmpty = rw (client_at seats c seat is.at, not_full steps is.below, joined_of seat.client is.on, none) refl in
    of_value _ t (Acknowledge c) _ value row

pub acknowledge_wrong :
    (server : History Tagged) (seats : List Seat) (steps c : ℕ) (seat : Seat) (h : Entry) (t : State)
    → IsReceiver server seats steps c seat → slice_get server.log (revision_of seat.client) ≡ Some h → (h.maker == c) ≡ false → state_from server seats steps ≡ t
    → step t (Acknowledge c) ≡ Refused WrongHead
acknowledge_wrong server seats steps c seat h t is head other value =
    let s : State = state_from server seats steps in
    let row : step s (Acknowledge c) ≡ Refused WrongHead = rw (client_at seats c seat is.at, not_full steps is.below, joined_of seat.client is.on, head, other) refl in
    of_value _ t (Acknowledge c) _ value row

-- what is acknowledged was sent, and nothing is under way any more
none_sent :
    (c : ℕ) (o : Operation Tagged) (start : List Tagged) (seen ahead : List Entry) (message : Option Message) (h : Entry)
    → h.maker ≡ c → IsSent c o start seen (h ∷ ahead) message → message ≡ None
none_sent c o start seen ahead None h own sent = refl
none_sent c o start seen ahead (Some m) h own sent = absurd (sent.none.0 own)

phase_acknowledged :
    (c : ℕ) (phase : Phase) (start : List Tagged) (seen ahead : List Entry) (list : List Tagged) (message : Option Message) (h : Entry)
    → is_joined phase ≡ true → h.maker ≡ c → IsPhaseSound c phase start seen (h ∷ ahead) list message → IsAwaiting phase × (message ≡ None)
phase_acknowledged c NotJoined start seen ahead list message h on own sound = absurd (cc)
phase_acknowledged c Synchronized start seen ahead list message h on own sound = absurd (sound.none.0 own)
phase_acknowledged c (AwaitingConfirm o) start seen ahead list message h on own sound = (tt, none_sent c o start seen ahead message h own sound.sent)
phase_acknowledged c (AwaitingWithBuffer o b) start seen ahead list message h on own sound = (tt, none_sent c o start seen ahead message h own sound.sent)

pub acknowledge_may :
    (server : History Tagged) (seats : List Seat) (steps c : ℕ) (seat : Seat) (h : Entry)
    → IsReceiver server seats steps c seat → slice_get server.log (revision_of seat.client) ≡ Some h → (h.maker == c) ≡ true → MaySeatAcknowledge seat
acknowledge_may server seats steps c seat h is head own =
    let sound = is.kept.sound.2 in
    let r = revision_of seat.client in
    let inside : r < length server.log = slice_get_within server.log r h head in
    let logged : length server.log ≤ steps = sound.logged in
    let under : steps < 1000000 = is.below in
    let fact = phase_acknowledged c (phase_of seat.client) is.kept.sound.0 (take r server.log) (drop (suc r) server.log) seat.list (client_of seat).message h (joined_of seat.client is.on) (eqb-true h.maker c own)
    (subst (λ ahead. IsPhaseSound c (phase_of seat.client) is.kept.sound.0 (take r server.log) ahead seat.list (client_of seat).message) (drop_entry server.log r h head) (sound.clients c (client_of seat) (client_at seats c seat is.at))) in
    (fact.0, omega arith, none_up seat.up fact.1)

-- the client after it, which there is
acknowledged_moves : (x y : Client) (phase : Phase) → acknowledged x phase ≡ Some y → (y.revision ≡ suc x.revision) × (is_joined y.phase ≡ true)
acknowledged_moves x y NotJoined is = absurd (cc)
acknowledged_moves x y Synchronized is = absurd (cc)
acknowledged_moves x y (AwaitingConfirm o) is = let e = same_Some _ y is in (ap (λ (z : Client). z.revision) (sym e), ap (λ (z : Client). is_joined z.phase) (sym e))
acknowledged_moves x y (AwaitingWithBuffer o b) is = let e = same_Some _ y is in (ap (λ (z : Client). z.revision) (sym e), ap (λ (z : Client). is_joined z.phase) (sym e))

pub acknowledge_performs :
    (server : History Tagged) (seats : List Seat) (steps c : ℕ) (seat : Seat) (h : Entry) (t : State)
    → IsReceiver server seats steps c seat → slice_get server.log (revision_of seat.client) ≡ Some h → (h.maker == c) ≡ true → state_from server seats steps ≡ t
    → IsPerformed (step t (Acknowledge c))
acknowledge_performs server seats steps c seat h t is head own value =
    let s : State = state_from server seats steps in
    let at = client_at seats c seat is.at in
    let fact = acknowledged_kept laws is.kept.sound.0 is.kept.sound.1 s c (client_of seat) h is.kept.sound.2 at head (eqb-true h.maker c own) (joined_of seat.client is.on) in
    performs (step t (Acknowledge c)) _ _ (of_value _ t (Acknowledge c) _ value (acknowledge_is s c (client_of seat) fact.0 h at is.below (joined_of seat.client is.on) head own fact.1))

pub acknowledge_done :
    (server : History Tagged) (seats : List Seat) (steps c : ℕ) (seat new : Seat) (h : Entry)
    → IsReceiver server seats steps c seat → slice_get server.log (revision_of seat.client) ≡ Some h → (h.maker == c) ≡ true
    → acknowledged (client_of seat) (phase_of seat.client) ≡ Some (client_of new) → new.down.items ≡ drop 1 seat.down.items
    → Changed server seats steps c new (Acknowledge c)
acknowledge_done server seats steps c seat new h is head own is_acknowledged down =
    let s : State = state_from server seats steps in
    let r = revision_of seat.client in
    let inside : r < length server.log = slice_get_within server.log r h head in
    let done : step s (Acknowledge c) ≡ Performed (state_from server (set seats c new) (steps + 1)) None =
    acknowledge_is s c (client_of seat) (client_of new) h (client_at seats c seat is.at) is.below (joined_of seat.client is.on) head own is_acknowledged
    ∙ ap (λ t. Performed t None) (sym (state_changed server seats steps c new)) in
    let moves = acknowledged_moves (client_of seat) (client_of new) (phase_of seat.client) is_acknowledged in
    let queue : new.down.items ≡ incoming (client_of new) (length server.log) =
    down ∙ queue_rest r (length server.log) seat.down.items (receiver_queue server seats steps c seat is) inside
    ∙ ap (λ k. numbers k (length server.log - k)) (sym moves.0) ∙ rw moves.1 refl in
    record { row = done; kept = kept server seats steps c new (Acknowledge c) None is.kept tt done queue }
