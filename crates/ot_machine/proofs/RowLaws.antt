-- The rows of the table, where they perform.
use Rattle.std.proofs.Common.{◌≡◌, ℕ, zero, suc, ◌+◌, ◌<◌, ◌≤◌, List, [], ◌∷◌, length, map, set, get_or, refl, sym, ap, ◌∙◌, subst, arith, Option, Some, None, true, false, Ok, Err}
use Rattle.std.proofs.lemmas.Bool.Decides.{nat_tests}
use Rattle.std.proofs.lemmas.List.{map-set}
use Rattle.std.proofs.lemmas.Option.{slice_get-map, slice_get_read, same_Some}
use Rattle.std.specs.Prelude.{slice_get, nat_le, nat_lt, ◌==◌}
use Rattle.ot_operation.specs.Operation.{Operation, apply}
use Rattle.ot_isa.specs.declared.elements.Tagged.{Tagged}
use Rattle.ot_isa.specs.declared.instruction.Instr.{Instr}
use Rattle.ot_isa.specs.declared.instruction.Instr.TheVariants.{Edit}
use Rattle.std.specs.Option.{is_some}
use Rattle.std.specs.Result.{IsErrAnd}
use Rattle.std.specs.Prelude.{Result, IfErr}
use Rattle.ot_model.specs.declared.shown.Refusal.{Refusal}
use Rattle.ot_model.specs.declared.shown.Refusal.TheVariants.{Memory}
use Rattle.ot_machine.specs.Answers.{IsPerformed, IsRefusal}
use Rattle.ot_operation.specs.Operation.{IsOperation}
use Rattle.std.specs.Option.{option_map}
use Rattle.ot_client.specs.declared.sent.Sent.{Sent}
use Rattle.ot_client.specs.Client.{message_of}
use Rattle.ot_client.specs.declared.client.Client as program
use Rattle.ot_client.specs.declared.client.Client.TheVariants as program_client
use Rattle.ot_server.specs.History.{History}
use Rattle.ot_model.specs.Operation.{inserted}
use Rattle.ot_model.specs.declared.shown.Shown.{Shown}
use Rattle.ot_model.specs.Table.{Client, Phase, State, is_joined, Outcome, Entry, Message, NotJoined, Synchronized, AwaitingConfirm, AwaitingWithBuffer, phase_edited, step, Performed, with_client, edited, tag_operation}
use Rattle.ot_model.specs.Sound.{IsPhaseSound, apply_entries, IsInstr, IsOutcomeSound}
use Rattle.ot_model.proofs.Steps.{step_sound}
use Rattle.ot_model.proofs.Algebra.{laws}
use Rattle.ot_model.proofs.States.{length-news-tag_items}
use Rattle.ot_machine.specs.declared.seat.Seat.{Seat}
use Rattle.ot_machine.specs.Seats.{View, view_of, phase_of, client_of, incoming, AreQueues, state_from, IsKept, Follows, MaySend}

pub not_full : (steps : ℕ) → steps < 1000000 → nat_le 1000000 steps ≡ false
not_full steps below = grind (arith, nat_tests)

pub same : (a b : ℕ) → a ≡ b → (a == b) ≡ true
same a b e = grind (arith, nat_tests)

pub within : (a b : ℕ) → b ≤ a → nat_lt a b ≡ false
within a b le = grind (arith, nat_tests)

pub edit_is :
    (s : State) (c : ℕ) (x : Client) (op : Operation ℕ)
    → slice_get s.clients c ≡ Some x → s.steps < 1000000 → is_joined x.phase ≡ true → op.base ≡ length x.list → x.count + inserted op ≤ 15000
    → step s (Edit c op) ≡ Performed (with_client s c (edited x (tag_operation c x.count op))) None
edit_is s c x op at below on base fits = rw (at, not_full s.steps below, on, same op.base (length x.list) base, within 15000 (x.count + inserted op) fits) refl

-- the seat's client in the table
pub client_at : (seats : List Seat) (c : ℕ) (seat : Seat) → slice_get seats c ≡ Some seat → slice_get (map client_of seats) c ≡ Some (client_of seat)
client_at seats c seat at = rw (slice_get-map client_of seats c, at) refl

pub seat_at : (seats : List Seat) (c n : ℕ) (seat : Seat) → n ≡ length seats → c < n → seat ≡ get_or seats c seat → slice_get seats c ≡ Some seat
seat_at seats c n seat many there is = slice_get_read seats n c seat many there is

-- a changed seat is a changed client
pub state_changed :
    (server : History Tagged) (seats : List Seat) (steps c : ℕ) (seat : Seat)
    → state_from server (set seats c seat) (steps + 1) ≡ with_client (state_from server seats steps) c (client_of seat)
state_changed server seats steps c seat =
    let more : steps + 1 ≡ suc steps = omega arith in
    rw (map-set client_of seats c seat, more) refl

-- what stands on the way to a client
pub queue_at : (server : History Tagged) (seats : List Seat) (steps c : ℕ) (seat : Seat) → IsKept server seats steps → slice_get seats c ≡ Some seat → seat.down.items ≡ incoming (client_of seat) (length server.log)
queue_at server seats steps c seat is_kept at =
    let there : slice_get (map view_of seats) c ≡ Some (view_of seat) = rw (slice_get-map view_of seats c, at) refl in
    is_kept.queues c (view_of seat) there

-- what a row leaves sound is kept, where the seat's queue is right
pub kept :
    (server : History Tagged) (seats : List Seat) (steps c : ℕ) (seat : Seat) (i : Instr) (shown : Option Shown)
    → IsKept server seats steps → IsInstr i
    → step (state_from server seats steps) i ≡ Performed (state_from server (set seats c seat) (steps + 1)) shown
    → seat.down.items ≡ incoming (client_of seat) (length server.log)
    → IsKept server (set seats c seat) (steps + 1)
kept server seats steps c seat i shown is_kept is_instr is queue =
    record {
      sound = subst IsOutcomeSound is (step_sound laws (state_from server seats steps) i is_kept.sound is_instr);
      queues = rw (map-set view_of seats c seat) (queues_set (map view_of seats) c (view_of seat) (length server.log) is_kept.queues queue);
    }
  where
    queues_set : (views : List View) (c : ℕ) (v : View) (end : ℕ) → AreQueues end views → v.queue ≡ incoming v.client end → AreQueues end (set views c v)
    queues_set [] c v end queues queue d x at = absurd (cc)
    queues_set (y ∷ views) zero v end queues queue zero x at = subst (λ (z : View). z.queue ≡ incoming z.client end) (same_Some v x at) queue
    queues_set (y ∷ views) zero v end queues queue (suc d) x at = queues (suc d) x at
    queues_set (y ∷ views) (suc c) v end queues queue zero x at = queues zero x at
    queues_set (y ∷ views) (suc c) v end queues queue (suc d) x at = queues_set views c v end (λ e z h. queues (suc e) z h) queue d x at

pub joined_of : (client : Option (program.Client Tagged)) → is_some client ≡ true → is_joined (phase_of client) ≡ true
joined_of None on = absurd (cc)
joined_of (Some (program_client.Synchronized client)) on = refl
joined_of (Some (program_client.AwaitingConfirm client)) on = refl
joined_of (Some (program_client.AwaitingWithBuffer client)) on = refl

-- an edit of the client's list follows what the client has made
phase_follows :
    (c base : ℕ) (phase : Phase) (start : List Tagged) (seen ahead : List Entry) (list : List Tagged) (message : Option Message)
    → is_joined phase ≡ true → IsPhaseSound c phase start seen ahead list message → base ≡ length list → Follows phase base
phase_follows c base NotJoined start seen ahead list message on sound fits = absurd (cc)
phase_follows c base Synchronized start seen ahead list message on sound fits = tt
phase_follows c base (AwaitingConfirm o) start seen ahead list message on sound fits =
    fits ∙ ap length sound.list_is ∙ laws.apply-length o (apply_entries start seen) sound.fits
phase_follows c base (AwaitingWithBuffer o b) start seen ahead list message on sound fits =
    fits ∙ ap length sound.list_is ∙ laws.apply-length b (apply o (apply_entries start seen)) sound.buffer_fits

pub follows :
    (server : History Tagged) (seats : List Seat) (steps c : ℕ) (seat : Seat) (base : ℕ)
    → IsKept server seats steps → slice_get seats c ≡ Some seat → is_joined (phase_of seat.client) ≡ true → base ≡ length seat.list
    → Follows (phase_of seat.client) base
follows server seats steps c seat base is_kept at on fits =
    let sound = is_kept.sound.2 in
    phase_follows c base (phase_of seat.client) is_kept.sound.0 _ _ seat.list _ on (sound.clients c (client_of seat) (client_at seats c seat at)) fits

-- where nothing is under way, nothing is on the link
pub none_up : (up : Option (Sent Tagged)) → option_map message_of up ≡ None → up ≡ None
none_up None none = refl
none_up (Some sent) none = absurd (cc)

phase_sends :
    (c : ℕ) (phase : Phase) (start : List Tagged) (seen ahead : List Entry) (list : List Tagged) (up : Option (Sent Tagged))
    → IsPhaseSound c phase start seen ahead list (option_map message_of up) → MaySend phase up
phase_sends c NotJoined start seen ahead list up sound = tt
phase_sends c Synchronized start seen ahead list up sound = none_up up sound.message_is
phase_sends c (AwaitingConfirm o) start seen ahead list up sound = tt
phase_sends c (AwaitingWithBuffer o b) start seen ahead list up sound = tt

pub sends :
    (server : History Tagged) (seats : List Seat) (steps c : ℕ) (seat : Seat)
    → IsKept server seats steps → slice_get seats c ≡ Some seat → MaySend (phase_of seat.client) seat.up
sends server seats steps c seat is_kept at =
    phase_sends c (phase_of seat.client) is_kept.sound.0 _ _ seat.list seat.up (is_kept.sound.2.clients c (client_of seat) (client_at seats c seat at))

phase_joined : (phase : Phase) (op : Operation Tagged) → is_joined (phase_edited phase op) ≡ is_joined phase
phase_joined NotJoined op = refl
phase_joined Synchronized op = refl
phase_joined (AwaitingConfirm o) op = refl
phase_joined (AwaitingWithBuffer o b) op = refl

incoming_edited : (x : Client) (op : Operation Tagged) (end : ℕ) → incoming (edited x op) end ≡ incoming x end
incoming_edited x op end = rw (phase_joined x.phase op) refl

-- a row that changes one seat
pub record Changed (server : History Tagged) (seats : List Seat) (steps c : ℕ) (new : Seat) (i : Instr) : Type 0 where
  pub row : step (state_from server seats steps) i ≡ Performed (state_from server (set seats c new) (steps + 1)) None
  pub kept : IsKept server (set seats c new) (steps + 1)

pub edit_done :
    (server : History Tagged) (seats : List Seat) (steps c : ℕ) (seat new : Seat) (op : Operation ℕ) (tagged_op : Operation Tagged)
    → IsKept server seats steps → slice_get seats c ≡ Some seat → steps < 1000000 → is_some seat.client ≡ true → IsOperation op
    → op.base ≡ length seat.list → seat.count + inserted op ≤ 15000
    → tagged_op ≡ tag_operation c seat.count op → client_of new ≡ edited (client_of seat) tagged_op → new.down ≡ seat.down
    → Changed server seats steps c new (Edit c op)
edit_done server seats steps c seat new op tagged_op is_kept at below on rises base fits is_tagged is_edited down =
    let s : State = state_from server seats steps in
    let done : step s (Edit c op) ≡ Performed (state_from server (set seats c new) (steps + 1)) None =
    edit_is s c (client_of seat) op (client_at seats c seat at) below (joined_of seat.client on) base fits
    ∙ ap (λ o. Performed (with_client s c (edited (client_of seat) o)) None) (sym is_tagged)
    ∙ ap (λ x. Performed (with_client s c x) None) (sym is_edited)
    ∙ ap (λ t. Performed t None) (sym (state_changed server seats steps c new)) in
    let queue : new.down.items ≡ incoming (client_of new) (length server.log) =
    rw down (queue_at server seats steps c seat is_kept at ∙ sym (incoming_edited (client_of seat) _ (length server.log)) ∙ ap (λ x. incoming x (length server.log)) (sym is_edited)) in
    record { row = done; kept = kept server seats steps c new (Edit c op) None is_kept rises done queue }

-- the tagged operation inserts as much
pub tagged_inserts : (c k : ℕ) (op : Operation ℕ) → inserted (tag_operation c k op) ≡ inserted op
tagged_inserts c k op = length-news-tag_items c k op.image

-- out of memory, where the row performs
pub wanting : {X : Type 0} (result : Result X Refusal) (outcome : Outcome) → IsErrAnd result (λ e. e ≡ Memory) → IsPerformed outcome → IfErr result (λ r. IsRefusal outcome r)
wanting (Ok x) outcome is performs = absurd is
wanting (Err e) outcome is performs = subst (λ r. IsRefusal outcome r) (sym is) performs

pub performs : (outcome : Outcome) (t : State) (shown : Option Shown) → outcome ≡ Performed t shown → IsPerformed outcome
performs outcome t shown is = subst IsPerformed (sym is) tt

-- what is known of the fields is known of the value
pub of_value : (s t : State) (i : Instr) (outcome : Outcome) → s ≡ t → step s i ≡ outcome → step t i ≡ outcome
of_value s t i outcome is row = subst (λ u. step u i ≡ outcome) is row
