-- A performed row gives a record of its step.
use Rattle.std.proofs.Common.{◌≡◌, ℕ, ◌+◌, List, length, drop, map, set, refl, sym, ap, ◌∙◌, subst, Option, Some, None, false}
use Rattle.std.proofs.lemmas.Option.{slice_get-map}
use Rattle.std.specs.Prelude.{slice_get, IsSomeAnd}
use Rattle.std.specs.Option.{is_some, option_map}
use Rattle.ot_isa.specs.declared.elements.Tagged.{Tagged}
use Rattle.ot_operation.specs.Operation.{Operation}
use Rattle.ot_client.specs.declared.sent.Sent.{Sent}
use Rattle.ot_client.specs.Client.{message_of}
use Rattle.ot_server.specs.History.{History, transform_over}
use Rattle.ot_server.specs.Undo.{IsUndo}
use Rattle.ot_model.specs.declared.shown.Shown.{Shown}
use Rattle.ot_model.specs.Table.{Phase, State, Outcome, Performed, Refused, NoRow, is_joined, taken, with_client}
use Rattle.ot_model.specs.Table as table
use Rattle.ot_model.specs.Sound.{IsSound}
use Rattle.ot_machine.specs.declared.seat.Seat.{Seat}
use Rattle.ot_machine.specs.declared.kept.Before.{Before}
use Rattle.ot_machine.specs.declared.undo.Record.TheVariants as kept
use Rattle.ot_machine.specs.Seats.{view_of, client_of, phase_of, state_from, queued, emptied, outstanding_at, received_from, IsKept}
use Rattle.ot_machine.specs.Undoing.{message_at, message_in, Restores, IsRecord, Undoes}
use Rattle.ot_machine.proofs.Joining.{absent_of}
use Rattle.ot_machine.proofs.RowLaws.{client_at, joined_of, state_changed}
use Rattle.ot_machine.proofs.Taking.{IsSender, sender_done, take_is, the_message}

-- what is performed leads to a single state
state_after : Outcome → State → State
state_after (Performed s shown) other = s
state_after (Refused r) other = other
state_after NoRow other = other

performed_same : (s t : State) (a b : Option Shown) → Performed s a ≡ Performed t b → s ≡ t
unfolding state_after
performed_same s t a b is = ap (λ o. state_after o s) is

pub client_record :
    (server : History Tagged) (seats : List Seat) (steps c : ℕ) (seat new : Seat) (before : Before) (s : State)
    → IsKept server seats steps → slice_get seats c ≡ Some seat → state_from server seats steps ≡ s → Restores before (client_of seat) (client_of new)
    → IsRecord s (state_from server (set seats c new) (steps + 1)) (kept.ClientStep c before)
client_record server seats steps c seat new before s is_kept here value restores =
    record {
      sound = subst IsSound value is_kept.sound;
      step = record {
        was = client_of seat;
        is = client_of new;
        at = ap (λ (t : State). slice_get t.clients c) (sym value) ∙ client_at seats c seat here;
        led = state_changed server seats steps c new ∙ ap (λ t. with_client t c (client_of new)) value;
        restores = restores;
      };
    }

not_joined : (phase : Phase) → is_joined phase ≡ false → phase ≡ table.NotJoined
not_joined table.NotJoined off = refl
not_joined table.Synchronized off = absurd (cc)
not_joined (table.AwaitingConfirm o) off = absurd (cc)
not_joined (table.AwaitingWithBuffer o b) off = absurd (cc)

pub join_record :
    (server : History Tagged) (seats : List Seat) (steps c : ℕ) (seat new : Seat) (s : State)
    → IsKept server seats steps → slice_get seats c ≡ Some seat → is_some seat.client ≡ false → state_from server seats steps ≡ s
    → IsRecord s (state_from server (set seats c new) (steps + 1)) (kept.Joined c)
join_record server seats steps c seat new s is_kept here off value =
    let at = client_at seats c seat here in
    let absents = (is_kept.sound.2.absents c (client_of seat) at (not_joined (phase_of seat.client) (absent_of seat.client off))).0 in
    record {
      sound = subst IsSound value is_kept.sound;
      step = record {
        is = client_of new;
        at = ap (λ (t : State). slice_get t.clients c) (sym value) ∙ at ∙ ap Some absents;
        led = state_changed server seats steps c new ∙ ap (λ t. with_client t c (client_of new)) value;
      };
    }

pub sender_message : (seats : List Seat) (c : ℕ) (seat : Seat) → slice_get seats c ≡ Some seat → message_at (map view_of seats) c ≡ (client_of seat).message
sender_message seats c seat at = ap message_in (slice_get-map view_of seats c ∙ ap (option_map view_of) at)

pub sender_sends :
    (server : History Tagged) (seats : List Seat) (steps c : ℕ) (seat : Seat) → IsSender server seats steps c seat → message_at (map view_of seats) c ≡ None → ⊥
sender_sends server seats steps c seat is none =
    let m = the_message seat.up is.up in
    let e : Some m.0 ≡ None = sym m.1 ∙ sym (sender_message seats c seat is.at) ∙ none in
    cc

pub take_record :
    (server after : History Tagged) (seats left : List Seat) (steps c : ℕ) (seat : Seat) (message : Sent Tagged) (inverse : Operation Tagged) (s : State)
    → IsSender server seats steps c seat → after ≡ received_from server c (outstanding_at (map view_of seats) c)
    → map view_of left ≡ emptied c (map (queued (length server.log)) (map view_of seats))
    → message_at (map view_of seats) c ≡ Some (message_of message) → IsUndo server after inverse → state_from server seats steps ≡ s
    → IsRecord s (state_from after left (steps + 1)) (kept.Taken c message inverse)
take_record server after seats left steps c seat message inverse s is is_received views is_message undo value =
    let m = the_message seat.up is.up in
    let x = client_of seat in
    let op = transform_over m.0.op (drop m.0.revision server.log) in
    let at = client_at seats c seat is.at in
    let row = (sender_done server after seats left steps c seat is is_received views).row in
    let led : state_from after left (steps + 1) ≡ taken (state_from server seats steps) c x op =
    performed_same (state_from after left (steps + 1)) (taken (state_from server seats steps) c x op) None None
    (sym row ∙ take_is (state_from server seats steps) c x m.0 at is.below (joined_of seat.client is.on) m.1) in
    record {
      sound = subst IsSound value is.kept.sound;
      step = record {
        client = x;
        op = op;
        at = ap (λ (t : State). slice_get t.clients c) (sym value) ∙ at;
        message_is = sym (sender_message seats c seat is.at) ∙ is_message;
        led = led ∙ ap (λ t. taken t c x op) value;
        undo = subst (λ (t : State). IsUndo (record { document = t.server; log = t.log }) after inverse) value undo;
      };
    }

-- so where it is recorded
pub kept_take :
    (server after : History Tagged) (seats left : List Seat) (steps c : ℕ) (seat : Seat) (message : Sent Tagged) (inverse : Option (Operation Tagged)) (s : State)
    → IsSender server seats steps c seat → after ≡ received_from server c (outstanding_at (map view_of seats) c)
    → map view_of left ≡ emptied c (map (queued (length server.log)) (map view_of seats))
    → message_at (map view_of seats) c ≡ Some (message_of message) → IsSomeAnd inverse (λ undo. IsUndo server after undo) → state_from server seats steps ≡ s
    → IsSomeAnd (option_map (λ inverse. record { step = kept.Taken c message inverse }) inverse) (Undoes s (state_from after left (steps + 1)))
kept_take server after seats left steps c seat message None s is is_received views is_message undo value = undo
kept_take server after seats left steps c seat message (Some inverse) s is is_received views is_message undo value =
    take_record server after seats left steps c seat message inverse s is is_received views is_message undo value
