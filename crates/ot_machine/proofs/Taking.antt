-- The row of a message that goes to the server.
use Rattle.std.proofs.Common.{◌≡◌, ℕ, zero, suc, ◌+◌, ◌-◌, ◌<◌, ◌≤◌, List, [], ◌∷◌, ◌++◌, length, map, set, drop, refl, sym, ap, ◌∙◌, subst, arith, Option, Some, None, Bool, true, false, length-append}
use Rattle.std.proofs.lemmas.Option.{same_Some}
use Rattle.std.specs.Prelude.{slice_get}
use Rattle.std.specs.Option.{is_some}
use Rattle.ot_isa.specs.declared.elements.Tagged.{Tagged}
use Rattle.ot_isa.specs.declared.instruction.Instr.TheVariants.{Take}
use Rattle.ot_server.specs.History.{History, transform_over, received}
use Rattle.ot_model.specs.Table.{Client, Message, State, is_joined, step, Performed, taken}
use Rattle.ot_model.specs.Sound.{IsOutcomeSound, IsSound}
use Rattle.ot_model.proofs.Steps.{step_sound}
use Rattle.ot_model.proofs.Algebra.{laws}
use Rattle.ot_machine.specs.declared.seat.Seat.{Seat}
use Rattle.ot_machine.specs.Seats.{View, view_of, client_of, phase_of, numbers, incoming, queued, emptied, without_message, outstanding_at, received_from, AreQueues, state_from, IsKept}
use Rattle.ot_client.specs.declared.sent.Sent.{Sent}
use Rattle.ot_client.specs.Client.{message_of}
use Rattle.std.specs.Option.{option_map}
use Rattle.ot_machine.specs.Answers.{IsPerformed}
use Rattle.ot_machine.proofs.Accepting.{take_receivable, take_received}
use Rattle.ot_machine.specs.Seats.{IsReceivable}
use Rattle.ot_machine.proofs.RowLaws.{not_full, client_at, joined_of}

pub take_is :
    (s : State) (c : ℕ) (x : Client) (m : Message)
    → slice_get s.clients c ≡ Some x → s.steps < 1000000 → is_joined x.phase ≡ true → x.message ≡ Some m
    → step s (Take c) ≡ Performed (taken s c x (transform_over m.op (drop m.revision s.log))) None
take_is s c x m at below on message = rw (at, not_full s.steps below, on, message) refl

quiet : Client → Client
quiet x = record { revision = x.revision; phase = x.phase; list = x.list; count = x.count; message = None }

clients_sent : (n : ℕ) (seats : List Seat) → map (λ (v : View). v.client) (map (queued n) (map view_of seats)) ≡ map client_of seats
clients_sent n [] = refl
clients_sent n (y ∷ seats) = ap (λ xs. client_of y ∷ xs) (clients_sent n seats)

clients_emptied :
    (n c : ℕ) (seats : List Seat) (seat : Seat) → slice_get seats c ≡ Some seat
    → map (λ (v : View). v.client) (emptied c (map (queued n) (map view_of seats))) ≡ set (map client_of seats) c (quiet (client_of seat))
unfolding quiet
clients_emptied n c [] seat at = absurd (cc)
clients_emptied n zero (y ∷ seats) seat at =
    ap (λ (z : Seat). quiet (client_of z) ∷ map (λ (v : View). v.client) (map (queued n) (map view_of seats))) (same_Some y seat at)
    ∙ ap (λ xs. quiet (client_of seat) ∷ xs) (clients_sent n seats)
clients_emptied n (suc c) (y ∷ seats) seat at = ap (λ xs. client_of y ∷ xs) (clients_emptied n c seats seat at)

pub clients_of : (seats : List Seat) → map (λ (v : View). v.client) (map view_of seats) ≡ map client_of seats
clients_of [] = refl
clients_of (y ∷ seats) = ap (λ xs. client_of y ∷ xs) (clients_of seats)

numbers_push : (r k : ℕ) → numbers r (suc k) ≡ numbers r k ++ (r + k) ∷ []
numbers_push r zero = let e : r + 0 ≡ r = omega arith in rw e refl
numbers_push r (suc k) = let e : suc r + k ≡ r + suc k = omega arith in ap (λ xs. r ∷ xs) (numbers_push (suc r) k ∙ ap (λ m. numbers (suc r) k ++ m ∷ []) e)

numbers_more : (r n : ℕ) → r ≤ n → numbers r (n + 1 - r) ≡ numbers r (n - r) ++ n ∷ []
numbers_more r n le =
    let more : n + 1 - r ≡ suc (n - r) = omega arith in
    let end : r + (n - r) ≡ n = omega arith in
    ap (numbers r) more ∙ numbers_push r (n - r) ∙ ap (λ m. numbers r (n - r) ++ m ∷ []) end

sent_right : (n : ℕ) (v : View) → v.queue ≡ incoming v.client n → v.client.revision ≤ n → (b : Bool) → is_joined v.client.phase ≡ b → (queued n v).queue ≡ incoming v.client (n + 1)
sent_right n v right le true on = rw on (ap (λ q. q ++ n ∷ []) (right ∙ rw on refl) ∙ sym (numbers_more v.client.revision n le))
sent_right n v right le false off = rw off (right ∙ rw off refl)

queues_sent :
    (n : ℕ) (seats : List Seat) → AreQueues n (map view_of seats) → ((d : ℕ) (x : Client) → slice_get (map client_of seats) d ≡ Some x → x.revision ≤ n)
    → AreQueues (n + 1) (map (queued n) (map view_of seats))
queues_sent n [] queues seen d v at = absurd (cc)
queues_sent n (y ∷ seats) queues seen zero v at =
    subst (λ (w : View). w.queue ≡ incoming w.client (n + 1)) (same_Some (queued n (view_of y)) v at)
    (sent_right n (view_of y) (queues zero (view_of y) refl) (seen zero (client_of y) refl) (is_joined (phase_of y.client)) refl)
queues_sent n (y ∷ seats) queues seen (suc d) v at = queues_sent n seats (λ e w h. queues (suc e) w h) (λ e x h. seen (suc e) x h) d v at

queues_emptied : (end c : ℕ) (views : List View) → AreQueues end views → AreQueues end (emptied c views)
queues_emptied end c [] queues d v at = absurd (cc)
queues_emptied end zero (w ∷ views) queues zero v at = subst (λ (u : View). u.queue ≡ incoming u.client end) (same_Some (without_message w) v at) (queues zero w refl)
queues_emptied end zero (w ∷ views) queues (suc d) v at = queues (suc d) v at
queues_emptied end (suc c) (w ∷ views) queues zero v at = queues zero v at
queues_emptied end (suc c) (w ∷ views) queues (suc d) v at = queues_emptied end c views (λ e u h. queues (suc e) u h) d v at

pub record Taken (server after : History Tagged) (seats left : List Seat) (steps c : ℕ) : Type 0 where
  pub row : step (state_from server seats steps) (Take c) ≡ Performed (state_from after left (steps + 1)) None
  pub kept : IsKept after left (steps + 1)

pub take_done :
    (server after : History Tagged) (seats left : List Seat) (steps c : ℕ) (seat : Seat) (m : Message)
    → IsKept server seats steps → slice_get seats c ≡ Some seat → steps < 1000000 → is_some seat.client ≡ true → (client_of seat).message ≡ Some m
    → after ≡ received server c m.revision m.op → map view_of left ≡ emptied c (map (queued (length server.log)) (map view_of seats))
    → Taken server after seats left steps c
unfolding quiet
take_done server after seats left steps c seat m is_kept at below on message is_received views =
    let s : State = state_from server seats steps in
    let n = length server.log in
    let r : History Tagged = received server c m.revision m.op in
    let clients : map client_of left ≡ set (map client_of seats) c (quiet (client_of seat)) =
    sym (clients_of left) ∙ ap (map (λ (v : View). v.client)) views ∙ clients_emptied n c seats seat at in
    let more : steps + 1 ≡ suc steps = omega arith in
    let state : state_from after left (steps + 1) ≡ taken s c (client_of seat) (transform_over m.op (drop m.revision server.log)) = rw (is_received, clients, more) refl in
    let done : step s (Take c) ≡ Performed (state_from after left (steps + 1)) None =
    take_is s c (client_of seat) m (client_at seats c seat at) below (joined_of seat.client on) message ∙ ap (λ t. Performed t None) (sym state) in
    let longer : length after.log ≡ n + 1 = rw is_received (length-append server.log _) in
    record {
      row = done;
      kept = record {
        sound = subst IsOutcomeSound done (step_sound laws s (Take c) is_kept.sound tt);
        queues = rw (views, longer) (queues_emptied (n + 1) c (map (queued n) (map view_of seats)) (queues_sent n seats is_kept.queues is_kept.sound.2.seen));
      };
    }

pub the_message : (up : Option (Sent Tagged)) → (up ≡ None → ⊥) → (m : Message) × (option_map message_of up ≡ Some m)
the_message None on = absurd (on refl)
the_message (Some m) on = (message_of m, refl)

-- the seat has a client and a message
pub record IsSender (server : History Tagged) (seats : List Seat) (steps c : ℕ) (seat : Seat) : Type 0 where
  pub kept : IsKept server seats steps
  pub at : slice_get seats c ≡ Some seat
  pub below : steps < 1000000
  pub on : is_some seat.client ≡ true
  pub up : seat.up ≡ None → ⊥

pub sender_receivable : (server : History Tagged) (seats : List Seat) (steps c : ℕ) (seat : Seat) → IsSender server seats steps c seat → IsReceivable server (outstanding_at (map view_of seats) c)
sender_receivable server seats steps c seat is =
    let m = the_message seat.up is.up in
    take_receivable server seats steps c seat m.0 is.kept is.at is.below is.on m.1

pub sender_performs : (server : History Tagged) (seats : List Seat) (steps c : ℕ) (seat : Seat) (t : State) → IsSender server seats steps c seat → state_from server seats steps ≡ t → IsPerformed (step t (Take c))
sender_performs server seats steps c seat t is value =
    let m = the_message seat.up is.up in
    subst (λ u. IsPerformed (step u (Take c))) value
    (subst IsPerformed (sym (take_is (state_from server seats steps) c (client_of seat) m.0 (client_at seats c seat is.at) is.below (joined_of seat.client is.on) m.1)) tt)

pub sender_done :
    (server after : History Tagged) (seats left : List Seat) (steps c : ℕ) (seat : Seat)
    → IsSender server seats steps c seat → after ≡ received_from server c (outstanding_at (map view_of seats) c) → map view_of left ≡ emptied c (map (queued (length server.log)) (map view_of seats))
    → Taken server after seats left steps c
sender_done server after seats left steps c seat is is_received views =
    let m = the_message seat.up is.up in
    take_done server after seats left steps c seat m.0 is.kept is.at is.below is.on m.1 (is_received ∙ take_received server seats steps c seat m.0 is.kept is.at is.below is.on m.1) views

-- nothing that callers see has changed
pub state_same :
    (server after : History Tagged) (seats left : List Seat) (steps : ℕ) → after ≡ server → map view_of left ≡ map view_of seats
    → state_from after left steps ≡ state_from server seats steps
state_same server after seats left steps is views =
    let clients : map client_of left ≡ map client_of seats = sym (clients_of left) ∙ ap (map (λ (v : View). v.client)) views ∙ clients_of seats in
    rw (is, clients) refl

pub kept_same :
    (server after : History Tagged) (seats left : List Seat) (steps : ℕ) → IsKept server seats steps → after ≡ server → map view_of left ≡ map view_of seats
    → IsKept after left steps
kept_same server after seats left steps is_kept is views =
    record {
      sound = subst IsSound (sym (state_same server after seats left steps is views)) is_kept.sound;
      queues = rw (is, views) is_kept.queues;
    }
