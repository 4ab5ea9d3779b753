-- The state before a Take.
use Rattle.std.proofs.Common.{◌≡◌, ℕ, zero, suc, ◌+◌, ◌-◌, ◌<◌, ◌≤◌, List, [], ◌∷◌, ◌++◌, length, map, set, take, get_or, refl, sym, ap, ◌∙◌, subst, arith, Option, Some, None, Bool, true, false, length-append}
use Rattle.std.proofs.lemmas.List.{map-set, length-map}
use Rattle.std.proofs.lemmas.Option.{slice_get-map, slice_get_read, same_Some, slice_get_within}
use Rattle.std.specs.Prelude.{slice_get}
use Rattle.std.specs.Option.{option_map}
use Rattle.ot_isa.specs.declared.elements.Tagged.{Tagged}
use Rattle.ot_operation.specs.Operation.{Operation}
use Rattle.ot_client.specs.declared.sent.Sent.{Sent}
use Rattle.ot_client.specs.Client.{message_of}
use Rattle.ot_server.specs.History.{History}
use Rattle.ot_server.specs.Undo.{IsUndo}
use Rattle.ot_model.specs.Table.{Client, Message, State, is_joined}
use Rattle.ot_model.specs.Sound.{IsSound}
use Rattle.ot_machine.specs.declared.seat.Seat.{Seat}
use Rattle.ot_machine.specs.Seats.{View, view_of, client_of, phase_of, revision_of, numbers, incoming, AreQueues, state_from, IsKept}
use Rattle.ot_machine.specs.Undoing.{unsent, IsRecord, Undoes}
use Rattle.ot_machine.specs.declared.undo.Undo.{Undo}
use Rattle.ot_machine.specs.declared.undo.Record.TheVariants.{Taken}
use Rattle.ot_links.specs.Queue.{Queue}
use Rattle.ot_machine.proofs.RowLaws.{client_at}
use Rattle.ot_machine.proofs.Taking.{clients_of}
use Rattle.ot_machine.proofs.Reverting.{Undone, same_state, set_back, set_here, queues_set, length_set}

-- a Take undone
quiet : Client → Client
quiet x = record { revision = x.revision; phase = x.phase; list = x.list; count = x.count; message = None }

clients_unsent : (seats : List Seat) → map (λ (v : View). v.client) (map unsent (map view_of seats)) ≡ map client_of seats
clients_unsent [] = refl
clients_unsent (y ∷ seats) = ap (λ xs. client_of y ∷ xs) (clients_unsent seats)

numbers_push : (r k : ℕ) → numbers r (suc k) ≡ numbers r k ++ (r + k) ∷ []
numbers_push r zero = let e : r + 0 ≡ r = omega arith in rw e refl
numbers_push r (suc k) = let e : suc r + k ≡ r + suc k = omega arith in ap (λ xs. r ∷ xs) (numbers_push (suc r) k ∙ ap (λ m. numbers (suc r) k ++ m ∷ []) e)

take_all : {X : Type 0} (xs : List X) (y : X) → take (length xs) (xs ++ y ∷ []) ≡ xs
take_all [] y = refl
take_all (x ∷ xs) y = ap (λ zs. x ∷ zs) (take_all xs y)

without_last : {X : Type 0} (xs : List X) (y : X) → take (length (xs ++ y ∷ []) - 1) (xs ++ y ∷ []) ≡ xs
without_last xs y =
    let e : length (xs ++ y ∷ []) ≡ length xs + 1 = length-append xs (y ∷ []) in
    let less : length (xs ++ y ∷ []) - 1 ≡ length xs = omega (arith, e) in
    ap (λ n. take n (xs ++ y ∷ [])) less ∙ take_all xs y

numbers_less : (r n : ℕ) (queue : List ℕ) → r ≤ n → queue ≡ numbers r (n + 1 - r) → take (length queue - 1) queue ≡ numbers r (n - r)
numbers_less r n queue le is =
    let more : n + 1 - r ≡ suc (n - r) = omega arith in
    ap (λ q. take (length q - 1) q) (is ∙ ap (numbers r) more ∙ numbers_push r (n - r)) ∙ without_last (numbers r (n - r)) (r + (n - r))

unsent_right : (n : ℕ) (v : View) → v.queue ≡ incoming v.client (n + 1) → v.client.revision ≤ n → (b : Bool) → is_joined v.client.phase ≡ b → (unsent v).queue ≡ incoming v.client n
unsent_right n v right le true on = rw on (numbers_less v.client.revision n v.queue le (right ∙ rw on refl))
unsent_right n v right le false off =
    let none : v.queue ≡ [] = right ∙ rw off refl in
    rw (off, none) refl

queues_unsent :
    (n : ℕ) (seats : List Seat) → AreQueues (n + 1) (map view_of seats) → ((d : ℕ) (x : Client) → slice_get (map client_of seats) d ≡ Some x → x.revision ≤ n)
    → AreQueues n (map unsent (map view_of seats))
queues_unsent n [] queues seen d v at = absurd (cc)
queues_unsent n (y ∷ seats) queues seen zero v at =
    subst (λ (w : View). w.queue ≡ incoming w.client n) (same_Some (unsent (view_of y)) v at)
    (unsent_right n (view_of y) (queues zero (view_of y) refl) (seen zero (client_of y) refl) (is_joined (phase_of y.client)) refl)
queues_unsent n (y ∷ seats) queues seen (suc d) v at = queues_unsent n seats (λ e w h. queues (suc e) w h) (λ e x h. seen (suc e) x h) d v at

seen_set :
    (n : ℕ) (xs : List Client) (c : ℕ) (x : Client) → ((d : ℕ) (y : Client) → slice_get xs d ≡ Some y → y.revision ≤ n) → x.revision ≤ n
    → (d : ℕ) (y : Client) → slice_get (set xs c x) d ≡ Some y → y.revision ≤ n
seen_set n [] c x seen le d y at = seen d y at
seen_set n (z ∷ xs) zero x seen le zero y at = subst (λ (w : Client). w.revision ≤ n) (same_Some x y at) le
seen_set n (z ∷ xs) zero x seen le (suc d) y at = seen (suc d) y at
seen_set n (z ∷ xs) (suc c) x seen le zero y at = seen zero y at
seen_set n (z ∷ xs) (suc c) x seen le (suc d) y at = seen_set n xs c x (λ e w h. seen (suc e) w h) le d y at

-- the server's fields of a state
pub history : State → History Tagged
history s = record { document = s.server; log = s.log }

history_of : (server : History Tagged) (seats : List Seat) (steps : ℕ) (s : State) → state_from server seats steps ≡ s → server ≡ history s
unfolding history
history_of server seats steps s value = ap (λ (t : State). history t) value

pub take_undo :
    (server : History Tagged) (seats : List Seat) (steps c : ℕ) (message : Sent Tagged) (inverse : Operation Tagged) (earlier s : State)
    → state_from server seats steps ≡ s → IsRecord earlier s (Taken c message inverse) → IsUndo (history earlier) server inverse
unfolding history
take_undo server seats steps c message inverse earlier s value is =
    subst (λ h. IsUndo (history earlier) h inverse) (sym (history_of server seats steps s value)) is.step.undo

pub take_there :
    (server : History Tagged) (seats : List Seat) (steps c : ℕ) (message : Sent Tagged) (inverse : Operation Tagged) (earlier s : State)
    → state_from server seats steps ≡ s → IsRecord earlier s (Taken c message inverse) → c < length seats
take_there server seats steps c message inverse earlier s value is =
    let clients : map client_of seats ≡ set earlier.clients c _ = ap (λ (s : State). s.clients) (value ∙ is.step.led) in
    let there : c < length earlier.clients = slice_get_within earlier.clients c is.step.client is.step.at in
    let many : length seats ≡ length earlier.clients = sym (length-map seats client_of) ∙ ap length clients ∙ length_set earlier.clients c _ in
    omega (arith, many, there)

pub unsent_there : (seats mid : List Seat) (c : ℕ) → map view_of mid ≡ map unsent (map view_of seats) → c < length seats → c < length mid
unsent_there seats mid c views there =
    let many : length mid ≡ length seats = sym (length-map mid view_of) ∙ ap length views ∙ length-map (map view_of seats) unsent ∙ length-map seats view_of in
    omega (arith, many, there)

mid_clients : (seats mid : List Seat) → map view_of mid ≡ map unsent (map view_of seats) → map client_of mid ≡ map client_of seats
mid_clients seats mid views = sym (clients_of mid) ∙ ap (map (λ (v : View). v.client)) views ∙ clients_unsent seats

-- nothing is under way from the client whose message was taken
take_client :
    (server : History Tagged) (seats mid : List Seat) (steps c : ℕ) (seat : Seat) (message : Sent Tagged) (inverse : Operation Tagged) (earlier s : State)
    → state_from server seats steps ≡ s → (is : IsRecord earlier s (Taken c message inverse)) → map view_of mid ≡ map unsent (map view_of seats) → slice_get mid c ≡ Some seat
    → client_of seat ≡ quiet is.step.client
unfolding quiet
take_client server seats mid steps c seat message inverse earlier s value is views here =
    set_here earlier.clients c (quiet is.step.client) is.step.client (client_of seat) is.step.at
    (sym (ap (λ xs. slice_get xs c) (mid_clients seats mid views ∙ ap (λ (t : State). t.clients) (value ∙ is.step.led))) ∙ client_at mid c seat here)

no_message : (up : Option (Sent Tagged)) → option_map message_of up ≡ None → up ≡ None
no_message None none = refl
no_message (Some sent) none = absurd (cc)

pub take_quiet :
    (server : History Tagged) (seats mid : List Seat) (steps c : ℕ) (seat : Seat) (message : Sent Tagged) (inverse : Operation Tagged) (earlier s : State)
    → state_from server seats steps ≡ s → IsRecord earlier s (Taken c message inverse) → map view_of mid ≡ map unsent (map view_of seats) → slice_get mid c ≡ Some seat
    → seat.up ≡ None
unfolding quiet
take_quiet server seats mid steps c seat message inverse earlier s value is views here =
    no_message seat.up (ap (λ (x : Client). x.message) (take_client server seats mid steps c seat message inverse earlier s value is views here))

-- the client with its message again
sending : Option Message → Client → Client
sending message x = record { revision = x.revision; phase = x.phase; list = x.list; count = x.count; message = message }

sending_back : (x : Client) (message : Option Message) → x.message ≡ message → sending message (quiet x) ≡ x
unfolding sending quiet
sending_back x message is = rw (← is) refl

pub take_undone :
    (server after : History Tagged) (seats mid : List Seat) (steps c : ℕ) (seat new : Seat) (message : Sent Tagged) (inverse : Operation Tagged) (earlier s : State)
    → IsKept server seats steps → state_from server seats steps ≡ s → IsRecord earlier s (Taken c message inverse) → after ≡ history earlier
    → map view_of mid ≡ map unsent (map view_of seats) → slice_get mid c ≡ Some seat
    → client_of new ≡ record { revision = revision_of seat.client; phase = phase_of seat.client; list = seat.list; count = seat.count; message = Some (message_of message) } → new.down ≡ seat.down
    → Undone after (set mid c new) (steps - 1) earlier
unfolding history quiet sending
take_undone server after seats mid steps c seat new message inverse earlier s is_kept value is returned views here changed down =
    let led = value ∙ is.step.led in
    let x = is.step.client in
    let n = length earlier.log in
    let counted : steps ≡ suc earlier.steps = ap (λ (t : State). t.steps) led in
    let now : client_of seat ≡ quiet x = take_client server seats mid steps c seat message inverse earlier s value is views here in
    let back : client_of new ≡ x = changed ∙ ap (sending (Some (message_of message))) now ∙ sending_back x (Some (message_of message)) is.step.message_is in
    let clients : map client_of mid ≡ set earlier.clients c (quiet x) = mid_clients seats mid views ∙ ap (λ (t : State). t.clients) led in
    let state : state_from after (set mid c new) (steps - 1) ≡ earlier =
    same_state _ earlier (ap (λ (h : History Tagged). h.log) returned) (ap (λ (h : History Tagged). h.document) returned)
    (map-set client_of mid c new ∙ ap (λ xs. set xs c (client_of new)) clients
    ∙ ap (λ y. set (set earlier.clients c (quiet x)) c y) back ∙ set_back earlier.clients c (quiet x) x is.step.at)
    (omega (arith, counted)) in
    let longer : length server.log ≡ n + 1 = ap (λ (t : State). length t.log) led ∙ length-append earlier.log _ in
    let seen_then : (d : ℕ) (y : Client) → slice_get earlier.clients d ≡ Some y → y.revision ≤ n = is.sound.2.seen in
    let seen : (d : ℕ) (y : Client) → slice_get (map client_of seats) d ≡ Some y → y.revision ≤ n =
    λ d y at. seen_set n earlier.clients c (quiet x) seen_then (seen_then c x is.step.at) d y (ap (λ (t : State). slice_get t.clients d) (sym led) ∙ at) in
    let queues : AreQueues n (map view_of mid) = subst (AreQueues n) (sym views) (queues_unsent n seats (subst (λ k. AreQueues k (map view_of seats)) longer is_kept.queues) seen) in
    let mid_at : slice_get (map view_of mid) c ≡ Some (view_of seat) = slice_get-map view_of mid c ∙ ap (option_map view_of) here in
    let queue : new.down.items ≡ incoming (client_of new) n =
    ap (λ (q : Queue ℕ). q.items) down ∙ queues c (view_of seat) mid_at ∙ ap (λ (y : Client). incoming y n) (sym (changed)) in
    record {
      state = state;
      kept = record {
        sound = subst IsSound (sym state) is.sound;
        queues = subst (λ (h : History Tagged). AreQueues (length h.log) (map view_of (set mid c new))) (sym returned)
            (rw (map-set view_of mid c new) (queues_set (map view_of mid) c (view_of new) n queues queue));
      };
    }

pub take_seat :
    (server : History Tagged) (seats mid : List Seat) (steps c : ℕ) (seat : Seat) (message : Sent Tagged) (inverse : Operation Tagged) (earlier s : State)
    → state_from server seats steps ≡ s → IsRecord earlier s (Taken c message inverse) → map view_of mid ≡ map unsent (map view_of seats) → seat ≡ get_or mid c seat
    → slice_get mid c ≡ Some seat
take_seat server seats mid steps c seat message inverse earlier s value is views read =
    slice_get_read mid (length mid) c seat refl (unsent_there seats mid c views (take_there server seats steps c message inverse earlier s value is)) read

seat_with : Seat → Option (Sent Tagged) → Seat
seat_with seat up = record { client = seat.client; list = seat.list; count = seat.count; up = up; down = seat.down }

pub take_back :
    (server after : History Tagged) (seats mid : List Seat) (steps c : ℕ) (seat : Seat) (up : Option (Sent Tagged)) (message : Sent Tagged) (inverse : Operation Tagged) (earlier s : State)
    → IsKept server seats steps → state_from server seats steps ≡ s → IsRecord earlier s (Taken c message inverse) → after ≡ history earlier
    → map view_of mid ≡ map unsent (map view_of seats) → slice_get mid c ≡ Some seat → up ≡ Some message
    → Undone after (set mid c (record { client = seat.client; list = seat.list; count = seat.count; up = up; down = seat.down })) (steps - 1) earlier
unfolding seat_with
take_back server after seats mid steps c seat up message inverse earlier s is_kept value is returned views here is_up =
    take_undone server after seats mid steps c seat (seat_with seat up) message inverse earlier s is_kept value is returned views here
    (ap (λ (u : Option (Sent Tagged)). client_of (seat_with seat u)) is_up) refl

-- what undoes a step undoes it from an equal state
pub again : (earlier s t : State) (undo : Undo) → Undoes earlier s undo → t ≡ s → Undoes earlier t undo
again earlier s t undo is same = subst (λ u. Undoes earlier u undo) (sym same) is
