-- The state before a step.
use Rattle.std.proofs.Common.{◌≡◌, ℕ, zero, suc, ◌+◌, ◌-◌, ◌<◌, ◌≤◌, List, [], ◌∷◌, length, map, set, get_or, refl, sym, ap, ◌∙◌, subst, arith, Option, Some, None, Bool, true, false}
use Rattle.std.proofs.lemmas.List.{map-set, length-map}
use Rattle.std.proofs.lemmas.Option.{slice_get-map, slice_get_read, same_Some, slice_get_within}
use Rattle.std.specs.Prelude.{slice_get, if◌then◌else◌}
use Rattle.std.specs.Option.{option_map}
use Rattle.ot_isa.specs.declared.elements.Tagged.{Tagged}
use Rattle.ot_client.specs.declared.sent.Sent.{Sent}
use Rattle.ot_client.specs.Client.{message_of}
use Rattle.ot_server.specs.History.{History}
use Rattle.ot_model.specs.Table.{Client, Message, State, absent, is_joined, with_client}
use Rattle.ot_model.specs.Sound.{IsSound}
use Rattle.ot_machine.specs.declared.seat.Seat.{Seat}
use Rattle.ot_machine.specs.declared.kept.Before.{Before}
use Rattle.ot_machine.specs.Seats.{View, view_of, client_of, numbers, incoming, queued, swept, idle, AreQueues, state_from, IsKept}
use Rattle.ot_machine.specs.Undoing.{message_at, message_in, queue_before, reverted, FitsBack, FitsState, Restores, IsRecord}
use Rattle.ot_machine.specs.declared.undo.Record.TheVariants.{ClientStep, Joined}
use Rattle.ot_machine.proofs.RowLaws.{client_at, queue_at}
use Rattle.ot_machine.proofs.Undoing.{exchanged_joined, fits_joined}

-- a loop over all seats
swept_next : {X : Type 0} (f : X → X) (i : ℕ) (xs : List X) (y : X) → slice_get (swept f i xs) i ≡ Some y → set (swept f i xs) i (f y) ≡ swept f (suc i) xs
swept_next f zero [] y at = absurd (cc)
swept_next f zero (x ∷ xs) y at = ap (λ z. f z ∷ xs) (sym (same_Some x y at))
swept_next f (suc i) [] y at = absurd (cc)
swept_next f (suc i) (x ∷ xs) y at = ap (λ zs. f x ∷ zs) (swept_next f i xs y at)

swept_all : {X : Type 0} (f : X → X) (i : ℕ) (xs : List X) → length xs ≤ i → swept f i xs ≡ map f xs
swept_all f zero [] le = refl
swept_all f zero (x ∷ xs) le = absurd (omega arith)
swept_all f (suc i) [] le = refl
swept_all f (suc i) (x ∷ xs) le = ap (λ zs. f x ∷ zs) (swept_all f i xs (omega arith))

pub swept_seat :
    (f : View → View) (i n : ℕ) (seats before : List Seat) (seat new : Seat)
    → map view_of seats ≡ swept f i (map view_of before) → n ≡ length seats → i < n → seat ≡ get_or seats i seat → view_of new ≡ f (view_of seat)
    → map view_of (set seats i new) ≡ swept f (i + 1) (map view_of before)
swept_seat f i n seats before seat new is many there read changed =
    let more : i + 1 ≡ suc i = omega arith in
    let at = slice_get_read seats n i seat many there read in
    let view_at : slice_get (swept f i (map view_of before)) i ≡ Some (view_of seat) = rw (← is, slice_get-map view_of seats i, at) refl in
    rw (map-set view_of seats i new, changed, is, more) (swept_next f i (map view_of before) (view_of seat) view_at)

pub swept_end : (f : View → View) (i : ℕ) (seats before : List Seat) → map view_of seats ≡ swept f i (map view_of before) → length before ≤ i → map view_of seats ≡ map f (map view_of before)
swept_end f i seats before is le = is ∙ swept_all f i (map view_of before) (simp length-map le)

-- the message of a seat that was sent more since
sent_message : (n : ℕ) (found : Option View) → message_in (option_map (queued n) found) ≡ message_in found
sent_message n None = refl
sent_message n (Some v) = refl

pub message_read :
    (seats between before : List Seat) (c n many : ℕ) (seat : Seat)
    → map view_of seats ≡ map (queued n) (map view_of between) → map view_of between ≡ map view_of before → many ≡ length seats → c < many → seat ≡ get_or seats c seat
    → message_at (map view_of before) c ≡ option_map message_of seat.up
message_read seats between before c n many seat is same long there read =
    sym (sent_message n (slice_get (map view_of before) c))
    ∙ ap message_in (sym (slice_get-map (queued n) (map view_of before) c)
    ∙ ap (λ vs. slice_get vs c) (ap (map (queued n)) (sym same) ∙ sym is)
    ∙ slice_get-map view_of seats c ∙ ap (option_map view_of) (slice_get_read seats many c seat long there read))

pub some_message : (up : Option (Sent Tagged)) (message : Option Message) → (message ≡ None → ⊥) → message ≡ option_map message_of up → up ≡ None → ⊥
some_message up message some is none = some (is ∙ ap (option_map message_of) none)

-- the fields of a state
pub same_state : (s t : State) → s.log ≡ t.log → s.server ≡ t.server → s.clients ≡ t.clients → s.steps ≡ t.steps → s ≡ t
same_state s t log server clients steps = rw (log, server, clients, steps) refl

pub set_back : {X : Type 0} (xs : List X) (c : ℕ) (x y : X) → slice_get xs c ≡ Some y → set (set xs c x) c y ≡ xs
set_back [] c x y at = refl
set_back (z ∷ xs) zero x y at = ap (λ w. w ∷ xs) (sym (same_Some z y at))
set_back (z ∷ xs) (suc c) x y at = ap (λ ws. z ∷ ws) (set_back xs c x y at)

pub set_here : {X : Type 0} (xs : List X) (c : ℕ) (x y z : X) → slice_get xs c ≡ Some y → slice_get (set xs c x) c ≡ Some z → z ≡ x
set_here [] c x y z at new = absurd (cc)
set_here (w ∷ xs) zero x y z at new = sym (same_Some x z new)
set_here (w ∷ xs) (suc c) x y z at new = set_here xs c x y z at new

-- the seats of the state before a step at one client, and its place
pub record Undone (server : History Tagged) (seats : List Seat) (steps : ℕ) (earlier : State) : Type 0 where
  pub state : state_from server seats steps ≡ earlier
  pub kept : IsKept server seats steps

pub queues_set : (views : List View) (c : ℕ) (v : View) (end : ℕ) → AreQueues end views → v.queue ≡ incoming v.client end → AreQueues end (set views c v)
queues_set [] c v end queues queue d x at = absurd (cc)
queues_set (y ∷ views) zero v end queues queue zero x at = subst (λ (z : View). z.queue ≡ incoming z.client end) (same_Some v x at) queue
queues_set (y ∷ views) zero v end queues queue (suc d) x at = queues (suc d) x at
queues_set (y ∷ views) (suc c) v end queues queue zero x at = queues zero x at
queues_set (y ∷ views) (suc c) v end queues queue (suc d) x at = queues_set views c v end (λ e z h. queues (suc e) z h) queue d x at

pub seat_undone :
    (server : History Tagged) (seats : List Seat) (steps c : ℕ) (new : Seat) (was is : Client) (earlier : State)
    → IsKept server seats steps → IsSound earlier → slice_get earlier.clients c ≡ Some was → state_from server seats steps ≡ with_client earlier c is
    → client_of new ≡ was → new.down.items ≡ incoming was (length server.log)
    → Undone server (set seats c new) (steps - 1) earlier
seat_undone server seats steps c new was is earlier is_kept sound at led back queue =
    let counted : steps ≡ suc earlier.steps = ap (λ (s : State). s.steps) led in
    let state : state_from server (set seats c new) (steps - 1) ≡ earlier =
    same_state _ earlier (ap (λ (s : State). s.log) led) (ap (λ (s : State). s.server) led)
    (map-set client_of seats c new ∙ ap (λ xs. set xs c (client_of new)) (ap (λ (s : State). s.clients) led)
    ∙ ap (λ x. set (set earlier.clients c is) c x) back ∙ set_back earlier.clients c is was at)
    (omega (arith, counted)) in
    record {
      state = state;
      kept = record {
        sound = subst IsSound (sym state) sound;
        queues = rw (map-set view_of seats c new) (queues_set (map view_of seats) c (view_of new) (length server.log) is_kept.queues (queue ∙ ap (λ x. incoming x (length server.log)) (sym back)));
      };
    }

pub length_set : (xs : List Client) (c : ℕ) (x : Client) → length (set xs c x) ≡ length xs
length_set [] c x = refl
length_set (y ∷ xs) zero x = refl
length_set (y ∷ xs) (suc c) x = ap suc (length_set xs c x)

-- the seat of the step is there, and has the client after it
pub step_seat :
    (server : History Tagged) (seats : List Seat) (steps c : ℕ) (was is : Client) (earlier : State)
    → slice_get earlier.clients c ≡ Some was → state_from server seats steps ≡ with_client earlier c is → c < length seats
step_seat server seats steps c was is earlier at led =
    let clients : map client_of seats ≡ set earlier.clients c is = ap (λ (s : State). s.clients) led in
    let there : c < length earlier.clients = slice_get_within earlier.clients c was at in
    let many : length seats ≡ length earlier.clients = sym (length-map seats client_of) ∙ ap length clients ∙ length_set earlier.clients c is in
    omega (arith, many, there)

pub step_client :
    (server : History Tagged) (seats : List Seat) (steps c : ℕ) (seat : Seat) (was is : Client) (earlier : State)
    → slice_get seats c ≡ Some seat → slice_get earlier.clients c ≡ Some was → state_from server seats steps ≡ with_client earlier c is → client_of seat ≡ is
step_client server seats steps c seat was is earlier here at led =
    set_here earlier.clients c is was (client_of seat) at
    (ap (λ (s : State). slice_get s.clients c) (sym led) ∙ client_at seats c seat here)

revision_right :
    (before : Before) (was x : Client) (n : ℕ) (queue : List ℕ) (b : Bool) → before.received ≡ b → was.revision ≡ (reverted before x).revision → is_joined was.phase ≡ true
    → x.revision ≡ (if b then suc was.revision else was.revision) → x.revision ≤ n → queue ≡ numbers x.revision (n - x.revision)
    → queue_before before x queue ≡ incoming was n
revision_right before was x n queue true is from joined after inside right =
    let more : n - was.revision ≡ suc (n - suc was.revision) = omega (arith, after, inside) in
    rw (is, joined, ← from, more) (ap (λ q. was.revision ∷ q) (right ∙ ap (λ k. numbers k (n - k)) after))
revision_right before was x n queue false is from joined after inside right =
    rw (is, joined) (right ∙ ap (λ k. numbers k (n - k)) after)

queue_right : (before : Before) (was x : Client) (n : ℕ) (queue : List ℕ) → Restores before was x → x.revision ≤ n → queue ≡ incoming x n → queue_before before x queue ≡ incoming was n
queue_right before was x n queue is inside right =
    let here : is_joined x.phase ≡ true = fits_joined before.change x is.state in
    let joined : is_joined was.phase ≡ true = ap (λ (y : Client). is_joined y.phase) (sym is.back) ∙ exchanged_joined before.change x here in
    revision_right before was x n queue before.received refl (ap (λ (y : Client). y.revision) (sym is.back)) joined is.revision inside (right ∙ rw here refl)

-- a step at a client undone
pub client_undone :
    (server : History Tagged) (seats : List Seat) (steps c : ℕ) (seat new : Seat) (before : Before) (earlier s : State)
    → IsKept server seats steps → slice_get seats c ≡ Some seat → state_from server seats steps ≡ s → IsRecord earlier s (ClientStep c before)
    → client_of new ≡ reverted before (client_of seat) → new.down.items ≡ queue_before before (client_of seat) seat.down.items
    → Undone server (set seats c new) (steps - 1) earlier
client_undone server seats steps c seat new before earlier s is_kept here value is changed down =
    let led = value ∙ is.step.led in
    let now : client_of seat ≡ is.step.is = step_client server seats steps c seat is.step.was is.step.is earlier here is.step.at led in
    let inside : (client_of seat).revision ≤ length server.log = is_kept.sound.2.seen c (client_of seat) (client_at seats c seat here) in
    let restores : Restores before is.step.was (client_of seat) = subst (Restores before is.step.was) (sym now) is.step.restores in
    seat_undone server seats steps c new is.step.was is.step.is earlier is_kept is.sound is.step.at led
    (changed ∙ restores.back)
    (down ∙ queue_right before is.step.was (client_of seat) (length server.log) seat.down.items restores inside (queue_at server seats steps c seat is_kept here))

pub client_there :
    (server : History Tagged) (seats : List Seat) (steps c : ℕ) (before : Before) (earlier s : State)
    → state_from server seats steps ≡ s → IsRecord earlier s (ClientStep c before) → c < length seats
client_there server seats steps c before earlier s value is = step_seat server seats steps c is.step.was is.step.is earlier is.step.at (value ∙ is.step.led)

pub client_fits :
    (server : History Tagged) (seats : List Seat) (steps c : ℕ) (seat : Seat) (before : Before) (earlier s : State)
    → slice_get seats c ≡ Some seat → state_from server seats steps ≡ s → IsRecord earlier s (ClientStep c before) → FitsBack before.inverse seat.list
client_fits server seats steps c seat before earlier s here value is =
    let now : client_of seat ≡ is.step.is = step_client server seats steps c seat is.step.was is.step.is earlier here is.step.at (value ∙ is.step.led) in
    subst (λ (x : Client). FitsBack before.inverse x.list) (sym now) is.step.restores.fits

pub client_state :
    (server : History Tagged) (seats : List Seat) (steps c : ℕ) (seat : Seat) (before : Before) (earlier s : State)
    → slice_get seats c ≡ Some seat → state_from server seats steps ≡ s → IsRecord earlier s (ClientStep c before) → FitsState before.change (client_of seat)
client_state server seats steps c seat before earlier s here value is =
    let now : client_of seat ≡ is.step.is = step_client server seats steps c seat is.step.was is.step.is earlier here is.step.at (value ∙ is.step.led) in
    subst (FitsState before.change) (sym now) is.step.restores.state

-- a seat of which callers see no change
pub seats_same : (seats : List Seat) (c : ℕ) (seat new : Seat) → slice_get seats c ≡ Some seat → view_of new ≡ view_of seat → map view_of (set seats c new) ≡ map view_of seats
seats_same seats c seat new here same =
    map-set view_of seats c new ∙ ap (set (map view_of seats) c) same ∙ set_same (map view_of seats) c (view_of seat) (rw (slice_get-map view_of seats c, here) refl)
  where
    set_same : (vs : List View) (c : ℕ) (v : View) → slice_get vs c ≡ Some v → set vs c v ≡ vs
    set_same [] c v at = refl
    set_same (w ∷ vs) zero v at = ap (λ u. u ∷ vs) (sym (same_Some w v at))
    set_same (w ∷ vs) (suc c) v at = ap (λ us. w ∷ us) (set_same vs c v at)

-- a Join undone
pub join_undone :
    (server : History Tagged) (seats : List Seat) (steps c : ℕ) (new : Seat) (earlier s : State)
    → IsKept server seats steps → state_from server seats steps ≡ s → IsRecord earlier s (Joined c) → view_of new ≡ idle absent
    → Undone server (set seats c new) (steps - 1) earlier
join_undone server seats steps c new earlier s is_kept value is vacant =
    seat_undone server seats steps c new absent is.step.is earlier is_kept is.sound is.step.at (value ∙ is.step.led)
    (ap (λ (v : View). v.client) vacant) (ap (λ (v : View). v.queue) vacant)

pub client_seat :
    (server : History Tagged) (seats : List Seat) (steps c : ℕ) (seat : Seat) (before : Before) (earlier s : State)
    → state_from server seats steps ≡ s → IsRecord earlier s (ClientStep c before) → seat ≡ get_or seats c seat → slice_get seats c ≡ Some seat
client_seat server seats steps c seat before earlier s value is read = slice_get_read seats (length seats) c seat refl (client_there server seats steps c before earlier s value is) read
