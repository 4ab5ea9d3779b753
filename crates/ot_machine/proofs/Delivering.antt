-- The row of a message to a client.
use Rattle.std.proofs.Common.{◌≡◌, ◌≢◌, ℕ, zero, suc, ◌+◌, ◌-◌, ◌<◌, ◌≤◌, List, [], ◌∷◌, length, take, drop, set, refl, sym, ap, ◌∙◌, subst, arith, Option, Some, None, true, false, length-append}
use Rattle.std.specs.Prelude.{slice_get, ◌==◌, ◌++◌}
use Rattle.ot_isa.specs.declared.elements.Tagged.{Tagged}
use Rattle.ot_isa.specs.declared.instruction.Instr.TheVariants.{Deliver}
use Rattle.ot_operation.specs.Operation.{Operation, apply}
use Rattle.ot_operation.proofs.LengthLaws.{second_after-base}
use Rattle.ot_client.specs.State as state
use Rattle.ot_client.specs.Conditions as conditions
use Rattle.ot_client.specs.Client.{state_of}
use Rattle.ot_client.specs.declared.client.Client as program
use Rattle.ot_client.specs.declared.client.Client.TheVariants as client
use Rattle.ot_model.specs.Operation.{news}
use Rattle.ot_model.specs.declared.shown.Refusal.TheVariants.{LinkEmpty, WrongHead}
use Rattle.ot_model.specs.Table.{Client, Entry, Message, State, is_joined, step, Performed, Refused, with_client, delivered}
use Rattle.ot_model.specs.Sound.{IsPhaseSound, FitAll, apply_entries, inserted_in, pending, news_sent, news_kept}
use Rattle.ot_model.proofs.Lengths.{deliver_room, FitAll_take, room_ahead}
use Rattle.ot_model.proofs.Algebra.{laws}
use Rattle.ot_machine.specs.Seats.{phase_of, revision_of, client_of, state_from, incoming, IsKept, numbers, MayDeliverTo, MaySeatDeliver}
use Rattle.std.specs.Option.{is_some}
use Rattle.std.proofs.lemmas.Option.{slice_get_within}
use Rattle.ot_machine.specs.Answers.{IsPerformed}
use Rattle.ot_server.specs.History.{History}
use Rattle.ot_model.proofs.States.{joined_delivered, drop_entry, FitAll_drop}
use Rattle.std.proofs.lemmas.Bool.{eqb-false}
use Rattle.ot_machine.specs.declared.seat.Seat.{Seat}
use Rattle.ot_machine.proofs.RowLaws.{not_full, joined_of, client_at, queue_at, of_value, performs, kept, state_changed, Changed}

pub deliver_is :
    (s : State) (c : ℕ) (x : Client) (h : Entry)
    → slice_get s.clients c ≡ Some x → s.steps < 1000000 → is_joined x.phase ≡ true → slice_get s.log x.revision ≡ Some h → (h.maker == c) ≡ false
    → step s (Deliver c) ≡ Performed (with_client s c (delivered x h.op)) None
deliver_is s c x h at below on head other = rw (at, not_full s.steps below, on, head, other) refl

pub deliver_empty :
    (s : State) (c : ℕ) (x : Client)
    → slice_get s.clients c ≡ Some x → s.steps < 1000000 → is_joined x.phase ≡ true → slice_get s.log x.revision ≡ None
    → step s (Deliver c) ≡ Refused LinkEmpty
deliver_empty s c x at below on head = rw (at, not_full s.steps below, on, head) refl

pub deliver_wrong :
    (s : State) (c : ℕ) (x : Client) (h : Entry)
    → slice_get s.clients c ≡ Some x → s.steps < 1000000 → is_joined x.phase ≡ true → slice_get s.log x.revision ≡ Some h → (h.maker == c) ≡ true
    → step s (Deliver c) ≡ Refused WrongHead
deliver_wrong s c x h at below on head own = rw (at, not_full s.steps below, on, head, own) refl

length-numbers : (r k : ℕ) → length (numbers r k) ≡ k
length-numbers r zero = refl
length-numbers r (suc k) = ap suc (length-numbers (suc r) k)

pub queue_rest : (r n : ℕ) (queue : List ℕ) → queue ≡ numbers r (n - r) → r < n → drop 1 queue ≡ numbers (suc r) (n - suc r)
queue_rest r n queue is below =
    let more : n - r ≡ suc (n - suc r) = omega arith in
    ap (drop 1) (is ∙ ap (numbers r) more)

-- what the client's delivery asks
pub may :
    (c : ℕ) (here : program.Client Tagged) (start : List Tagged) (seen ahead : List Entry) (list : List Tagged) (message : Option Message) (h : Entry)
    → FitAll start seen → FitAll (apply_entries start seen) (h ∷ ahead) → h.maker ≢ c → IsPhaseSound c (phase_of (Some here)) start seen (h ∷ ahead) list message
    → length (apply_entries start seen) + (inserted_in (h ∷ ahead) + length (news_sent message ++ news_kept (phase_of (Some here)))) ≤ 1000000
    → conditions.MayDeliver (state_of here).phase h.op × ((state.against_pending (state_of here).phase h.op).base ≡ length list)
may c (client.Synchronized here) start seen ahead list message h before all other now room = (tt, all.0.base ∙ ap length (sym now.list_is))
may c (client.AwaitingConfirm here) start seen ahead list message h before all other now room =
    let o = here.outstanding in
    let none : Operation Tagged = record { base = 0; image = [] } in
    let sum = length-append (news_sent message) [] in
    let fit = deliver_room laws c o none start seen ahead message h before all now.fits other now.sent (omega arith) in
    let base = all.0.base in (
      (base ∙ sym now.fits.base, omega arith),
      second_after-base o h.op ∙ sym (laws.apply-length o (apply_entries start seen) now.fits) ∙ ap length (sym now.list_is),
    )
may c (client.AwaitingWithBuffer here) start seen ahead list message h before all other now room =
    let o = here.outstanding in
    let b = here.buffer in
    let sum = length-append (news_sent message) (news b) in
    let fit = deliver_room laws c o b start seen ahead message h before all now.fits other now.sent (omega arith) in
    let base = all.0.base in (
      (base ∙ sym now.fits.base, omega arith),
      second_after-base b _ ∙ sym (laws.apply-length b (apply o (apply_entries start seen)) now.buffer_fits) ∙ ap length (sym now.list_is),
    )

-- a seat with a message on the way
pub record IsReceiver (server : History Tagged) (seats : List Seat) (steps c : ℕ) (seat : Seat) : Type 0 where
  pub kept : IsKept server seats steps
  pub at : slice_get seats c ≡ Some seat
  pub below : steps < 1000000
  pub on : is_some seat.client ≡ true

pub receiver_queue : (server : History Tagged) (seats : List Seat) (steps c : ℕ) (seat : Seat) → IsReceiver server seats steps c seat → seat.down.items ≡ numbers (revision_of seat.client) (length server.log - revision_of seat.client)
receiver_queue server seats steps c seat is = queue_at server seats steps c seat is.kept is.at ∙ rw (joined_of seat.client is.on) refl

pub receiver_empty :
    (server : History Tagged) (seats : List Seat) (steps c : ℕ) (seat : Seat) (t : State) → IsReceiver server seats steps c seat → state_from server seats steps ≡ t → slice_get server.log (revision_of seat.client) ≡ None
    → step t (Deliver c) ≡ Refused LinkEmpty
receiver_empty server seats steps c seat t is value none =
    of_value _ t (Deliver c) _ value
    (deliver_empty (state_from server seats steps) c (client_of seat) (client_at seats c seat is.at) is.below (joined_of seat.client is.on) none)

pub receiver_done :
    (server : History Tagged) (seats : List Seat) (steps c : ℕ) (seat new : Seat) (h : Entry)
    → IsReceiver server seats steps c seat → slice_get server.log (revision_of seat.client) ≡ Some h → (h.maker == c) ≡ false
    → client_of new ≡ delivered (client_of seat) h.op → new.down.items ≡ drop 1 seat.down.items
    → Changed server seats steps c new (Deliver c)
receiver_done server seats steps c seat new h is head other is_delivered down =
    let s : State = state_from server seats steps in
    let r = revision_of seat.client in
    let below : r < length server.log = slice_get_within server.log r h head in
    let done : step s (Deliver c) ≡ Performed (state_from server (set seats c new) (steps + 1)) None =
    deliver_is s c (client_of seat) h (client_at seats c seat is.at) is.below (joined_of seat.client is.on) head other
    ∙ ap (λ x. Performed (with_client s c x) None) (sym is_delivered)
    ∙ ap (λ t. Performed t None) (sym (state_changed server seats steps c new)) in
    let joined : is_joined (delivered (client_of seat) h.op).phase ≡ true = joined_delivered (phase_of seat.client) h.op (joined_of seat.client is.on) in
    let right : drop 1 seat.down.items ≡ incoming (delivered (client_of seat) h.op) (length server.log) =
    queue_rest r (length server.log) seat.down.items (receiver_queue server seats steps c seat is) below ∙ rw joined refl in
    let queue : new.down.items ≡ incoming (client_of new) (length server.log) = down ∙ right ∙ ap (λ x. incoming x (length server.log)) (sym is_delivered) in
    record { row = done; kept = kept server seats steps c new (Deliver c) None is.kept tt done queue }

receiver_go :
    (c : ℕ) (o : Option (program.Client Tagged)) (start : List Tagged) (seen ahead : List Entry) (list : List Tagged) (message : Option Message) (h : Entry)
    → is_some o ≡ true → revision_of o < 1000000 → FitAll start seen → FitAll (apply_entries start seen) (h ∷ ahead) → h.maker ≢ c → IsPhaseSound c (phase_of o) start seen (h ∷ ahead) list message
    → length (apply_entries start seen) + (inserted_in (h ∷ ahead) + length (news_sent message ++ news_kept (phase_of o))) ≤ 1000000
    → MayDeliverTo o h.op list
receiver_go c None start seen ahead list message h on small before all other now room = absurd (cc)
receiver_go c (Some here) start seen ahead list message h on small before all other now room =
    let fact = may c here start seen ahead list message h before all other now room in
    ((small, fact.0), fact.1)

pub receiver_may :
    (server : History Tagged) (seats : List Seat) (steps c : ℕ) (seat : Seat) (h : Entry)
    → IsReceiver server seats steps c seat → slice_get server.log (revision_of seat.client) ≡ Some h → (h.maker == c) ≡ false → MaySeatDeliver seat h.op
receiver_may server seats steps c seat h is head other =
    let sound = is.kept.sound.2 in
    let start = is.kept.sound.0 in
    let r = revision_of seat.client in
    let below : r < length server.log = slice_get_within server.log r h head in
    let logged : length server.log ≤ steps = sound.logged in
    let under : steps < 1000000 = is.below in
    let seen = take r server.log in
    let e : drop r server.log ≡ h ∷ drop (suc r) server.log = drop_entry server.log r h head in
    let at = client_at seats c seat is.at in
    receiver_go c seat.client start seen (drop (suc r) server.log) seat.list (client_of seat).message h is.on (omega arith)
    (FitAll_take laws start r server.log sound.fit)
    (subst (FitAll (apply_entries start seen)) e (FitAll_drop laws start r server.log sound.fit))
    (eqb-false h.maker c other)
    (subst (λ ahead. IsPhaseSound c (phase_of seat.client) start seen ahead seat.list (client_of seat).message) e (sound.clients c (client_of seat) at))
    (subst (λ ahead. length (apply_entries start seen) + (inserted_in ahead + pending (client_of seat)) ≤ 1000000) e (room_ahead laws start is.kept.sound.1 _ c (client_of seat) r sound at))

pub receiver_performs :
    (server : History Tagged) (seats : List Seat) (steps c : ℕ) (seat : Seat) (h : Entry) (t : State)
    → IsReceiver server seats steps c seat → slice_get server.log (revision_of seat.client) ≡ Some h → (h.maker == c) ≡ false → state_from server seats steps ≡ t
    → IsPerformed (step t (Deliver c))
receiver_performs server seats steps c seat h t is head other value =
    performs (step t (Deliver c)) _ _ (of_value _ t (Deliver c) _ value (deliver_is (state_from server seats steps) c (client_of seat) h (client_at seats c seat is.at) is.below (joined_of seat.client is.on) head other))

pub receiver_wrong :
    (server : History Tagged) (seats : List Seat) (steps c : ℕ) (seat : Seat) (h : Entry) (t : State)
    → IsReceiver server seats steps c seat → slice_get server.log (revision_of seat.client) ≡ Some h → (h.maker == c) ≡ true → state_from server seats steps ≡ t
    → step t (Deliver c) ≡ Refused WrongHead
receiver_wrong server seats steps c seat h t is head own value =
    of_value _ t (Deliver c) _ value (deliver_wrong (state_from server seats steps) c (client_of seat) h (client_at seats c seat is.at) is.below (joined_of seat.client is.on) head own)
