-- What the rows ask first, and what they did.
use Rattle.std.proofs.Common.{◌≡◌, ℕ, ◌<◌, ◌≤◌, List, [], ◌∷◌, zero, suc, length, get_or, map, refl, sym, ap, ◌∙◌, subst, arith, Option, Some, None, Bool, true, false}
use Rattle.std.proofs.lemmas.Bool.Decides.{nat_tests}
use Rattle.std.proofs.lemmas.List.{length-map}
use Rattle.std.proofs.lemmas.Option.{same_Some, slice_get_within}
use Rattle.std.specs.Prelude.{slice_get, ◌==◌, nat_le, not}
use Rattle.std.specs.Option.{is_some, option_map}
use Rattle.ot_isa.specs.Program.{client_of as client_named}
use Rattle.ot_isa.specs.declared.elements.Tagged.{Tagged}
use Rattle.ot_isa.specs.declared.instruction.Instr.{Instr}
use Rattle.ot_isa.specs.declared.instruction.Instr.TheVariants.{Edit, Take, Deliver, Acknowledge, Join, Read, ReadServer}
use Rattle.ot_client.specs.declared.client.Client as program
use Rattle.ot_server.specs.History.{History}
use Rattle.ot_model.specs.Operation.{Operation}
use Rattle.ot_model.specs.declared.shown.Refusal.{Refusal}
use Rattle.ot_model.specs.declared.shown.Refusal.TheVariants.{AlreadyJoined, NotJoined, StepsFull}
use Rattle.ot_model.specs.Table.{Client, Entry, State, against_pending, at_client, is_joined, row, step, Performed, Refused}
use Rattle.ot_machine.specs.declared.effect.Applied as given
use Rattle.ot_machine.specs.declared.seat.Seat.{Seat}
use Rattle.ot_machine.specs.declared.undo.Undo.{Undo}
use Rattle.ot_machine.specs.Effects.{applied_by, applied_in, client_in, reader_of, is_join, sends, shown_by, IsAt, IsReady, IsEffect, IsMadeOf}
use Rattle.ot_machine.specs.Seats.{client_of, phase_of, revision_of, state_from, IsKept}
use Rattle.ot_machine.proofs.RowLaws.{client_at, joined_of, not_full, seat_at}
use Rattle.ot_machine.proofs.Delivering.{IsReceiver}
use Rattle.ot_machine.proofs.Taking.{IsSender}

-- a seat has a client where the table's has joined
joined_is : (client : Option (program.Client Tagged)) → is_joined (phase_of client) ≡ is_some client
joined_is None = refl
joined_is (Some client) = joined_of (Some client) refl

-- the seat of a client that the table finds as it wants it
pub record IsFound (seats : List Seat) (steps c : ℕ) (seat : Seat) (joined : Bool) : Type 0 where
  pub at : slice_get seats c ≡ Some seat
  pub below : steps < 1000000
  pub on : is_some seat.client ≡ joined

pub found :
    (server : History Tagged) (seats : List Seat) (steps c : ℕ) (seat : Seat) (joined : Bool) (t : State)
    → state_from server seats steps ≡ t → IsAt t c joined → seat ≡ get_or seats c seat → IsFound seats steps c seat joined
found server seats steps c seat joined t value is read =
    let was : IsAt (state_from server seats steps) c joined = subst (λ (s : State). IsAt s c joined) (sym value) is in
    let many : length (map client_of seats) ≡ length seats = length-map seats client_of in
    let there = was.there in
    let at = seat_at seats c (length seats) seat refl (omega (arith, many, there)) read in
    let phase : is_joined (phase_of seat.client) ≡ joined =
    same_Some _ joined (ap (option_map (λ (x : Client). is_joined x.phase)) (sym (client_at seats c seat at)) ∙ was.phase) in
    record { at = at; below = was.left; on = sym (joined_is seat.client) ∙ phase }

pub receiver :
    (server : History Tagged) (seats : List Seat) (steps c : ℕ) (seat : Seat) (t : State)
    → IsKept server seats steps → state_from server seats steps ≡ t → IsAt t c true → seat ≡ get_or seats c seat → IsReceiver server seats steps c seat
receiver server seats steps c seat t kept value is read =
    let here = found server seats steps c seat true t value is read in
    record { kept = kept; at = here.at; below = here.below; on = here.on }

-- so where a message is under way from it
pub sender_of :
    (server : History Tagged) (seats : List Seat) (steps c : ℕ) (seat : Seat) → IsReceiver server seats steps c seat → (seat.up ≡ None → ⊥) → IsSender server seats steps c seat
sender_of server seats steps c seat is up = record { kept = is.kept; at = is.at; below = is.below; on = is.on; up = up }

-- the client of the state is the seat's
pub client_is : (server : History Tagged) (seats : List Seat) (steps c : ℕ) (seat : Seat) (t : State) → state_from server seats steps ≡ t → slice_get seats c ≡ Some seat → client_in t c ≡ client_of seat
client_is server seats steps c seat t value at =
    ap (λ (s : State). client_in s c) (sym value) ∙ get_or_at (map client_of seats) c (client_of seat) _ (client_at seats c seat at)
  where
    get_or_at : (xs : List Client) (c : ℕ) (x other : Client) → slice_get xs c ≡ Some x → get_or xs c other ≡ x
    get_or_at [] c x other at = absurd (cc)
    get_or_at (y ∷ xs) zero x other at = same_Some y x at
    get_or_at (y ∷ xs) (suc c) x other at = get_or_at xs c x other at

-- what a row did that shows no list
pub did :
    (t after : State) (i : Instr) (sent : Bool) (applied : given.Applied) (undo : Option Undo)
    → step t i ≡ Performed after None → reader_of i ≡ None → sent ≡ sends i t → applied_in after applied ≡ applied_by t i
    → IsEffect t i after (record { shown = None; sent = sent; applied = applied; undo = undo })
did t after i sent applied undo row none is_sent is_applied =
    record {
      led = row ∙ ap (λ o. Performed after (option_map (shown_by after) o)) (sym none);
      shown = sym none;
      sent = is_sent;
      applied = is_applied;
    }

-- a delivery applied what the client made of the entry
made_of : (log : List Entry) (r : ℕ) (h : Entry) (made : Operation Tagged) (applied : given.Applied) (after : State) → after.log ≡ log → slice_get log r ≡ Some h → IsMadeOf r h.op made applied → applied_in after applied ≡ Some made
made_of log r h made given.TheVariants.Nothing after same head is = absurd is
made_of log r h made (given.TheVariants.Entry number) after same head is =
    ap (λ entries. option_map (λ (x : Entry). x.op) (slice_get entries number)) same ∙ ap (λ n. option_map (λ (x : Entry). x.op) (slice_get log n)) is.0 ∙ ap (option_map (λ (x : Entry). x.op)) head ∙ ap Some is.1
made_of log r h made (given.TheVariants.Transformed op) after same head is = ap Some is

pub applied_is :
    (server : History Tagged) (seats : List Seat) (steps c : ℕ) (seat : Seat) (h : Entry) (t after : State) (applied : given.Applied)
    → IsReceiver server seats steps c seat → state_from server seats steps ≡ t → slice_get server.log (revision_of seat.client) ≡ Some h → (h.maker == c) ≡ false → after.log ≡ server.log
    → IsMadeOf (revision_of seat.client) h.op (against_pending (phase_of seat.client) h.op) applied → applied_in after applied ≡ applied_by t (Deliver c)
applied_is server seats steps c seat h t after applied is value head other same made =
    let s = state_from server seats steps in
    let here : client_in s c ≡ client_of seat = client_is server seats steps c seat s refl is.at in
    made_of server.log (revision_of seat.client) h _ applied after same head made
    ∙ sym (rw (here, joined_of seat.client is.on, head, other) refl)
    ∙ ap (λ (u : State). applied_by u (Deliver c)) value

-- what the table asks first of an instruction that names a client
step_named : (s : State) (i : Instr) (c : ℕ) → client_named i ≡ Some c → step s i ≡ at_client s i c (slice_get s.clients c)
step_named s (Edit d op) c is = ap (λ e. at_client s (Edit d op) e (slice_get s.clients e)) (same_Some d c is)
step_named s (Take d) c is = ap (λ e. at_client s (Take d) e (slice_get s.clients e)) (same_Some d c is)
step_named s (Deliver d) c is = ap (λ e. at_client s (Deliver d) e (slice_get s.clients e)) (same_Some d c is)
step_named s (Acknowledge d) c is = ap (λ e. at_client s (Acknowledge d) e (slice_get s.clients e)) (same_Some d c is)
step_named s (Read d) c is = ap (λ e. at_client s (Read d) e (slice_get s.clients e)) (same_Some d c is)
step_named s (Join d) c is = ap (λ e. at_client s (Join d) e (slice_get s.clients e)) (same_Some d c is)
step_named s ReadServer c is = absurd (cc)

ready_named : (s : State) (i : Instr) (c : ℕ) → client_named i ≡ Some c → IsAt s c (not (is_join i)) → IsReady s i
ready_named s (Edit d op) c is at = subst (λ e. IsAt s e true) (sym (same_Some d c is)) at
ready_named s (Take d) c is at = subst (λ e. IsAt s e true) (sym (same_Some d c is)) at
ready_named s (Deliver d) c is at = subst (λ e. IsAt s e true) (sym (same_Some d c is)) at
ready_named s (Acknowledge d) c is at = subst (λ e. IsAt s e true) (sym (same_Some d c is)) at
ready_named s (Read d) c is at = subst (λ e. IsAt s e true) (sym (same_Some d c is)) at
ready_named s (Join d) c is at = subst (λ e. IsAt s e false) (sym (same_Some d c is)) at
ready_named s ReadServer c is at = absurd (cc)

-- the client has joined and joins, or neither
abbrev pub refusal_at : Bool → Refusal
refusal_at true = AlreadyJoined
refusal_at false = NotJoined

row_refused : (s : State) (i : Instr) (d c : ℕ) (x : Client) (joined : Bool) → client_named i ≡ Some d → is_joined x.phase ≡ joined → is_join i ≡ joined → row s i c x ≡ Refused (refusal_at joined)
row_refused s (Join d) e c x joined is phase same = rw (phase, sym same) refl
row_refused s (Edit d op) e c x joined is phase same = rw (phase, sym same) refl
row_refused s (Take d) e c x joined is phase same = rw (phase, sym same) refl
row_refused s (Deliver d) e c x joined is phase same = rw (phase, sym same) refl
row_refused s (Acknowledge d) e c x joined is phase same = rw (phase, sym same) refl
row_refused s (Read d) e c x joined is phase same = rw (phase, sym same) refl
row_refused s ReadServer e c x joined is phase same = absurd (cc)

-- a client that is there
pub record IsNamed (server : History Tagged) (seats : List Seat) (steps c : ℕ) (seat : Seat) (i : Instr) (t : State) : Type 0 where
  pub value : state_from server seats steps ≡ t
  pub named : client_named i ≡ Some c
  pub at : slice_get seats c ≡ Some seat

pub full_named : (server : History Tagged) (seats : List Seat) (steps c : ℕ) (seat : Seat) (i : Instr) (t : State) → IsNamed server seats steps c seat i t → 1000000 ≤ t.steps → step t i ≡ Refused StepsFull
full_named server seats steps c seat i t is full =
    let at : slice_get t.clients c ≡ Some (client_of seat) = ap (λ (s : State). slice_get s.clients c) (sym is.value) ∙ client_at seats c seat is.at in
    let yes : nat_le 1000000 t.steps ≡ true = grind (arith, nat_tests) in
    step_named t i c is.named ∙ rw (at, yes) refl

pub ready : (server : History Tagged) (seats : List Seat) (steps c : ℕ) (seat : Seat) (i : Instr) (t : State) → IsNamed server seats steps c seat i t → t.steps < 1000000 → is_some seat.client ≡ not (is_join i) → IsReady t i
ready server seats steps c seat i t is left on =
    let at : slice_get t.clients c ≡ Some (client_of seat) = ap (λ (s : State). slice_get s.clients c) (sym is.value) ∙ client_at seats c seat is.at in
    ready_named t i c is.named
    (record { there = slice_get_within t.clients c (client_of seat) at; left = left; phase = ap (option_map (λ (x : Client). is_joined x.phase)) at ∙ ap Some (joined_is seat.client ∙ on) })

pub refused_at :
    (server : History Tagged) (seats : List Seat) (steps c : ℕ) (seat : Seat) (i : Instr) (t : State) (joined : Bool)
    → IsNamed server seats steps c seat i t → t.steps < 1000000 → is_some seat.client ≡ joined → is_join i ≡ joined → step t i ≡ Refused (refusal_at joined)
refused_at server seats steps c seat i t joined is left on same =
    let at : slice_get t.clients c ≡ Some (client_of seat) = ap (λ (s : State). slice_get s.clients c) (sym is.value) ∙ client_at seats c seat is.at in
    step_named t i c is.named ∙ rw (at, not_full t.steps left) refl ∙ row_refused t i c c (client_of seat) joined is.named (joined_is seat.client ∙ on) same
