-- The server takes each message of a sound state.
use Rattle.std.proofs.Common.{◌≡◌, ℕ, zero, suc, ◌+◌, ◌<◌, ◌≤◌, List, [], ◌∷◌, length, take, drop, map, ◌++◌, length-append, true, refl, sym, ap, ◌∙◌, subst, arith, Option, Some, None}
use Rattle.std.proofs.lemmas.List.Sums.{sum_by-cons}
use Rattle.std.proofs.lemmas.Option.{slice_get-map}
use Rattle.std.specs.Prelude.{slice_get}
use Rattle.ot_isa.specs.declared.elements.Tagged.{Tagged}
use Rattle.ot_operation.specs.Operation.{apply}
use Rattle.std.specs.Option.{is_some}
use Rattle.std.proofs.lemmas.List.{take-append-drop}
use Rattle.ot_server.specs.History.{History, transform_over, received, with_entry}
use Rattle.ot_server.specs.Faults.{base_at, length_at, longest_at, fault_of}
use Rattle.ot_server.specs.History as server
use Rattle.ot_server.specs.Faults as server_faults
use Rattle.ot_model.specs.Operation.{Operation, inserted, news}
use Rattle.ot_model.specs.Table.{Entry, Message, Phase, NotJoined, Synchronized, AwaitingConfirm, AwaitingWithBuffer, is_joined}
use Rattle.ot_model.specs.Sound.{Fits, IsUnderway, IsPhaseSound, apply_entries, FitAll, inserted_in, pending, news_sent, news_kept}
use Rattle.ot_model.proofs.Clients.{taken_is}
use Rattle.ot_model.proofs.States.{FitAll_drop, transform_over_news}
use Rattle.ot_model.proofs.Lengths.{FitAll_take, room_ahead}
use Rattle.ot_model.proofs.Algebra.{laws}
use Rattle.ot_machine.specs.declared.seat.Seat.{Seat}
use Rattle.ot_machine.specs.Seats.{view_of, client_of, phase_of, revision_of, state_from, outstanding_of, outstanding_at, received_from, IsReceivable, IsKept}
use Rattle.ot_machine.proofs.RowLaws.{not_full, same, within, client_at, joined_of}

base_at_is : (d : List Tagged) (q : ℕ) (log : List Entry) → FitAll d log → base_at (drop q log) (length (apply_entries d log)) ≡ length (apply_entries d (take q log))
base_at_is d zero [] fit = refl
base_at_is d zero (h ∷ log) fit = fit.0.base
base_at_is d (suc q) [] fit = refl
base_at_is d (suc q) (h ∷ log) fit = base_at_is (apply h.op d) q log fit.1

inserted_same : (log : List Entry) → server_faults.inserted_in log ≡ inserted_in log
inserted_same [] = refl
inserted_same (h ∷ log) = omega (arith, sum_by-cons (λ (e : Entry). inserted e.op) h log, inserted_same log)

no_fault :
    (s : History Tagged) (m : Message) (base many : ℕ) → m.revision ≤ length s.log → m.op.base ≡ base → length s.log < 1000000
    → base + (many + inserted m.op) ≤ 1000000 → length_at s m.revision ≡ base → server_faults.inserted_in (drop m.revision s.log) ≡ many
    → fault_of s m.revision m.op ≡ None
no_fault s m base many known fits below room at ins =
    let long : longest_at s m.revision m.op ≤ 1000000 = omega (arith, at, ins, room) in
    rw (within (length s.log) m.revision known, same m.op.base (length_at s m.revision) (fits ∙ sym at), not_full (length s.log) below, within 1000000 (longest_at s m.revision m.op) long) refl

-- a client with a message under way has its operation outstanding
phase_outstanding :
    (c : ℕ) (phase : Phase) (start : List Tagged) (seen ahead : List Entry) (list : List Tagged) (m : Message) (r : ℕ)
    → is_joined phase ≡ true → IsPhaseSound c phase start seen ahead list (Some m)
    → (o : Operation Tagged) × (outstanding_of r phase ≡ Some (record { revision = r; op = o })) × Fits o (apply_entries start seen) × IsUnderway c o start seen ahead m
phase_outstanding c NotJoined start seen ahead list m r on sound = absurd (cc)
phase_outstanding c Synchronized start seen ahead list m r on sound = absurd (let e = sound.message_is in cc)
phase_outstanding c (AwaitingConfirm o) start seen ahead list m r on sound = (o, refl, sound.fits, sound.sent)
phase_outstanding c (AwaitingWithBuffer o b) start seen ahead list m r on sound = (o, refl, sound.fits, sound.sent)

-- the server takes it at the client's revision, and makes of it what it would make of the message
pub record IsOutstanding (server : History Tagged) (seat : Seat) (m : Message) : Type 0 where
  pub op : Operation Tagged
  pub is : outstanding_of (revision_of seat.client) (phase_of seat.client) ≡ Some (record { revision = revision_of seat.client; op = op })
  pub accepted : fault_of server (revision_of seat.client) op ≡ None
  pub same : transform_over op (drop (revision_of seat.client) server.log) ≡ transform_over m.op (drop m.revision server.log)

pub outstanding :
    (server : History Tagged) (seats : List Seat) (steps c : ℕ) (seat : Seat) (m : Message)
    → IsKept server seats steps → slice_get seats c ≡ Some seat → steps < 1000000 → is_some seat.client ≡ true → (client_of seat).message ≡ Some m
    → IsOutstanding server seat m
outstanding server seats steps c seat m is_kept at below on message =
    let sound = is_kept.sound.2 in
    let start = is_kept.sound.0 in
    let x = client_of seat in
    let found = client_at seats c seat at in
    let r = revision_of seat.client in
    let seen = take r server.log in
    let ahead = drop r server.log in
    let split : seen ++ ahead ≡ server.log = take-append-drop r server.log in
    let known : r ≤ length server.log = sound.seen c x found in
    let now : IsPhaseSound c (phase_of seat.client) start seen ahead seat.list (Some m) = subst (IsPhaseSound c (phase_of seat.client) start seen ahead seat.list) message (sound.clients c x found) in
    let fact = phase_outstanding c (phase_of seat.client) start seen ahead seat.list m r (joined_of seat.client on) now in
    let o = fact.0 in
    let under = fact.3 in
    let rest = FitAll_drop laws start m.revision seen (FitAll_take laws start r server.log sound.fit) in
    let many : inserted o ≡ inserted m.op = ap inserted (sym under.transformed) ∙ ap length (transform_over_news laws m.op (apply_entries start (take m.revision seen)) (drop m.revision seen) rest under.fits) in
    let more : pending x ≡ inserted m.op + length (news_kept (phase_of seat.client)) =
    ap (λ (w : Option Message). length (news_sent w ++ news_kept (phase_of seat.client))) message ∙ length-append (news m.op) (news_kept (phase_of seat.client)) in
    let room = room_ahead laws start is_kept.sound.1 (state_from server seats steps) c x r sound found in
    let logged : length server.log ≤ steps = sound.logged in
    record {
      op = o;
      is = fact.1;
      accepted = no_fault server (record { revision = r; op = o }) (length (apply_entries start seen)) (inserted_in ahead) known fact.2.base (omega arith)
          (fits_below _ _ _ _ _ _ many more room)
          (ap (λ d. base_at ahead (length d)) sound.server ∙ base_at_is start r server.log sound.fit)
          (inserted_same ahead);
      same = sym (ap (λ log. transform_over m.op (drop m.revision log)) (sym split) ∙ taken_is c o start seen ahead m under);
    }
  where
    fits_below : (l j p i k n : ℕ) → n ≡ i → p ≡ i + k → l + (j + p) ≤ 1000000 → l + (j + n) ≤ 1000000
    fits_below l j p i k n e f g = omega arith

pub outstanding_seat : (seats : List Seat) (c : ℕ) (seat : Seat) → slice_get seats c ≡ Some seat → outstanding_at (map view_of seats) c ≡ outstanding_of (revision_of seat.client) (phase_of seat.client)
outstanding_seat seats c seat at = rw (slice_get-map view_of seats c, at) refl

pub take_receivable :
    (server : History Tagged) (seats : List Seat) (steps c : ℕ) (seat : Seat) (m : Message)
    → IsKept server seats steps → slice_get seats c ≡ Some seat → steps < 1000000 → is_some seat.client ≡ true → (client_of seat).message ≡ Some m
    → IsReceivable server (outstanding_at (map view_of seats) c)
take_receivable server seats steps c seat m is_kept at below on message =
    let fact = outstanding server seats steps c seat m is_kept at below on message in
    subst (IsReceivable server) (sym (outstanding_seat seats c seat at ∙ fact.is)) fact.accepted

-- so the history after it is the message's
pub take_received :
    (server : History Tagged) (seats : List Seat) (steps c : ℕ) (seat : Seat) (m : Message)
    → IsKept server seats steps → slice_get seats c ≡ Some seat → steps < 1000000 → is_some seat.client ≡ true → (client_of seat).message ≡ Some m
    → received_from server c (outstanding_at (map view_of seats) c) ≡ received server c m.revision m.op
take_received server seats steps c seat m is_kept at below on message =
    let fact = outstanding server seats steps c seat m is_kept at below on message in
    ap (received_from server c) (outstanding_seat seats c seat at ∙ fact.is) ∙ ap (with_entry server c) fact.same
