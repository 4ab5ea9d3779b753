-- A client that comes back with its session's steps.
use Rattle.std.proofs.Common.{◌≡◌, ℕ, zero, suc, ◌+◌, ◌-◌, ◌<◌, ◌≤◌, List, [], length, drop, map, set, get_or, refl, sym, ap, ◌∙◌, subst, arith, inl, inr, Option, Some, None, true}
use Rattle.std.proofs.lemmas.List.{length-map, map-set}
use Rattle.std.proofs.lemmas.Option.{slice_get-map, slice_get_within, same_Some}
use Rattle.std.specs.Prelude.{slice_get}
use Rattle.std.specs.Option.{option_map}
use Rattle.ot_isa.specs.declared.elements.Tagged.{Tagged}
use Rattle.ot_isa.specs.declared.instruction.Instr.{Instr}
use Rattle.ot_client.specs.Client.{message_of}
use Rattle.ot_client.specs.declared.sent.Sent.{Sent}
use Rattle.ot_server.specs.History.{History}
use Rattle.ot_model.specs.Table.{Client, State, is_joined}
use Rattle.ot_model.specs.Sound.{IsSound, AreInstrs}
use Rattle.ot_model.specs.Part.{Part, Leads}
use Rattle.ot_model.specs.Session.{Begins, BeginsOver, installed, install, RunsShowing, RunsTo}
use Rattle.ot_model.proofs.States.{each_after}
use Rattle.ot_model.proofs.Locality.{led}
use Rattle.ot_model.proofs.Sessions.{begins_over, sends_once, session_block, session_sound}
use Rattle.ot_machine.specs.declared.seat.Seat.{Seat}
use Rattle.ot_machine.specs.Seats.{View, view_of, client_of, incoming, numbers, state_from, IsKept, MayPush}
use Rattle.ot_machine.proofs.RowLaws.{client_at, none_up, queue_at, seat_at}

drop-numbers : (k r n : ℕ) → drop k (numbers r n) ≡ numbers (r + k) (n - k)
drop-numbers zero r n =
    let same : r + 0 ≡ r = omega arith in
    let all : n - 0 ≡ n = omega arith in
    rw (same, all) refl
drop-numbers (suc k) r zero = let none : 0 - suc k ≡ 0 = omega arith in rw none refl
drop-numbers (suc k) r (suc n) =
    let from : r + suc k ≡ suc r + k = omega arith in
    let left : suc n - suc k ≡ n - k = omega arith in
    rw (from, left) (drop-numbers k (suc r) n)

-- the queue once its front is used
queue_used : (queue queue' : List ℕ) (x y : Client) (end r : ℕ) → queue ≡ incoming x end → is_joined x.phase ≡ true → is_joined y.phase ≡ true → x.revision ≡ r → r ≤ y.revision → queue' ≡ drop (y.revision - r) queue → queue' ≡ incoming y end
queue_used queue queue' x y end r is on on' same rises rest =
    let all : queue ≡ numbers r (end - r) = is ∙ rw (on, same) refl in
    let from : r + (y.revision - r) ≡ y.revision = omega arith in
    let left : end - r - (y.revision - r) ≡ end - y.revision = omega arith in
    rest ∙ ap (drop (y.revision - r)) all ∙ drop-numbers (y.revision - r) r (end - r) ∙ rw (from, left, on') refl

-- what an installed session leaves
pub record IsInstalled (server : History Tagged) (seats : List Seat) (n : ℕ) (s : State) (steps : List Instr) : Type 0 where
  pub kept : IsKept server seats n
  pub runs : RunsTo s steps (state_from server seats n)

-- the part's client in the machine, and what it asks
pub record IsComing (server : History Tagged) (seats : List Seat) (count : ℕ) (start now : Part) (steps : List Instr) (s : State) : Type 0 where
  pub kept : IsKept server seats count
  pub value : state_from server seats count ≡ s
  pub begins : Begins start s
  pub unsent : start.client.message ≡ None
  pub instrs : AreInstrs steps
  pub leads : Leads start steps now
  pub room : length steps + s.steps ≤ 1000000

-- the part begins its client over the uplink
over :
    (server : History Tagged) (seats : List Seat) (count : ℕ) (start now : Part) (steps : List Instr) (s : State) (x : Client)
    → (coming : IsComing server seats count start now steps s) → slice_get s.clients start.number ≡ Some x → BeginsOver start s x.message coming.begins.rest
over server seats count start now steps s x coming at = begins_over start s x coming.begins coming.unsent at

pub revision_rises : (start now : Part) (steps : List Instr) (s : State) → Begins start s → start.client.message ≡ None → Leads start steps now → start.client.revision ≤ now.client.revision
revision_rises start now steps s begins unsent leads =
    (led steps start now s begins.client.message begins.rest [] leads.0 (begins_over start s begins.client begins unsent begins.at) leads.1).rises

pub client_here :
    (server : History Tagged) (seats : List Seat) (count : ℕ) (start now : Part) (steps : List Instr) (s : State)
    → IsComing server seats count start now steps s → start.number < length seats
client_here server seats count start now steps s coming =
    let within : start.number < length s.clients = slice_get_within s.clients start.number coming.begins.client coming.begins.at in
    let many : length s.clients ≡ length seats = ap (λ (t : State). length t.clients) (sym coming.value) ∙ length-map seats client_of in
    omega arith

-- what the session sent finds the link empty
pub may_push :
    (server : History Tagged) (seats : List Seat) (count : ℕ) (start now : Part) (steps : List Instr) (s : State) (seat : Seat) (sent : Option (Sent Tagged))
    → IsComing server seats count start now steps s → seat ≡ get_or seats start.number seat → option_map message_of sent ≡ now.client.message
    → MayPush sent seat.up
may_push server seats count start now steps s seat None coming read is = tt
may_push server seats count start now steps s seat (Some sent) coming read is =
    let here : slice_get seats start.number ≡ Some seat = seat_at seats start.number (length seats) seat refl (client_here server seats count start now steps s coming) read in
    let at : slice_get s.clients start.number ≡ Some (client_of seat) = ap (λ (u : State). slice_get u.clients start.number) (sym coming.value) ∙ client_at seats start.number seat here in
    elim (sends_once start now steps s (client_of seat) (subst IsSound coming.value coming.kept.sound) coming.begins coming.unsent at coming.instrs coming.leads) [
      | inl none ↦ absurd (let e : Some (message_of sent) ≡ None = is ∙ none in cc)
      | inr empty ↦ none_up seat.up empty
    ]

pub installed_done :
    (server : History Tagged) (seats : List Seat) (count : ℕ) (start now : Part) (steps : List Instr) (s : State) (seat new : Seat) (n : ℕ)
    → IsComing server seats count start now steps s → seat ≡ get_or seats start.number seat
    → client_of new ≡ installed now.client (client_of seat).message → new.down.items ≡ drop (now.client.revision - start.client.revision) seat.down.items
    → n ≡ count + length steps
    → IsInstalled server (set seats start.number new) n s steps
installed_done server seats count start now steps s seat new n coming read client down many =
    let here : slice_get seats start.number ≡ Some seat = seat_at seats start.number (length seats) seat refl (client_here server seats count start now steps s coming) read in
    let t = state_from server seats count in
    let c = start.number in
    let x = client_of seat in
    let m = x.message in
    let at : slice_get s.clients c ≡ Some x = ap (λ (u : State). slice_get u.clients c) (sym coming.value) ∙ client_at seats c seat here in
    let begun = over server seats count start now steps s x coming at in
    let way = led steps start now s m coming.begins.rest [] coming.leads.0 begun coming.leads.1 in
    let same : x ≡ installed start.client m = same_Some x (installed start.client m) (sym at ∙ begun.client) in
    let after : state_from server (set seats c new) n ≡ install s now m (length steps + s.steps) = state_is t coming.value way.number_is client in
    let on : is_joined x.phase ≡ true = ap (λ (z : Client). is_joined z.phase) same ∙ begun.joined in
    let on' : is_joined (client_of new).phase ≡ true = ap (λ (z : Client). is_joined z.phase) client ∙ (way.begins 0).joined in
    let revision : (client_of new).revision ≡ now.client.revision = ap (λ (z : Client). z.revision) client in
    let rises = way.rises in
    let queue : new.down.items ≡ incoming (client_of new) (length server.log) =
    queue_used seat.down.items new.down.items x (client_of new) (length server.log) start.client.revision (queue_at server seats count c seat coming.kept here) on on' (ap (λ (z : Client). z.revision) same) (omega arith)
    (down ∙ ap (λ (k : ℕ). drop (k - start.client.revision) seat.down.items) (sym revision)) in
    record {
      kept = record {
        sound = subst IsSound (sym after) (session_sound start now steps s x (subst IsSound coming.value coming.kept.sound) coming.begins coming.unsent at coming.room coming.instrs coming.leads);
        queues = rw (map-set view_of seats c new)
            (each_after (λ d (v : View). v.queue ≡ incoming v.client (length server.log)) (λ d (v : View). v.queue ≡ incoming v.client (length server.log)) (map view_of seats) c (view_of seat) (view_of new)
            (slice_get-map view_of seats c ∙ ap (option_map view_of) here) coming.kept.queues queue (λ d z other h. h));
      };
      runs = (coming.leads.0, subst (λ (u : State). RunsShowing s steps u coming.leads.0) (sym after) (session_block start now steps coming.leads.0 s x coming.begins coming.unsent at coming.room coming.leads.1));
    }
  where
    state_is : (t : State) → state_from server seats count ≡ s → now.number ≡ start.number → client_of new ≡ installed now.client (client_of seat).message → state_from server (set seats start.number new) n ≡ install s now (client_of seat).message (length steps + s.steps)
    state_is t value number is =
        let sum : n ≡ length steps + count = omega arith in
        rw (map-set client_of seats start.number new, is, sum) (ap (λ (k : ℕ). install (state_from server seats count) (record { number = k; client = now.client; incoming = now.incoming }) (client_of seat).message (length steps + count)) (sym number)
        ∙ ap (λ (u : State). install u now (client_of seat).message (length steps + u.steps)) value)
