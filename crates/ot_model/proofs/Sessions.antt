-- Sessions: a part that was lent goes on beginning its client, and its session comes back as one block.
use Rattle.std.proofs.Common.{◌≡◌, ℕ, suc, ◌+◌, ◌≤◌, ◌≢◌, List, [], ◌∷◌, ◌++◌, length, drop, set, map, refl, sym, ap, ◌∙◌, arith, inl, inr, Option, Some, None, append_assoc, true, false, length-append}
use Rattle.std.proofs.lemmas.List.{append-nil, drop-append-le, drop_all, map-append}
use Rattle.std.proofs.lemmas.Bool.{cases_eq, cases_lt, cond-true}
use Rattle.std.proofs.lemmas.Option.{same_Some}
use Rattle.std.specs.Prelude.{slice_get, ◌⊎◌}
use Rattle.ot_isa.specs.declared.elements.Tagged.{Tagged}
use Rattle.ot_isa.specs.declared.instruction.Instr.{Instr}
use Rattle.ot_isa.specs.declared.instruction.Instr.TheVariants.{Edit, Take, Deliver, Acknowledge, Join, Read, ReadServer}
use Rattle.ot_server.specs.History.{transform_over}
use Rattle.ot_model.specs.declared.shown.Shown.{Shown}
use Rattle.ot_model.specs.Operation.{Operation}
use Rattle.ot_model.specs.Table.{taken, is_joined, Client, State, Place, Entry, Message, Head, head_for, downlink, Outcome, Performed, Refused, NoRow, edited, delivered, acknowledged, joined, tag_operation, with_row, with_shown, step, run}
use Rattle.ot_model.specs.Sound.{IsSound, AreInstrs}
use Rattle.ot_model.specs.Part.{Part, PartOutcome, PartPerformed, PartRefused, PartNoRow, PartPlace, part_row, run_part, silent, Leads, LeadsShowing}
use Rattle.ot_model.specs.Session.{IsPartIn, Session, IsAllowed, Begins, BeginsOver, or_else, installed, install, IsOthers, IsWaiting, RunsShowing, RunsTo}
use Rattle.ot_model.proofs.Algebra.{laws}
use Rattle.ot_model.proofs.States.{slice_get-set_same, slice_get-set_other}
use Rattle.ot_model.proofs.Outcomes.{by_edit, by_take, by_deliver, by_acknowledge, by_join, by_read, by_read_server}
use Rattle.ot_model.proofs.Runs.{run-append}
use Rattle.ot_model.proofs.Steps.{run_sound}
use Rattle.ot_model.proofs.Locality as locality
use Rattle.ot_model.proofs.Locality.{block, present, led, run_part_more}

-- a client with this message in place of its own
abbrev with_message : Client → Option Message → Client
with_message x m = record { revision = x.revision; phase = x.phase; list = x.list; count = x.count; message = m }

-- a part that sent nothing begins its client over whatever is on the uplink
pub begins_over : (p : Part) (s : State) (x : Client) (begins : Begins p s) → p.client.message ≡ None → slice_get s.clients p.number ≡ Some x → BeginsOver p s x.message begins.rest
begins_over p s x begins none at =
    let y = begins.client in
    let found : y ≡ x = same_Some y x (sym begins.at ∙ at) in
    let same : silent x ≡ silent p.client = ap silent (sym found) ∙ begins.same in
    let revision : x.revision ≡ p.client.revision = ap (λ (z : Client). z.revision) same in
    let phase : x.phase ≡ p.client.phase = ap (λ (z : Client). z.phase) same in
    let now : x ≡ installed p.client x.message = ap (λ (z : Client). with_message z x.message) same ∙ ap (λ (w : Option Message). with_message p.client (or_else w x.message)) (sym none) in
    let on : is_joined x.phase ≡ true = ap (λ (z : Client). is_joined z.phase) (sym found) ∙ begins.joined in
    let link : downlink s p.number x ≡ p.incoming ++ begins.rest = ap (downlink s p.number) (sym found) ∙ begins.downlink_is in
    let line : map (head_for p.number) (drop x.revision s.log) ≡ p.incoming ++ begins.rest = sym (cond-true (is_joined x.phase) (map (head_for p.number) (drop x.revision s.log)) [] on) ∙ link in
    record {
      client = at ∙ ap (λ (z : Client). Some z) now;
      joined = ap is_joined (sym phase) ∙ on;
      downlink = ap (λ (r : ℕ). map (head_for p.number) (drop r s.log)) (sym revision) ∙ line;
    }

pub part_begins : (s : State) (p : Part) → IsPartIn s p → Begins p s
part_begins s p part =
    record {
      client = part.client;
      at = part.at;
      joined = part.joined;
      same = ap (λ (w : Part). silent w.client) (sym part.part_is);
      rest = [];
      downlink_is = ap (λ (w : Part). w.incoming) (sym part.part_is) ∙ sym (append-nil p.incoming);
    }

-- a part as it was made has sent nothing
pub part_unsent : (s : State) (p : Part) → IsPartIn s p → p.client.message ≡ None
part_unsent s p part = ap (λ (w : Part). w.client.message) part.part_is

pub session_block : (p q : Part) (steps : List Instr) (shown : List Shown) (s : State) (x : Client) → Begins p s → p.client.message ≡ None → slice_get s.clients p.number ≡ Some x → length steps + s.steps ≤ 1000000 → LeadsShowing p steps q shown
    → RunsShowing s steps (install s q x.message (length steps + s.steps)) shown
session_block p q steps shown s x begins none at few leads = block steps p q s x.message begins.rest [] shown (begins_over p s x begins none at) few leads

pub session_sound : (p q : Part) (steps : List Instr) (s : State) (x : Client) → IsSound s → Begins p s → p.client.message ≡ None → slice_get s.clients p.number ≡ Some x → length steps + s.steps ≤ 1000000 → AreInstrs steps → Leads p steps q
    → IsSound (install s q x.message (length steps + s.steps))
session_sound p q steps s x sound begins none at few all (shown, leads) =
    run_sound laws steps (record { state = s; shown = [] }) (record { state = install s q x.message (length steps + s.steps); shown = shown }) sound all (session_block p q steps shown s x begins none at few leads)

pub present_sound : (x : Session) → IsAllowed x → (s : State) × (m : Option Message) × (rest : List Head) × IsSound s × BeginsOver x.now s m rest
present_sound x allowed =
    let p = x.start in
    let start = allowed.start in
    let s = start.state in
    let part = start.part_in in
    let z = part.client in
    let begins = part_begins s p part in
    let over = begins_over p s z begins (part_unsent s p part) part.at in
    let leads = allowed.leads in (
      install s x.now z.message s.steps,
      z.message,
      begins.rest,
      (start.sound.0, start.sound.1, present x.steps p x.now start.sound.0 start.sound.1 s z.message begins.rest [] leads.0 start.sound.2 over allowed.instrs leads.1),
      (led x.steps p x.now s z.message begins.rest [] leads.0 over leads.1).begins s.steps,
    )

pub sends_once : (p q : Part) (steps : List Instr) (s : State) (x : Client) → IsSound s → Begins p s → p.client.message ≡ None → slice_get s.clients p.number ≡ Some x → AreInstrs steps → Leads p steps q → (q.client.message ≡ None) ⊎ (x.message ≡ None)
sends_once p q steps s x (start, text, sound) begins none at all (shown, leads) =
    let over = begins_over p s x begins none at in
    elim (locality.sends_once steps p q start text s x.message begins.rest [] shown sound over all leads) [
      | inl same ↦ inl (same ∙ none)
      | inr empty ↦ inr (ap (λ (w : Option Message). or_else w x.message) (sym none) ∙ empty)
    ]

-- the downlink grows behind
longer : (c r : ℕ) (log : List Entry) (e : Entry) (incoming rest : List Head) → map (head_for c) (drop r log) ≡ incoming ++ rest → (rest' : List Head) × (map (head_for c) (drop r (log ++ e ∷ [])) ≡ incoming ++ rest')
longer c r log e incoming rest link = elim (cases_lt (length log) r) [
  | inl past ↦
      let all : length (log ++ e ∷ []) ≤ r = rw length-append (omega arith) in
      let none : drop r log ≡ [] = drop_all r log (omega arith) in
      (rest, ap (map (head_for c)) (drop_all r (log ++ e ∷ []) all) ∙ ap (map (head_for c)) (sym none) ∙ link)
  | inr within ↦ (rest ++ head_for c e ∷ [], ap (map (head_for c)) (drop-append-le r log (e ∷ []) within) ∙ map-append (head_for c) (drop r log) (e ∷ []) ∙ ap (λ (l : List Head). l ++ head_for c e ∷ []) link ∙ append_assoc incoming rest (head_for c e ∷ []))
]

-- a client joined as it was, with its downlink as it was or longer
begins_as : (p : Part) (s t : State) (begins : Begins p s) (y : Client) (rest : List Head) → slice_get t.clients p.number ≡ Some y → silent y ≡ silent begins.client → map (head_for p.number) (drop begins.client.revision t.log) ≡ p.incoming ++ rest → Begins p t
begins_as p s t begins y rest at same link =
    let revision : y.revision ≡ begins.client.revision = ap (λ (z : Client). z.revision) same in
    let on : is_joined y.phase ≡ true = ap (λ (z : Client). is_joined z.phase) same ∙ begins.joined in
    record {
      client = y;
      at = at;
      joined = on;
      same = same ∙ begins.same;
      rest = rest;
      downlink_is = rw on (ap (λ (r : ℕ). map (head_for p.number) (drop r t.log)) revision ∙ link);
    }

module _ (p : Part) (s : State) (begins : Begins p s) where
  line : map (head_for p.number) (drop begins.client.revision s.log) ≡ p.incoming ++ begins.rest
  line =
      sym (cond-true (is_joined begins.client.phase) (map (head_for p.number) (drop begins.client.revision s.log)) [] begins.joined) ∙ begins.downlink_is

  other_client : (d : ℕ) (y : Client) (n : ℕ) → d ≢ p.number → Begins p (record { log = s.log; server = s.server; clients = set s.clients d y; steps = n })
  other_client d y n other =
      begins_as p s (record { log = s.log; server = s.server; clients = set s.clients d y; steps = n }) begins begins.client begins.rest (slice_get-set_other s.clients d p.number y (λ e. other (sym e)) ∙ begins.at) refl line

  same_clients : (n : ℕ) → Begins p (record { log = s.log; server = s.server; clients = s.clients; steps = n })
  same_clients n =
      begins_as p s (record { log = s.log; server = s.server; clients = s.clients; steps = n }) begins begins.client begins.rest begins.at refl line

  -- a take, of whichever client
  take_waits : (d : ℕ) (x : Client) (op : Operation Tagged) → slice_get s.clients d ≡ Some x → Begins p (taken s d x op)
  take_waits d x op at =
      let y : Client = silent x in
      let link = longer p.number begins.client.revision s.log (record { maker = d; op = op }) p.incoming begins.rest line in
      elim (cases_eq d p.number) [
        | inl own ↦
            let is : x ≡ begins.client = same_Some x begins.client (sym at ∙ ap (λ (k : ℕ). slice_get s.clients k) own ∙ begins.at) in
            begins_as p s (taken s d x op) begins y link.0 (ap (λ (k : ℕ). slice_get (set s.clients d y) k) (sym own) ∙ slice_get-set_same s.clients d x y at) (ap silent is) link.1
        | inr other ↦ begins_as p s (taken s d x op) begins begins.client link.0 (slice_get-set_other s.clients d p.number y (λ e. other (sym e)) ∙ begins.at) refl link.1
      ]

  acknowledge_waits : (d : ℕ) (o : Option Client) → d ≢ p.number → IsWaiting p (with_row s d o)
  acknowledge_waits d None other = tt
  acknowledge_waits d (Some y) other = other_client d y (suc s.steps) other

  -- a client that joins is not the part's, which is joined
  absent_other : (d : ℕ) (x : Client) → slice_get s.clients d ≡ Some x → is_joined x.phase ≡ false → d ≢ p.number
  absent_other d x at off own =
      let same : x ≡ begins.client = same_Some x begins.client (sym at ∙ ap (λ (k : ℕ). slice_get s.clients k) own ∙ begins.at) in
      let phases : is_joined x.phase ≡ is_joined begins.client.phase = ap (λ (z : Client). is_joined z.phase) same in
      let on = begins.joined in
      absurd (cc)

  waits : (i : Instr) → IsOthers p i → IsWaiting p (step s i)
  waits (Edit d op) other = by_edit (IsWaiting p) (λ r. tt) s d op (λ x at below on base few. other_client d (edited x (tag_operation d x.count op)) (suc s.steps) other)
  waits (Take d) other = by_take (IsWaiting p) (λ r. tt) s d (λ x n at below on sent. take_waits d x (transform_over n.op (drop n.revision s.log)) at)
  waits (Deliver d) other = by_deliver (IsWaiting p) (λ r. tt) s d (λ x h at below on head away. other_client d (delivered x h.op) (suc s.steps) other)
  waits (Acknowledge d) other = by_acknowledge (IsWaiting p) (λ r. tt) s d (λ x h at below on head own. acknowledge_waits d (acknowledged x x.phase) other)
  waits (Join d) other = by_join (IsWaiting p) (λ r. tt) s d (λ x at below off. other_client d (joined s x) (suc s.steps) (absent_other d x at off))
  waits (Read d) other = by_read (IsWaiting p) (λ r. tt) s d (λ x at below on. same_clients (suc s.steps))
  waits ReadServer other = by_read_server (IsWaiting p) (λ r. tt) s (λ below. same_clients (suc s.steps))

pub session_waits : (p : Part) (s : State) (i : Instr) → Begins p s → IsOthers p i → IsWaiting p (step s i)
session_waits p s i begins other = waits p s begins i other

-- a run on a part goes on where its first steps end
run_part-append : (is js : List Instr) (z w : PartPlace) → run_part is z ≡ Some w → run_part (is ++ js) z ≡ run_part js w
run_part-append [] js z w e = ap (run_part js) (same_Some z w e)
run_part-append (i ∷ is) js z w e = go (λ r f. run_part-append is js r w f) (part_row z.part i) e
  where
    go : ((r : PartPlace) → run_part is r ≡ Some w → run_part (is ++ js) r ≡ run_part js w) → (o : PartOutcome)
        → (elim o [ PartPerformed q list ↦ run_part is (record { part = q; shown = with_shown z.shown list }) | PartRefused r ↦ None | PartNoRow ↦ None ]) ≡ Some w
        → (elim o [ PartPerformed q list ↦ run_part (is ++ js) (record { part = q; shown = with_shown z.shown list }) | PartRefused r ↦ None | PartNoRow ↦ None ]) ≡ run_part js w
    go on (PartPerformed q list) f = on (record { part = q; shown = with_shown z.shown list }) f
    go on (PartRefused r) f = absurd (cc)
    go on PartNoRow f = absurd (cc)

run_part_one : (i : Instr) (z : PartPlace) (r : Part) (list : Option Shown) → part_row z.part i ≡ PartPerformed r list → run_part (i ∷ []) z ≡ Some (record { part = r; shown = with_shown z.shown list })
run_part_one i z r list e = rw (run_part, e) refl

pub goes_on : (p q r : Part) (steps : List Instr) (i : Instr) (list : Option Shown) → Leads p steps q → part_row q i ≡ PartPerformed r list → Leads p (steps ++ i ∷ []) r
goes_on p q r steps i list (shown, leads) e =
    (with_shown shown list, run_part-append steps (i ∷ []) (record { part = p; shown = [] }) (record { part = q; shown = shown }) leads ∙ run_part_one i (record { part = q; shown = shown }) r list e)

-- what a run shows stands behind what was shown before
shown_behind : (acc a : List Shown) (list : Option Shown) → with_shown (acc ++ a) list ≡ acc ++ with_shown a list
shown_behind acc a None = refl
shown_behind acc a (Some x) = append_assoc acc a (x ∷ [])

abbrev behind : List Shown → Place → Place
behind acc p = record { state = p.state; shown = acc ++ p.shown }

open_run : (is : List Instr) (p q : Place) (acc : List Shown) → run is p ≡ Some q → run is (behind acc p) ≡ Some (behind acc q)
open_run [] p q acc e = ap (λ (w : Place). Some (behind acc w)) (same_Some p q e)
open_run (i ∷ is) p q acc e = go (λ r f. open_run is r q acc f) (step p.state i) e
  where
    go : ((r : Place) → run is r ≡ Some q → run is (behind acc r) ≡ Some (behind acc q)) → (o : Outcome)
        → (elim o [ Performed t list ↦ run is (record { state = t; shown = with_shown p.shown list }) | Refused r ↦ None | NoRow ↦ None ]) ≡ Some q
        → (elim o [ Performed t list ↦ run is (record { state = t; shown = with_shown (acc ++ p.shown) list }) | Refused r ↦ None | NoRow ↦ None ]) ≡ Some (behind acc q)
    go on (Performed t list) f = ap (λ (l : List Shown). run is (record { state = t; shown = l })) (shown_behind acc p.shown list) ∙ on (record { state = t; shown = with_shown p.shown list }) f
    go on (Refused r) f = absurd (cc)
    go on NoRow f = absurd (cc)

pub runs_on : (s t u : State) (is js : List Instr) → RunsTo s is t → RunsTo t js u → RunsTo s (is ++ js) u
runs_on s t u is js (a, first) (b, second) =
    (a ++ b, run-append is js (record { state = s; shown = [] }) (record { state = t; shown = a }) first ∙ ap (λ (l : List Shown). run js (record { state = t; shown = l })) (sym (append-nil a)) ∙ open_run js (record { state = t; shown = [] }) (record { state = u; shown = b }) a second)
