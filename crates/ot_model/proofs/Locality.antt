-- A client's steps on its part are the table's steps, at any later moment where the part begins the client.
use Rattle.std.proofs.Common.{◌≡◌, ℕ, zero, suc, ◌+◌, ◌<◌, ◌≤◌, List, [], ◌∷◌, ◌++◌, length, take, drop, set, map, refl, sym, ap, ◌∙◌, subst, arith, inl, inr, Option, Some, None, Bool, true, false, zero-add}
use Rattle.std.proofs.lemmas.List.{set-set}
use Rattle.std.proofs.lemmas.Option.{same_Some}
use Rattle.std.proofs.lemmas.Bool.{lt-leb, eqb-true, eqb-false, ltb-false}
use Rattle.std.specs.Prelude.{slice_get, ◌⊎◌, if◌then◌else◌, ◌==◌, nat_lt, not}
use Rattle.ot_isa.specs.declared.elements.Tagged.{Tagged}
use Rattle.ot_isa.specs.declared.instruction.Instr.{Instr}
use Rattle.ot_isa.specs.declared.instruction.Instr.TheVariants.{Edit, Take, Deliver, Acknowledge, Join, Read, ReadServer}
use Rattle.ot_model.specs.declared.shown.Refusal.TheVariants.{BadBase, ClientFull}
use Rattle.ot_model.specs.declared.shown.Reader.TheVariants as reader
use Rattle.ot_model.specs.declared.shown.Shown.{Shown}
use Rattle.ot_model.specs.Operation.{Operation, apply, inserted}
use Rattle.ot_model.specs.Table.{Phase, NotJoined, Synchronized, AwaitingConfirm, AwaitingWithBuffer, is_joined, Client, State, Entry, Message, Head, Ack, Op, head_for, Outcome, Performed, Refused, NoRow, Place, edited, delivered, acknowledged, message_edited, phase_edited, tag_operation, with_shown, with_client, with_row, row, step, run}
use Rattle.ot_model.specs.Sound.{IsSoundFrom, IsInstr, AreInstrs, IsPhaseSound, IsSent}
use Rattle.ot_model.specs.Part.{Part, PartOutcome, PartPerformed, PartRefused, PartNoRow, with_part, part_edit, part_deliver, part_with, part_acknowledge, part_row, PartPlace, run_part}
use Rattle.ot_model.specs.Session.{or_else, installed, BeginsOver, install}
use Rattle.ot_model.proofs.Algebra.{laws}
use Rattle.ot_model.proofs.States.{IsKept, drop_entry, slice_get-set_same, joined_edited, joined_delivered, edited_kept, delivered_kept, acknowledged_kept, client_changed_sound}

same_Performed : (p q : Part) (a b : Option Shown) → PartPerformed p a ≡ PartPerformed q b → (p ≡ q) × (a ≡ b)
same_Performed p q a b e = (cc, cc)

by_outcome : (R : Part → Option Shown → Type 0) (p q : Part) (a b : Option Shown) → PartPerformed p a ≡ PartPerformed q b → R p a → R q b
by_outcome R p q a b e r =
    let same = same_Performed p q a b e in
    subst (λ (w : Part). R w b) same.0 (subst (λ (w : Option Shown). R p w) same.1 r)

-- whose row it is
abbrev pub client_of : Instr → Option ℕ
client_of (Edit c op) = Some c
client_of (Take c) = Some c
client_of (Deliver c) = Some c
client_of (Acknowledge c) = Some c
client_of (Join c) = Some c
client_of (Read c) = Some c
client_of ReadServer = None

own_row : (p q : Part) (c : ℕ) (o : PartOutcome) (list : Option Shown) (own : Bool) → (c == p.number) ≡ own → (if own then o else PartNoRow) ≡ PartPerformed q list → (c ≡ p.number) × (o ≡ PartPerformed q list)
own_row p q c o list true is e = (eqb-true c p.number is, e)
own_row p q c o list false is e = absurd (cc)

-- what each row leaves, with what was on the uplink
message_installed : (x : Client) (phase : Phase) (m : Option Message) (op : Operation Tagged) → message_edited phase (installed x m) op ≡ or_else (message_edited phase x op) m
message_installed x NotJoined m op = refl
message_installed x Synchronized m op = refl
message_installed x (AwaitingConfirm o) m op = refl
message_installed x (AwaitingWithBuffer o b) m op = refl

edited_installed : (x : Client) (m : Option Message) (op : Operation Tagged) → edited (installed x m) op ≡ installed (edited x op) m
edited_installed x m op =
    ap (λ (w : Option Message). record { revision = x.revision; phase = phase_edited x.phase op; list = apply op x.list; count = x.count + inserted op; message = w }) (message_installed x x.phase m op)

-- the head of a downlink is the log's entry
head_entry : (c : ℕ) (log : List Entry) (r : ℕ) (y : Head) (ys : List Head) → map (head_for c) (drop r log) ≡ y ∷ ys → (h : Entry) × (slice_get log r ≡ Some h) × (head_for c h ≡ y) × (map (head_for c) (drop (suc r) log) ≡ ys)
head_entry c [] zero y ys e = absurd (cc)
head_entry c [] (suc r) y ys e = absurd (cc)
head_entry c (h ∷ log) zero y ys e = (h, refl, cc, cc)
head_entry c (h ∷ log) (suc r) y ys e = head_entry c log r y ys e

head_op : (c : ℕ) (h : Entry) (op : Operation Tagged) (own : Bool) → (h.maker == c) ≡ own → (if own then Ack else Op h.op) ≡ Op op → ((h.maker == c) ≡ false) × (h.op ≡ op)
head_op c h op true e f = absurd (cc)
head_op c h op false e f = (e, cc)

head_ack : (c : ℕ) (h : Entry) (own : Bool) → (h.maker == c) ≡ own → (if own then Ack else Op h.op) ≡ Ack → (h.maker == c) ≡ true
head_ack c h true e f = e
head_ack c h false e f = absurd (cc)

set_same : {X : Type 0} (xs : List X) (c : ℕ) (x : X) → slice_get xs c ≡ Some x → set xs c x ≡ xs
set_same [] c x e = absurd (cc)
set_same {X = X} (z ∷ xs) zero x e = ap (λ (w : X). w ∷ xs) (sym (same_Some z x e))
set_same {X = X} (z ∷ xs) (suc c) x e = ap (λ (ws : List X). z ∷ ws) (set_same xs c x e)

step_at : (s : State) (i : Instr) (c : ℕ) (x : Client) → client_of i ≡ Some c → slice_get s.clients c ≡ Some x → s.steps < 1000000 → step s i ≡ row s i c x
step_at s (Edit d op) c x e at below = rw (same_Some d c e, at, lt-leb 1000000 s.steps below)
step_at s (Take d) c x e at below = rw (same_Some d c e, at, lt-leb 1000000 s.steps below)
step_at s (Deliver d) c x e at below = rw (same_Some d c e, at, lt-leb 1000000 s.steps below)
step_at s (Acknowledge d) c x e at below = rw (same_Some d c e, at, lt-leb 1000000 s.steps below)
step_at s (Join d) c x e at below = rw (same_Some d c e, at, lt-leb 1000000 s.steps below)
step_at s (Read d) c x e at below = rw (same_Some d c e, at, lt-leb 1000000 s.steps below)
step_at s ReadServer c x e at below = absurd (cc)

-- the table's row of c does what the part's row does, and keeps what is sound
pub record IsLocal (p : Part) (s : State) (m : Option Message) (rest : List Head) (i : Instr) (q : Part) (list : Option Shown) : Type 0 where
  pub own : client_of i ≡ Some p.number
  pub row_is : row s i p.number (installed p.client m) ≡ Performed (install s q m (suc s.steps)) list
  pub kept : (start : List Tagged) (text : List ℕ) → IsSoundFrom start text s → IsInstr i → IsKept p.number start s.log (installed p.client m) (installed q.client m)
  pub joined : is_joined q.client.phase ≡ true
  pub number_is : q.number ≡ p.number
  pub rises : p.client.revision ≤ q.client.revision
  pub sends : (start : List Tagged) (text : List ℕ) → IsSoundFrom start text s → (q.client.message ≡ p.client.message) ⊎ (or_else p.client.message m ≡ None)
  pub downlink : map (head_for p.number) (drop q.client.revision s.log) ≡ q.incoming ++ rest

-- an edit sends only where nothing is under way
edit_sends : (c : ℕ) (phase : Phase) (start : List Tagged) (seen ahead : List Entry) (list : List Tagged) (x : Client) (message : Option Message) (op : Operation Tagged) → IsPhaseSound c phase start seen ahead list message → (message_edited phase x op ≡ x.message) ⊎ (message ≡ None)
edit_sends c NotJoined start seen ahead list x message op sound = inl refl
edit_sends c Synchronized start seen ahead list x message op sound = inr sound.message_is
edit_sends c (AwaitingConfirm o) start seen ahead list x message op sound = inl refl
edit_sends c (AwaitingWithBuffer o b) start seen ahead list x message op sound = inl refl

-- what is acknowledged is under way no more
none_sent : (c : ℕ) (o : Operation Tagged) (start : List Tagged) (seen ahead : List Entry) (message : Option Message) (h : Entry) → h.maker ≡ c → IsSent c o start seen (h ∷ ahead) message → message ≡ None
none_sent c o start seen ahead None h own sent = refl
none_sent c o start seen ahead (Some m) h own sent = absurd (sent.none.0 own)

acknowledge_sends : (c : ℕ) (phase : Phase) (start : List Tagged) (seen ahead : List Entry) (list : List Tagged) (message : Option Message) (h : Entry) → is_joined phase ≡ true → h.maker ≡ c → IsPhaseSound c phase start seen (h ∷ ahead) list message → message ≡ None
acknowledge_sends c NotJoined start seen ahead list message h on own sound = absurd (cc)
acknowledge_sends c Synchronized start seen ahead list message h on own sound = absurd (sound.none.0 own)
acknowledge_sends c (AwaitingConfirm o) start seen ahead list message h on own sound = none_sent c o start seen ahead message h own sound.sent
acknowledge_sends c (AwaitingWithBuffer o b) start seen ahead list message h on own sound = none_sent c o start seen ahead message h own sound.sent

if_performed : (base full : Bool) (o : Outcome) (q r : Part) (list : Option Shown) → (if not base then PartRefused BadBase else if full then PartRefused ClientFull else PartPerformed q None) ≡ PartPerformed r list
    → ((if not base then Refused BadBase else if full then Refused ClientFull else o) ≡ o) × (PartPerformed q None ≡ PartPerformed r list) × (base ≡ true) × (full ≡ false)
if_performed false full o q r list e = absurd (cc)
if_performed true true o q r list e = absurd (cc)
if_performed true false o q r list e = (refl, e, refl, refl)

local_edit : (p q : Part) (s : State) (m : Option Message) (rest : List Head) (d : ℕ) (op : Operation ℕ) (list : Option Shown) → d ≡ p.number → part_edit p op ≡ PartPerformed q list → BeginsOver p s m rest → IsLocal p s m rest (Edit d op) q list
local_edit p q s m rest d op list own e begins =
    let x = installed p.client m in
    let t = tag_operation p.number p.client.count op in
    let y = with_part p (edited p.client t) p.incoming in
    let parts = if_performed (op.base == length p.client.list) (nat_lt 15000 (p.client.count + inserted op)) (Performed (with_client s p.number (edited x t)) None) y q list e in
    let base : op.base ≡ length p.client.list = eqb-true op.base (length p.client.list) parts.2 in
    let few : p.client.count + inserted op ≤ 15000 = ltb-false 15000 (p.client.count + inserted op) parts.3 in
    by_outcome (IsLocal p s m rest (Edit d op)) y q None list parts.1 (record {
      own = ap Some own;
      row_is = rw begins.joined (parts.0 ∙ ap (λ (w : Client). Performed (with_client s p.number w) None) (edited_installed p.client m t));
      kept = λ start text sound is. subst (λ (w : Client). IsKept p.number start s.log x w) (edited_installed p.client m t) (edited_kept laws start text s p.number x op sound begins.client is base few begins.joined);
      joined = joined_edited p.client.phase t begins.joined;
      number_is = refl;
      rises = omega arith;
      sends = λ start text sound. edit_sends p.number p.client.phase start (take p.client.revision s.log) (drop p.client.revision s.log) p.client.list p.client x.message t (sound.clients p.number x begins.client);
      downlink = begins.downlink;
    })

local_deliver : (p q : Part) (s : State) (m : Option Message) (rest : List Head) (d : ℕ) (list : Option Shown) (incoming : List Head) → d ≡ p.number → map (head_for p.number) (drop p.client.revision s.log) ≡ incoming ++ rest → part_deliver p incoming ≡ PartPerformed q list → BeginsOver p s m rest → IsLocal p s m rest (Deliver d) q list
local_deliver p q s m rest d list [] own link e begins = absurd (cc)
local_deliver p q s m rest d list (Ack ∷ incoming) own link e begins = absurd (cc)
local_deliver p q s m rest d list (Op h ∷ incoming) own link e begins =
    let x = installed p.client m in
    let y = with_part p (delivered p.client h) incoming in
    let found = head_entry p.number s.log p.client.revision (Op h) (incoming ++ rest) link in
    let entry = found.0 in
    let facts = head_op p.number entry h (entry.maker == p.number) refl found.2 in
    by_outcome (IsLocal p s m rest (Deliver d)) y q None list e (record {
      own = ap Some own;
      row_is = rw (found.1, facts.0, begins.joined) (ap (λ (w : Operation Tagged). Performed (with_client s p.number (delivered x w)) None) facts.1);
      kept = λ start text sound is. subst (λ (w : Operation Tagged). IsKept p.number start s.log x (delivered x w)) facts.1 (delivered_kept laws start text s p.number x entry sound begins.client found.1 (eqb-false entry.maker p.number facts.0) begins.joined);
      joined = joined_delivered p.client.phase h begins.joined;
      number_is = refl;
      rises = omega arith;
      sends = λ start text sound. inl refl;
      downlink = found.3;
    })

acknowledged_installed : (x : Client) (phase : Phase) (m : Option Message) (p q : Part) (list : Option Shown) (incoming : List Head) → part_with p (acknowledged x phase) incoming ≡ PartPerformed q list
    → (y : Client) × (PartPerformed (with_part p y incoming) None ≡ PartPerformed q list) × (acknowledged (installed x m) phase ≡ Some (installed y m)) × (y.revision ≡ suc x.revision) × (is_joined y.phase ≡ true)
acknowledged_installed x NotJoined m p q list incoming e = absurd (cc)
acknowledged_installed x Synchronized m p q list incoming e = absurd (cc)
acknowledged_installed x (AwaitingConfirm o) m p q list incoming e = (record { revision = suc x.revision; phase = Synchronized; list = x.list; count = x.count; message = x.message }, e, refl, refl, refl)
acknowledged_installed x (AwaitingWithBuffer o b) m p q list incoming e =
    (record { revision = suc x.revision; phase = AwaitingConfirm b; list = x.list; count = x.count; message = Some (record { revision = suc x.revision; op = b }) }, e, refl, refl, refl)

local_acknowledge : (p q : Part) (s : State) (m : Option Message) (rest : List Head) (d : ℕ) (list : Option Shown) (incoming : List Head) → d ≡ p.number → map (head_for p.number) (drop p.client.revision s.log) ≡ incoming ++ rest → part_acknowledge p incoming ≡ PartPerformed q list → BeginsOver p s m rest → IsLocal p s m rest (Acknowledge d) q list
local_acknowledge p q s m rest d list [] own link e begins = absurd (cc)
local_acknowledge p q s m rest d list (Op h ∷ incoming) own link e begins = absurd (cc)
local_acknowledge p q s m rest d list (Ack ∷ incoming) own link e begins =
    let x = installed p.client m in
    let found = head_entry p.number s.log p.client.revision Ack (incoming ++ rest) link in
    let entry = found.0 in
    let its = head_ack p.number entry (entry.maker == p.number) refl found.2 in
    let result = acknowledged_installed p.client p.client.phase m p q list incoming e in
    let y = result.0 in
    by_outcome (IsLocal p s m rest (Acknowledge d)) (with_part p y incoming) q None list result.1 (record {
      own = ap Some own;
      row_is = rw (found.1, its, begins.joined) (ap (with_row s p.number) result.2);
      kept = λ start text sound is.
          let kept = acknowledged_kept laws start text s p.number x entry sound begins.client found.1 (eqb-true entry.maker p.number its) begins.joined in
          subst (λ (w : Client). IsKept p.number start s.log x w) (same_Some kept.0 (installed y m) (sym kept.1 ∙ result.2)) kept.2;
      joined = result.4;
      number_is = refl;
      rises = let next = result.3 in omega arith;
      sends = λ start text sound. inr (acknowledge_sends p.number p.client.phase start (take p.client.revision s.log) (drop (suc p.client.revision) s.log) p.client.list x.message entry begins.joined (eqb-true entry.maker p.number its)
          (subst (λ (ahead : List Entry). IsPhaseSound p.number p.client.phase start (take p.client.revision s.log) ahead p.client.list x.message) (drop_entry s.log p.client.revision entry found.1) (sound.clients p.number x begins.client)));
      downlink = rw result.3 found.3;
    })

local_read : (p q : Part) (s : State) (m : Option Message) (rest : List Head) (d : ℕ) (list : Option Shown) → d ≡ p.number → PartPerformed p (Some (record { who = reader.Client p.number; list = p.client.list })) ≡ PartPerformed q list → BeginsOver p s m rest → IsLocal p s m rest (Read d) q list
local_read p q s m rest d list own e begins =
    let x = installed p.client m in
    let shown : Shown = record { who = reader.Client p.number; list = p.client.list } in
    by_outcome (IsLocal p s m rest (Read d)) p q (Some shown) list e (record {
      own = ap Some own;
      row_is = rw begins.joined (ap (λ (w : List Client). Performed (record { log = s.log; server = s.server; clients = w; steps = suc s.steps }) (Some shown)) (sym (set_same s.clients p.number x begins.client)));
      kept = λ start text sound is. record {
        seen = sound.seen p.number x begins.client;
        sound = sound.clients p.number x begins.client;
        own = sound.own p.number x begins.client;
        count = sound.counts p.number x begins.client;
        room = omega arith;
        joined = begins.joined;
      };
      joined = begins.joined;
      number_is = refl;
      rises = omega arith;
      sends = λ start text sound. inl refl;
      downlink = begins.downlink;
    })

local_row : (p q : Part) (s : State) (m : Option Message) (rest : List Head) (i : Instr) (list : Option Shown) → part_row p i ≡ PartPerformed q list → BeginsOver p s m rest → IsLocal p s m rest i q list
local_row p q s m rest (Edit d op) list e begins =
    let own = own_row p q d (part_edit p op) list (d == p.number) refl e in
    local_edit p q s m rest d op list own.0 own.1 begins
local_row p q s m rest (Take d) list e begins = absurd (cc)
local_row p q s m rest (Deliver d) list e begins =
    let own = own_row p q d (part_deliver p p.incoming) list (d == p.number) refl e in
    local_deliver p q s m rest d list p.incoming own.0 begins.downlink own.1 begins
local_row p q s m rest (Acknowledge d) list e begins =
    let own = own_row p q d (part_acknowledge p p.incoming) list (d == p.number) refl e in
    local_acknowledge p q s m rest d list p.incoming own.0 begins.downlink own.1 begins
local_row p q s m rest (Join d) list e begins = absurd (cc)
local_row p q s m rest (Read d) list e begins =
    let own = own_row p q d (PartPerformed p (Some (record { who = reader.Client p.number; list = p.client.list }))) list (d == p.number) refl e in
    local_read p q s m rest d list own.0 own.1 begins
local_row p q s m rest ReadServer list e begins = absurd (cc)

-- the state that a part is put into still begins with it
begins_installed : (p q : Part) (s : State) (m : Option Message) (rest : List Head) (i : Instr) (list : Option Shown) (n : ℕ) → BeginsOver p s m rest → IsLocal p s m rest i q list → BeginsOver q (install s q m n) m rest
begins_installed p q s m rest i list n begins local =
    record {
      client = rw local.number_is (slice_get-set_same s.clients p.number (installed p.client m) (installed q.client m) begins.client);
      joined = local.joined;
      downlink = rw local.number_is local.downlink;
    }

install-install : (s : State) (p q : Part) (m : Option Message) (k n : ℕ) → q.number ≡ p.number → install (install s p m k) q m n ≡ install s q m n
install-install s p q m k n e =
    ap (λ (w : List Client). record { log = s.log; server = s.server; clients = w; steps = n }) (rw e (set-set s.clients p.number (installed p.client m) (installed q.client m)))

-- a run on a part, step by step
pub run_part_more : (i : Instr) (is : List Instr) (z w : PartPlace) → run_part (i ∷ is) z ≡ Some w
    → (r : Part) × (list : Option Shown) × (part_row z.part i ≡ PartPerformed r list) × (run_part is (record { part = r; shown = with_shown z.shown list }) ≡ Some w)
run_part_more i is z w e = go (part_row z.part i) refl e
  where
    go : (o : PartOutcome) → part_row z.part i ≡ o
        → (elim o [ PartPerformed q list ↦ run_part is (record { part = q; shown = with_shown z.shown list }) | PartRefused r ↦ None | PartNoRow ↦ None ]) ≡ Some w
        → (r : Part) × (list : Option Shown) × (part_row z.part i ≡ PartPerformed r list) × (run_part is (record { part = r; shown = with_shown z.shown list }) ≡ Some w)
    go (PartPerformed r list) is_row f = (r, list, is_row, f)
    go (PartRefused r) is_row f = absurd (cc)
    go PartNoRow is_row f = absurd (cc)

same_place : (p q : Part) (a b : List Shown) → ◌≡◌ {A = Option PartPlace} (Some (record { part = p; shown = a })) (Some (record { part = q; shown = b })) → (p ≡ q) × (a ≡ b)
same_place p q a b e =
    let same : ◌≡◌ {A = PartPlace} (record { part = p; shown = a }) (record { part = q; shown = b }) = same_Some (record { part = p; shown = a }) (record { part = q; shown = b }) e in
    (ap (λ (w : PartPlace). w.part) same, ap (λ (w : PartPlace). w.shown) same)

run_more : (i : Instr) (is : List Instr) (p : Place) (s : State) (list : Option Shown) → step p.state i ≡ Performed s list → run (i ∷ is) p ≡ run is (record { state = s; shown = with_shown p.shown list })
run_more i is p s list e =
    ap (λ (o : Outcome). elim o as (λ x. Option Place) [ Performed t shown ↦ run is (record { state = t; shown = with_shown p.shown shown }) | Refused r ↦ None | NoRow ↦ None ]) e

-- where a session's steps lead to
pub record IsLed (p q : Part) (s : State) (m : Option Message) (rest : List Head) : Type 0 where
  pub number_is : q.number ≡ p.number
  pub rises : p.client.revision ≤ q.client.revision
  pub begins : (n : ℕ) → BeginsOver q (install s q m n) m rest

pub led : (is : List Instr) (p q : Part) (s : State) (m : Option Message) (rest : List Head) (acc shown : List Shown) → BeginsOver p s m rest → run_part is (record { part = p; shown = acc }) ≡ Some (record { part = q; shown = shown }) → IsLed p q s m rest
led [] p q s m rest acc shown begins e =
    let same : p ≡ q = (same_place p q acc shown e).0 in
    subst (λ (w : Part). IsLed p w s m rest) same (record {
      number_is = refl;
      rises = omega arith;
      begins = λ n. record { client = slice_get-set_same s.clients p.number (installed p.client m) (installed p.client m) begins.client; joined = begins.joined; downlink = begins.downlink };
    })
led (i ∷ is) p q s m rest acc shown begins e =
    let more = run_part_more i is (record { part = p; shown = acc }) (record { part = q; shown = shown }) e in
    let r = more.0 in
    let local = local_row p r s m rest i more.1 more.2 begins in
    let next = led is r q (install s r m s.steps) m rest (with_shown acc more.1) shown (begins_installed p r s m rest i more.1 s.steps begins local) more.3 in
    record {
      number_is = next.number_is ∙ local.number_is;
      rises = let first = local.rises in let later = next.rises in omega arith;
      begins = λ n. subst (λ (w : State). BeginsOver q w m rest) (install-install s r q m s.steps n next.number_is) (next.begins n);
    }

-- a session's steps, as one block, at any state that its start begins
pub block : (is : List Instr) (p q : Part) (s : State) (m : Option Message) (rest : List Head) (acc shown : List Shown) → BeginsOver p s m rest → length is + s.steps ≤ 1000000 → run_part is (record { part = p; shown = acc }) ≡ Some (record { part = q; shown = shown })
    → run is (record { state = s; shown = acc }) ≡ Some (record { state = install s q m (length is + s.steps); shown = shown })
block [] p q s m rest acc shown begins few e =
    let same = same_place p q acc shown e in
    let stays : install s p m s.steps ≡ s = ap (λ (w : List Client). record { log = s.log; server = s.server; clients = w; steps = s.steps }) (set_same s.clients p.number (installed p.client m) begins.client) in
    ap (λ (w : State). Some (record { state = w; shown = acc })) (sym stays ∙ ap (λ (w : Part). install s w m s.steps) same.0) ∙ ap (λ (w : List Shown). Some (record { state = install s q m s.steps; shown = w })) same.1 ∙ ap (λ (n : ℕ). Some (record { state = install s q m n; shown = shown })) (sym (zero-add s.steps))
block (i ∷ is) p q s m rest acc shown begins few e =
    let more = run_part_more i is (record { part = p; shown = acc }) (record { part = q; shown = shown }) e in
    let r = more.0 in
    let list = more.1 in
    let local = local_row p r s m rest i list more.2 begins in
    let t = install s r m (suc s.steps) in
    let next = begins_installed p r s m rest i list (suc s.steps) begins local in
    let below : s.steps < 1000000 = omega arith in
    let now : step s i ≡ Performed t list = step_at s i p.number (installed p.client m) local.own begins.client below ∙ local.row_is in
    let left : length is + suc s.steps ≤ 1000000 = omega arith in
    let number = (led is r q t m rest (with_shown acc list) shown next more.3).number_is in
    let count : length is + suc s.steps ≡ suc (length is) + s.steps = omega arith in
    run_more i is (record { state = s; shown = acc }) t list now
    ∙ (block is r q t m rest (with_shown acc list) shown next left more.3
    ∙ ap (λ (w : State). Some (record { state = w; shown = shown })) (install-install s r q m (suc s.steps) (length is + suc s.steps) number ∙ ap (install s q m) count))

-- the present part is a client of a sound state, however many steps there were
pub present : (is : List Instr) (p q : Part) (start : List Tagged) (text : List ℕ) (s : State) (m : Option Message) (rest : List Head) (acc shown : List Shown) → IsSoundFrom start text s → BeginsOver p s m rest → AreInstrs is → run_part is (record { part = p; shown = acc }) ≡ Some (record { part = q; shown = shown })
    → IsSoundFrom start text (install s q m s.steps)
present [] p q start text s m rest acc shown sound begins all e =
    let same = same_place p q acc shown e in
    let stays : install s p m s.steps ≡ s = ap (λ (w : List Client). record { log = s.log; server = s.server; clients = w; steps = s.steps }) (set_same s.clients p.number (installed p.client m) begins.client) in
    subst (λ (w : State). IsSoundFrom start text w) (sym stays ∙ ap (λ (w : Part). install s w m s.steps) same.0) sound
present (i ∷ is) p q start text s m rest acc shown sound begins all e =
    let more = run_part_more i is (record { part = p; shown = acc }) (record { part = q; shown = shown }) e in
    let r = more.0 in
    let local = local_row p r s m rest i more.1 more.2 begins in
    let t = install s r m s.steps in
    let next = begins_installed p r s m rest i more.1 s.steps begins local in
    let t_sound = client_changed_sound start text s p.number (installed p.client m) (installed r.client m) s.steps sound sound.logged sound.steps begins.client (local.kept start text sound all.0) in
    let sound' : IsSoundFrom start text t = subst (λ (c : ℕ). IsSoundFrom start text (record { log = s.log; server = s.server; clients = set s.clients c (installed r.client m); steps = s.steps })) (sym local.number_is) t_sound in
    let number = (led is r q t m rest (with_shown acc more.1) shown next more.3).number_is in
    subst (λ (w : State). IsSoundFrom start text w) (install-install s r q m s.steps s.steps number) (present is r q start text t m rest (with_shown acc more.1) shown sound' next all.1 more.3)

-- what is sent on the part finds nothing under way
pub sends_once : (is : List Instr) (p q : Part) (start : List Tagged) (text : List ℕ) (s : State) (m : Option Message) (rest : List Head) (acc shown : List Shown) → IsSoundFrom start text s → BeginsOver p s m rest → AreInstrs is → run_part is (record { part = p; shown = acc }) ≡ Some (record { part = q; shown = shown })
    → (q.client.message ≡ p.client.message) ⊎ (or_else p.client.message m ≡ None)
sends_once [] p q start text s m rest acc shown sound begins all e = inl (ap (λ (w : Part). w.client.message) (sym (same_place p q acc shown e).0))
sends_once (i ∷ is) p q start text s m rest acc shown sound begins all e =
    let more = run_part_more i is (record { part = p; shown = acc }) (record { part = q; shown = shown }) e in
    let r = more.0 in
    let local = local_row p r s m rest i more.1 more.2 begins in
    let t = install s r m s.steps in
    let next = begins_installed p r s m rest i more.1 s.steps begins local in
    let t_sound = client_changed_sound start text s p.number (installed p.client m) (installed r.client m) s.steps sound sound.logged sound.steps begins.client (local.kept start text sound all.0) in
    let sound' : IsSoundFrom start text t = subst (λ (c : ℕ). IsSoundFrom start text (record { log = s.log; server = s.server; clients = set s.clients c (installed r.client m); steps = s.steps })) (sym local.number_is) t_sound in
    let later = sends_once is r q start text t m rest (with_shown acc more.1) shown sound' next all.1 more.3 in
    elim (local.sends start text sound) [
      | inr none ↦ inr none
      | inl same ↦ elim later [
        | inr none ↦ inr (ap (λ (w : Option Message). or_else w m) (sym same) ∙ none)
        | inl kept ↦ inl (kept ∙ same)
      ]
    ]
