-- What an instruction could do later it could do earlier, before instructions that share no machine with it, or it finds its link empty.
use Rattle.std.proofs.Common.{◌≡◌, ℕ, ◌<◌, ◌≤◌, ◌≢◌, List, [], ◌++◌, length, set, refl, sym, ap, ◌∙◌, subst, arith, inl, inr, Option, Some, None, Bool, true, false, append_assoc}
use Rattle.std.proofs.lemmas.Option.{same_Some}
use Rattle.std.proofs.lemmas.List.{append-nil}
use Rattle.std.proofs.lemmas.Bool.{cases_eq, eq-eqb, lt-leb}
use Rattle.std.specs.Prelude.{◌⊎◌, slice_get}
use Rattle.ot_model.specs.Operation.{Operation}
use Rattle.ot_model.specs.Table.{Phase, NotJoined, Synchronized, AwaitingConfirm, AwaitingWithBuffer, is_joined, Client, State, Entry, Message, Performed, Refused, step, with_row, acknowledged}
use Rattle.ot_isa.specs.declared.instruction.Instr.{Instr}
use Rattle.ot_isa.specs.declared.instruction.Instr.TheVariants.{Edit, Take, Deliver, Acknowledge, Join, Read, ReadServer}
use Rattle.ot_model.specs.declared.shown.Shown.{Shown}
use Rattle.ot_model.specs.declared.shown.Refusal.TheVariants.{LinkEmpty}
use Rattle.ot_model.specs.Orders.{Machine, ClientMachine, ServerMachine, is_at}
use Rattle.ot_model.proofs.States.{slice_get-set_same, slice_get-set_other}
use Rattle.ot_model.proofs.Outcomes.{by_edit, by_take, by_deliver, by_acknowledge, by_join, by_read, by_read_server}
use Rattle.ot_model.proofs.Exchanging.{emptied, Moves, Takes, kind, edit_now, take_now, deliver_now, acknowledge_now, join_now, read_now, read_server_now, longer}

-- what t's client c was in s, its message aside
abbrev Was : State → State → ℕ → Type 0
Was s t c = (y : Client) → slice_get t.clients c ≡ Some y → (x : Client) × (slice_get s.clients c ≡ Some x) × (emptied x ≡ emptied y)

-- t's client c was joined in s
abbrev WasJoined : State → State → ℕ → Type 0
WasJoined s t c = (y : Client) → slice_get t.clients c ≡ Some y → is_joined y.phase ≡ true → (x : Client) × (slice_get s.clients c ≡ Some x) × (is_joined x.phase ≡ true)

-- t comes after s, by instructions that share no machine with j
pub record Grew (j : Instr) (s t : State) : Type 0 where
  pub steps : s.steps ≤ t.steps
  pub more : List Entry
  pub log : t.log ≡ s.log ++ more
  pub was : (c : ℕ) → is_at (ClientMachine c) j ≡ true → Was s t c
  pub was_joined : (c : ℕ) → j ≡ Take c → WasJoined s t c

pub grew_nothing : (j : Instr) (s : State) → Grew j s s
grew_nothing j s = record { steps = omega arith; more = []; log = sym (append-nil s.log); was = λ c at_j y at. (y, at, refl); was_joined = λ c is y at on. (y, at, on) }

pub grew_on : (j : Instr) (s t u : State) → Grew j s t → Grew j t u → Grew j s u
grew_on j s t u first second = record {
  steps = let a = first.steps in let b = second.steps in omega arith;
  more = first.more ++ second.more;
  log = second.log ∙ ap (λ (w : List Entry). w ++ second.more) first.log ∙ append_assoc s.log first.more second.more;
  was = λ c at_j z at. (let y = second.was c at_j z at in let x = first.was c at_j y.0 y.1 in (x.0, x.1, x.2 ∙ y.2));
  was_joined = λ c is z at on. (let y = second.was_joined c is z at on in first.was_joined c is y.0 y.1 y.2);
}

pub other_client : (s : State) (d c : ℕ) (x y : Client) → d ≢ c → slice_get (set s.clients d x) c ≡ Some y → slice_get s.clients c ≡ Some y
other_client s d c x y other at = sym (slice_get-set_other s.clients d c x (λ e. other (sym e))) ∙ at

grew_moves : (i j : Instr) (s t : State) (a : Option Shown) → ((w : Machine) → is_at w i ≡ true → is_at w j ≡ false) → (is_at ServerMachine j ≡ true → is_at ServerMachine i ≡ false) → Moves s i t a → Grew j s t
grew_moves i j s t a apart back m = rw m.after (record {
  steps = omega arith;
  more = [];
  log = sym (append-nil s.log);
  was = λ c at_j y at. (y, other_client s m.c c m.y y (λ e. absurd (let off = apart (ClientMachine m.c) m.own in let on = subst (λ (n : ℕ). is_at (ClientMachine n) j ≡ true) (sym e) at_j in cc)) at, refl);
  was_joined = λ c is y at on. elim (cases_eq m.c c) [
    | inl same ↦ (m.x, subst (λ (n : ℕ). slice_get s.clients n ≡ Some m.x) same m.at, m.on (back (ap (is_at ServerMachine) is)))
    | inr other ↦ (y, other_client s m.c c m.y y other at, on)
  ];
})

grew_takes : (i j : Instr) (s t : State) (a : Option Shown) → ((w : Machine) → is_at w i ≡ true → is_at w j ≡ false) → Takes s i t a → Grew j s t
grew_takes i j s t a apart k = rw k.after (record {
  steps = omega arith;
  more = _;
  log = refl;
  was = λ c at_j y at. elim (cases_eq k.c c) [
    | inl same ↦
        let now : slice_get (set s.clients k.c (emptied k.x)) k.c ≡ Some y = subst (λ (n : ℕ). slice_get (set s.clients k.c (emptied k.x)) n ≡ Some y) (sym same) at in
        let is : emptied k.x ≡ y = same_Some (emptied k.x) y (sym (slice_get-set_same s.clients k.c k.x (emptied k.x) k.at) ∙ now) in
        (k.x, subst (λ (n : ℕ). slice_get s.clients n ≡ Some k.x) same k.at, ap emptied is)
    | inr other ↦ (y, other_client s k.c c (emptied k.x) y other at, refl)
  ];
  was_joined = λ c is y at on. absurd (let off = apart ServerMachine (ap (is_at ServerMachine) k.is) in let on_j = ap (is_at ServerMachine) is in cc);
})

pub grew_step : (i j : Instr) (s t : State) (a : Option Shown) → ((w : Machine) → is_at w i ≡ true → is_at w j ≡ false) → (is_at ServerMachine j ≡ true → is_at ServerMachine i ≡ false) → step s i ≡ Performed t a → Grew j s t
grew_step i j s t a apart back e = elim (kind s i t a e) [
  | inl m ↦ grew_moves i j s t a apart back m
  | inr (inl k) ↦ grew_takes i j s t a apart k
  | inr (inr r) ↦ rw r.after (record { steps = omega arith; more = []; log = sym (append-nil s.log); was = λ c at_j y at. (y, at, refl); was_joined = λ c is y at on. (y, at, on) })
]

-- client c's message is under way
abbrev pub HasMessage : ℕ → State → Type 0
HasMessage c s = (x : Client) × (m : Message) × (slice_get s.clients c ≡ Some x) × (x.message ≡ Some m)

-- what j receives is not there in s, and is in t
abbrev pub Missing : State → State → Instr → Type 0
Missing s t (Edit c op) = ⊥
Missing s t (Take c) = (HasMessage c s → ⊥) × HasMessage c t
Missing s t (Deliver c) = (k : ℕ) × (h : Entry) × (slice_get s.log k ≡ None) × (slice_get t.log k ≡ Some h) × (h.maker ≢ c)
Missing s t (Acknowledge c) = (k : ℕ) × (h : Entry) × (slice_get s.log k ≡ None) × (slice_get t.log k ≡ Some h) × (h.maker ≡ c)
Missing s t (Join c) = ⊥
Missing s t (Read c) = ⊥
Missing s t ReadServer = ⊥

-- an instruction is performed, or it receives what is not sent yet
abbrev pub PerformedOrEarly : State → State → Instr → Type 0
PerformedOrEarly s t j = ((u : State) × (b : Option Shown) × (step s j ≡ Performed u b)) ⊎ ((step s j ≡ Refused LinkEmpty) × Missing s t j)

no_message : (s : State) (c : ℕ) (x : Client) → slice_get s.clients c ≡ Some x → x.message ≡ None → HasMessage c s → ⊥
no_message s c x at none (y, m, at_y, sent) = let same : x ≡ y = same_Some x y (sym at ∙ at_y) in let both : None ≡ Some m = sym none ∙ ap (λ (w : Client). w.message) same ∙ sent in cc

take_early : (s : State) (c : ℕ) (x : Client) → slice_get s.clients c ≡ Some x → s.steps < 1000000 → is_joined x.phase ≡ true → x.message ≡ None → step s (Take c) ≡ Refused LinkEmpty
take_early s c x at below on none = rw (at, lt-leb 1000000 s.steps below, on, none) refl

deliver_early : (s : State) (c : ℕ) (x : Client) → slice_get s.clients c ≡ Some x → s.steps < 1000000 → is_joined x.phase ≡ true → slice_get s.log x.revision ≡ None → step s (Deliver c) ≡ Refused LinkEmpty
deliver_early s c x at below on none = rw (at, lt-leb 1000000 s.steps below, on, none) refl

acknowledge_early : (s : State) (c : ℕ) (x : Client) → slice_get s.clients c ≡ Some x → s.steps < 1000000 → is_joined x.phase ≡ true → slice_get s.log x.revision ≡ None → step s (Acknowledge c) ≡ Refused LinkEmpty
acknowledge_early s c x at below on none = rw (at, lt-leb 1000000 s.steps below, on, none) refl

acknowledged_some : (x y z : Client) (phase : Phase) → acknowledged y phase ≡ Some z → (w : Client) × (acknowledged x phase ≡ Some w)
acknowledged_some x y z NotJoined e = absurd (cc)
acknowledged_some x y z Synchronized e = absurd (cc)
acknowledged_some x y z (AwaitingConfirm o) e = (_, refl)
acknowledged_some x y z (AwaitingWithBuffer o b) e = (_, refl)

same_phase : (x y : Client) → emptied x ≡ emptied y → x.phase ≡ y.phase
same_phase x y e = ap (λ (w : Client). w.phase) e

joined_too : (x y : Client) → emptied x ≡ emptied y → (on : Bool) → is_joined y.phase ≡ on → is_joined x.phase ≡ on
joined_too x y e on is = ap is_joined (same_phase x y e) ∙ is

earlier_edit : (s t u : State) (c : ℕ) (op : Operation ℕ) (b : Option Shown) → Grew (Edit c op) s t → is_at (ClientMachine c) (Edit c op) ≡ true → step t (Edit c op) ≡ Performed u b → PerformedOrEarly s t (Edit c op)
earlier_edit s t u c op b grew own e =
    by_edit (λ o. o ≡ Performed u b → PerformedOrEarly s t (Edit c op)) (λ r f. absurd (cc)) t c op
    (λ y at below on base few f.
    let x = grew.was c own y at in
    let list : length x.0.list ≡ length y.list = ap (λ (w : Client). length w.list) x.2 in
    let count : x.0.count ≡ y.count = ap (λ (w : Client). w.count) x.2 in
    let steps = grew.steps in
    inl (_, _, edit_now s c op x.0 x.1 (omega arith) (joined_too x.0 y x.2 true on) (base ∙ sym list) (omega arith)))
    e

earlier_read : (s t u : State) (c : ℕ) (b : Option Shown) → Grew (Read c) s t → is_at (ClientMachine c) (Read c) ≡ true → step t (Read c) ≡ Performed u b → PerformedOrEarly s t (Read c)
earlier_read s t u c b grew own e =
    by_read (λ o. o ≡ Performed u b → PerformedOrEarly s t (Read c)) (λ r f. absurd (cc)) t c
    (λ y at below on f.
    let x = grew.was c own y at in
    let steps = grew.steps in
    inl (_, _, read_now s c x.0 x.1 (omega arith) (joined_too x.0 y x.2 true on)))
    e

earlier_join : (s t u : State) (c : ℕ) (b : Option Shown) → Grew (Join c) s t → is_at (ClientMachine c) (Join c) ≡ true → step t (Join c) ≡ Performed u b → PerformedOrEarly s t (Join c)
earlier_join s t u c b grew own e =
    by_join (λ o. o ≡ Performed u b → PerformedOrEarly s t (Join c)) (λ r f. absurd (cc)) t c
    (λ y at below off f.
    let x = grew.was c own y at in
    let steps = grew.steps in
    inl (_, _, join_now s c x.0 x.1 (omega arith) (joined_too x.0 y x.2 false off)))
    e

earlier_server : (s t u : State) (b : Option Shown) → Grew ReadServer s t → step t ReadServer ≡ Performed u b → PerformedOrEarly s t ReadServer
earlier_server s t u b grew e =
    by_read_server (λ o. o ≡ Performed u b → PerformedOrEarly s t ReadServer) (λ r f. absurd (cc)) t
    (λ below f. let steps = grew.steps in inl (_, _, read_server_now s (omega arith)))
    e

earlier_take : (s t u : State) (c : ℕ) (b : Option Shown) → Grew (Take c) s t → step t (Take c) ≡ Performed u b → PerformedOrEarly s t (Take c)
earlier_take s t u c b grew e =
    by_take (λ o. o ≡ Performed u b → PerformedOrEarly s t (Take c)) (λ r f. absurd (cc)) t c
    (λ y m at below on sent f.
    let x = grew.was_joined c refl y at on in
    let steps = grew.steps in
    go (y, m, at, sent) x.0 x.1 (omega arith) x.2 x.0.message refl)
    e
  where
    go : HasMessage c t → (x : Client) → slice_get s.clients c ≡ Some x → s.steps < 1000000 → is_joined x.phase ≡ true → (o : Option Message) → x.message ≡ o → PerformedOrEarly s t (Take c)
    go has x at below on None is = inr (take_early s c x at below on is, (no_message s c x at is, has))
    go has x at below on (Some m) is = inl (_, _, take_now s c x m at below on is)

-- the log was shorter, so that an entry was there already, or none
same_entry : (s t : State) (more : List Entry) (k : ℕ) (h h' : Entry) → t.log ≡ s.log ++ more → slice_get t.log k ≡ Some h → slice_get s.log k ≡ Some h' → h' ≡ h
same_entry s t more k h h' log later early = same_Some h' h (sym (longer t s more k h' log early) ∙ later)

earlier_deliver : (s t u : State) (c : ℕ) (b : Option Shown) → Grew (Deliver c) s t → is_at (ClientMachine c) (Deliver c) ≡ true → step t (Deliver c) ≡ Performed u b → PerformedOrEarly s t (Deliver c)
earlier_deliver s t u c b grew own e =
    by_deliver (λ o. o ≡ Performed u b → PerformedOrEarly s t (Deliver c)) (λ r f. absurd (cc)) t c
    (λ y h at below on head other f.
    let x = grew.was c own y at in
    let steps = grew.steps in
    let revision : x.0.revision ≡ y.revision = ap (λ (w : Client). w.revision) x.2 in
    go x.0 h x.1 (omega arith) (joined_too x.0 y x.2 true on) (ap (slice_get t.log) revision ∙ head) other (slice_get s.log x.0.revision) refl)
    e
  where
    go : (x : Client) (h : Entry) → slice_get s.clients c ≡ Some x → s.steps < 1000000 → is_joined x.phase ≡ true → slice_get t.log x.revision ≡ Some h → h.maker ≢ c → (o : Option Entry) → slice_get s.log x.revision ≡ o → PerformedOrEarly s t (Deliver c)
    go x h at below on later other None is = inr (deliver_early s c x at below on is, (x.revision, h, is, later, other))
    go x h at below on later other (Some h') is =
        let same = same_entry s t grew.more x.revision h h' grew.log later is in
        inl (_, _, deliver_now s c x h' at below on is (λ e. other (ap (λ (w : Entry). w.maker) (sym same) ∙ e)))

earlier_acknowledge : (s t u : State) (c : ℕ) (b : Option Shown) → Grew (Acknowledge c) s t → is_at (ClientMachine c) (Acknowledge c) ≡ true → step t (Acknowledge c) ≡ Performed u b → PerformedOrEarly s t (Acknowledge c)
earlier_acknowledge s t u c b grew own e =
    by_acknowledge (λ o. o ≡ Performed u b → PerformedOrEarly s t (Acknowledge c)) (λ r f. absurd (cc)) t c
    (λ y h at below on head mine f.
    let x = grew.was c own y at in
    let steps = grew.steps in
    let revision : x.0.revision ≡ y.revision = ap (λ (w : Client). w.revision) x.2 in
    first y x.0 h x.1 (omega arith) (joined_too x.0 y x.2 true on) (ap (slice_get t.log) revision ∙ head) mine (same_phase x.0 y x.2) (acknowledged y y.phase) refl f)
    e
  where
    go : (x w : Client) (h : Entry) → slice_get s.clients c ≡ Some x → s.steps < 1000000 → is_joined x.phase ≡ true → slice_get t.log x.revision ≡ Some h → h.maker ≡ c → acknowledged x x.phase ≡ Some w → (o : Option Entry) → slice_get s.log x.revision ≡ o → PerformedOrEarly s t (Acknowledge c)
    go x w h at below on later mine is_w None is = inr (acknowledge_early s c x at below on is, (x.revision, h, is, later, mine))
    go x w h at below on later mine is_w (Some h') is =
        let same = same_entry s t grew.more x.revision h h' grew.log later is in
        inl (_, _, acknowledge_now s c x w h' at below on is (ap (λ (k : Entry). k.maker) same ∙ mine) is_w)

    first : (y x : Client) (h : Entry) → slice_get s.clients c ≡ Some x → s.steps < 1000000 → is_joined x.phase ≡ true → slice_get t.log x.revision ≡ Some h → h.maker ≡ c → x.phase ≡ y.phase → (o : Option Client) → acknowledged y y.phase ≡ o → with_row t c o ≡ Performed u b → PerformedOrEarly s t (Acknowledge c)
    first y x h at below on later mine phase None is f = absurd (cc)
    first y x h at below on later mine phase (Some z) is f =
        let w = acknowledged_some x y z y.phase is in
        go x w.0 h at below on later mine (ap (acknowledged x) phase ∙ w.1) (slice_get s.log x.revision) refl

pub earlier : (s t u : State) (j : Instr) (b : Option Shown) → Grew j s t → step t j ≡ Performed u b → PerformedOrEarly s t j
earlier s t u (Edit c op) b grew e = earlier_edit s t u c op b grew (eq-eqb c c refl) e
earlier s t u (Take c) b grew e = earlier_take s t u c b grew e
earlier s t u (Deliver c) b grew e = earlier_deliver s t u c b grew (eq-eqb c c refl) e
earlier s t u (Acknowledge c) b grew e = earlier_acknowledge s t u c b grew (eq-eqb c c refl) e
earlier s t u (Join c) b grew e = earlier_join s t u c b grew (eq-eqb c c refl) e
earlier s t u (Read c) b grew e = earlier_read s t u c b grew (eq-eqb c c refl) e
earlier s t u ReadServer b grew e = earlier_server s t u b grew e
