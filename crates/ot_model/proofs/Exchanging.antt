-- Two independent instructions, each performed in a sound state, lead to the same state in either order.
use Rattle.std.proofs.Common.{◌≡◌, ℕ, zero, suc, ◌+◌, ◌<◌, ◌≤◌, ◌≢◌, List, [], ◌∷◌, ◌++◌, length, take, drop, set, refl, sym, ap, ◌∙◌, subst, inl, inr, Option, Some, None, true, false}
use Rattle.std.proofs.lemmas.List.{set_comm, append-nil}
use Rattle.std.proofs.lemmas.Option.{same_Some}
use Rattle.std.proofs.lemmas.Bool.{cases_eq, eq-eqb, ne_eqb, lt-leb, le-ltb}
use Rattle.std.specs.Prelude.{slice_get, ◌⊎◌}
use Rattle.ot_model.specs.Operation.{Operation, apply, inserted}
use Rattle.ot_model.specs.Table.{Phase, NotJoined, Synchronized, AwaitingConfirm, AwaitingWithBuffer, is_joined, Client, State, Entry, Message, Outcome, Performed, Refused, NoRow, step, with_row, edited, phase_edited, message_edited, taken, delivered, acknowledged, joined, tag_operation, with_client}
use Rattle.ot_isa.specs.declared.instruction.Instr.{Instr}
use Rattle.ot_isa.specs.declared.instruction.Instr.TheVariants.{Edit, Take, Deliver, Acknowledge, Join, Read, ReadServer}
use Rattle.ot_isa.specs.declared.elements.Tagged.{Tagged}
use Rattle.ot_model.specs.declared.shown.Shown.{Shown}
use Rattle.ot_model.specs.declared.shown.Reader.TheVariants as reader
use Rattle.ot_server.specs.History.{transform_over}
use Rattle.ot_model.specs.Sound.{NoneBy, IsPhaseSound, IsSound}
use Rattle.ot_model.specs.OrderLaws.{Commute, Exchange}
use Rattle.ot_model.specs.Orders.{ClientMachine, ServerMachine, is_at, is_take, may_send}
use Rattle.ot_model.proofs.States.{slice_get-set_same, slice_get-set_other, drop_entry, joined_edited, joined_delivered}
use Rattle.ot_model.proofs.Outcomes.{by_edit, by_take, by_deliver, by_acknowledge, by_join, by_read, by_read_server}

-- what a performed instruction leads to is one thing
state_or : State → Outcome → State
state_or d (Performed t shown) = t
state_or d (Refused r) = d
state_or d NoRow = d

shown_or : Option Shown → Outcome → Option Shown
shown_or d (Performed t shown) = shown
shown_or d (Refused r) = d
shown_or d NoRow = d

pub same_state : (s t : State) (a b : Option Shown) → Performed s a ≡ Performed t b → s ≡ t
unfolding state_or
same_state s t a b e = ap (state_or s) e

pub same_shown : (s t : State) (a b : Option Shown) → Performed s a ≡ Performed t b → a ≡ b
unfolding shown_or
same_shown s t a b e = ap (shown_or a) e

-- a list's element where it is
set_here : {X : Type 0} (xs : List X) (i : ℕ) (x : X) → slice_get xs i ≡ Some x → set xs i x ≡ xs
set_here [] i x e = absurd (cc)
set_here (z ∷ xs) zero x e = ap (λ w. w ∷ xs) (sym (same_Some z x e))
set_here {X = X} (z ∷ xs) (suc i) x e = ap (λ (ws : List X). z ∷ ws) (set_here xs i x e)

slice_get-longer : {X : Type 0} (xs ys : List X) (i : ℕ) (x : X) → slice_get xs i ≡ Some x → slice_get (xs ++ ys) i ≡ Some x
slice_get-longer [] ys i x e = absurd (cc)
slice_get-longer (z ∷ xs) ys zero x e = e
slice_get-longer (z ∷ xs) ys (suc i) x e = slice_get-longer xs ys i x e

-- each row, where what it asks is there
pub edit_now : (s : State) (c : ℕ) (op : Operation ℕ) (x : Client) → slice_get s.clients c ≡ Some x → s.steps < 1000000 → is_joined x.phase ≡ true → op.base ≡ length x.list → x.count + inserted op ≤ 15000
    → step s (Edit c op) ≡ Performed (with_client s c (edited x (tag_operation c x.count op))) None
edit_now s c op x at below on base few =
    rw (at, lt-leb 1000000 s.steps below, on, eq-eqb op.base (length x.list) base, le-ltb 15000 (x.count + inserted op) few) refl

pub take_now : (s : State) (c : ℕ) (x : Client) (m : Message) → slice_get s.clients c ≡ Some x → s.steps < 1000000 → is_joined x.phase ≡ true → x.message ≡ Some m
    → step s (Take c) ≡ Performed (taken s c x (transform_over m.op (drop m.revision s.log))) None
take_now s c x m at below on sent = rw (at, lt-leb 1000000 s.steps below, on, sent) refl

pub deliver_now : (s : State) (c : ℕ) (x : Client) (h : Entry) → slice_get s.clients c ≡ Some x → s.steps < 1000000 → is_joined x.phase ≡ true → slice_get s.log x.revision ≡ Some h → h.maker ≢ c
    → step s (Deliver c) ≡ Performed (with_client s c (delivered x h.op)) None
deliver_now s c x h at below on head other = rw (at, lt-leb 1000000 s.steps below, on, head, ne_eqb h.maker c other) refl

pub acknowledge_now : (s : State) (c : ℕ) (x y : Client) (h : Entry) → slice_get s.clients c ≡ Some x → s.steps < 1000000 → is_joined x.phase ≡ true → slice_get s.log x.revision ≡ Some h → h.maker ≡ c → acknowledged x x.phase ≡ Some y
    → step s (Acknowledge c) ≡ Performed (with_client s c y) None
acknowledge_now s c x y h at below on head own is = rw (at, lt-leb 1000000 s.steps below, on, head, eq-eqb h.maker c own, is) refl

pub join_now : (s : State) (c : ℕ) (x : Client) → slice_get s.clients c ≡ Some x → s.steps < 1000000 → is_joined x.phase ≡ false
    → step s (Join c) ≡ Performed (with_client s c (joined s x)) None
join_now s c x at below off = rw (at, lt-leb 1000000 s.steps below, off) refl

abbrev pub one_on : State → State
one_on s = record { log = s.log; server = s.server; clients = s.clients; steps = suc s.steps }

same_clients : (s : State) (c : ℕ) (x : Client) → slice_get s.clients c ≡ Some x → one_on s ≡ with_client s c x
same_clients s c x at = ap (λ (w : List Client). record { log = s.log; server = s.server; clients = w; steps = suc s.steps }) (sym (set_here s.clients c x at))

pub read_now : (s : State) (c : ℕ) (x : Client) → slice_get s.clients c ≡ Some x → s.steps < 1000000 → is_joined x.phase ≡ true
    → step s (Read c) ≡ Performed (with_client s c x) (Some (record { who = reader.Client c; list = x.list }))
read_now s c x at below on =
    rw (sym (same_clients s c x at)) (rw (at, lt-leb 1000000 s.steps below, on) refl)

pub read_server_now : (s : State) → s.steps < 1000000 → step s ReadServer ≡ Performed (one_on s) (Some (record { who = reader.Server; list = s.server }))
read_server_now s below = rw (lt-leb 1000000 s.steps below) refl

-- a client with its message taken
abbrev pub emptied : Client → Client
emptied x = record { revision = x.revision; phase = x.phase; list = x.list; count = x.count; message = None }

-- the instruction makes y of client c also in another state where c is x, with a longer log where it does not need the server
abbrev pub Again : State → Instr → Option Shown → ℕ → Client → Client → Type 0
Again s i a c x y =
    (r : State) (more : List Entry) → r.log ≡ s.log ++ more → (is_at ServerMachine i ≡ true → (more ≡ []) × (r.server ≡ s.server))
    → slice_get r.clients c ≡ Some x → r.steps < 1000000 → step r i ≡ Performed (with_client r c y) a

-- it leaves a message under way as it is, and does the same where that has been taken
abbrev pub Untaken : State → Instr → Option Shown → ℕ → Client → Client → Type 0
Untaken s i a c x y =
    (m : Message) → x.message ≡ Some m → x.phase ≢ Synchronized → NoneBy c (drop x.revision s.log) → is_at ServerMachine i ≡ false
    → (y.message ≡ Some m) × (is_joined y.phase ≡ true) × Again s i a c (emptied x) (emptied y)

-- an instruction at a client's machine
pub record Moves (s : State) (i : Instr) (t : State) (a : Option Shown) : Type 0 where
  pub c : ℕ
  pub own : is_at (ClientMachine c) i ≡ true
  pub x : Client
  pub y : Client
  pub below : s.steps < 1000000
  pub at : slice_get s.clients c ≡ Some x
  pub on : is_at ServerMachine i ≡ false → is_joined x.phase ≡ true
  pub after : t ≡ with_client s c y
  pub shows : (l : Shown) → a ≡ Some l → l.who ≡ reader.Client c
  pub unsent : may_send c i ≡ false → y.message ≡ x.message
  pub again : Again s i a c x y
  pub untaken : Untaken s i a c x y

pub record Takes (s : State) (i : Instr) (t : State) (a : Option Shown) : Type 0 where
  pub c : ℕ
  pub is : i ≡ Take c
  pub x : Client
  pub m : Message
  pub below : s.steps < 1000000
  pub at : slice_get s.clients c ≡ Some x
  pub on : is_joined x.phase ≡ true
  pub sent : x.message ≡ Some m
  pub after : t ≡ taken s c x (transform_over m.op (drop m.revision s.log))
  pub nothing : a ≡ None

pub record Reads (s : State) (i : Instr) (t : State) (a : Option Shown) : Type 0 where
  pub below : s.steps < 1000000
  pub is : i ≡ ReadServer
  pub after : t ≡ one_on s
  pub list : a ≡ Some (record { who = reader.Server; list = s.server })

message_kept : (phase : Phase) (x : Client) (op : Operation Tagged) → phase ≢ Synchronized → message_edited phase x op ≡ x.message
message_kept NotJoined x op other = refl
message_kept Synchronized x op other = absurd (other refl)
message_kept (AwaitingConfirm o) x op other = refl
message_kept (AwaitingWithBuffer o b) x op other = refl

edited_emptied : (x : Client) (op : Operation Tagged) → x.phase ≢ Synchronized → edited (emptied x) op ≡ emptied (edited x op)
edited_emptied x op other =
    ap (λ (w : Option Message). record { revision = x.revision; phase = phase_edited x.phase op; list = apply op x.list; count = x.count + inserted op; message = w })
    (message_kept x.phase (emptied x) op other)

pub longer : (r s : State) (more : List Entry) (k : ℕ) (h : Entry) → r.log ≡ s.log ++ more → slice_get s.log k ≡ Some h → slice_get r.log k ≡ Some h
longer r s more k h log head = ap (λ (w : List Entry). slice_get w k) log ∙ slice_get-longer s.log more k h head

same_joined : (r s : State) (more : List Entry) (x : Client) → r.log ≡ s.log ++ more → (more ≡ []) × (r.server ≡ s.server) → joined r x ≡ joined s x
same_joined r s more x log (none, server) =
    ap (λ (w : List Entry). record { revision = length w; phase = Synchronized; list = r.server; count = x.count; message = x.message }) (log ∙ ap (λ (w : List Entry). s.log ++ w) none ∙ append-nil s.log)
    ∙ ap (λ (w : List Tagged). record { revision = length s.log; phase = Synchronized; list = w; count = x.count; message = x.message }) server

edit_moves : (s : State) (c : ℕ) (op : Operation ℕ) (t : State) (a : Option Shown) → step s (Edit c op) ≡ Performed t a → Moves s (Edit c op) t a
edit_moves s c op t a e =
    by_edit (λ o. o ≡ Performed t a → Moves s (Edit c op) t a) (λ r f. absurd (cc)) s c op
    (λ x at below on base few f.
    let y = edited x (tag_operation c x.count op) in
    let none : None ≡ a = same_shown _ t None a f in
    record {
      c = c;
      own = eq-eqb c c refl;
      x = x;
      y = y;
      below = below;
      at = at;
      on = λ away. on;
      after = sym (same_state _ t None a f);
      shows = λ l is_l. absurd (let nothing : None ≡ Some l = none ∙ is_l in cc);
      unsent = λ off. absurd (let on = eq-eqb c c refl in cc);
      again = λ r more log server at_r below_r. rw (sym none) (edit_now r c op x at_r below_r on base few);
      untaken = λ m sent other ahead away. (
        message_kept x.phase x (tag_operation c x.count op) other ∙ sent,
        joined_edited x.phase (tag_operation c x.count op) on,
        λ r more log server at_r below_r. rw (sym none, sym (edited_emptied x (tag_operation c x.count op) other)) (edit_now r c op (emptied x) at_r below_r on base few),
      );
    })
    e

deliver_moves : (s : State) (c : ℕ) (t : State) (a : Option Shown) → step s (Deliver c) ≡ Performed t a → Moves s (Deliver c) t a
deliver_moves s c t a e =
    by_deliver (λ o. o ≡ Performed t a → Moves s (Deliver c) t a) (λ r f. absurd (cc)) s c
    (λ x h at below on head other f.
    let none : None ≡ a = same_shown _ t None a f in
    record {
      c = c;
      own = eq-eqb c c refl;
      x = x;
      y = delivered x h.op;
      below = below;
      at = at;
      on = λ away. on;
      after = sym (same_state _ t None a f);
      shows = λ l is_l. absurd (let nothing : None ≡ Some l = none ∙ is_l in cc);
      unsent = λ off. refl;
      again = λ r more log server at_r below_r. rw (sym none) (deliver_now r c x h at_r below_r on (longer r s more x.revision h log head) other);
      untaken = λ m sent not_idle ahead away. (
        sent,
        joined_delivered x.phase h.op on,
        λ r more log server at_r below_r. rw (sym none) (deliver_now r c (emptied x) h at_r below_r on (longer r s more x.revision h log head) other),
      );
    })
    e

-- an acknowledgement is of an entry that is in the log, so that no message is under way
acknowledge_moves : (s : State) (c : ℕ) (t : State) (a : Option Shown) → step s (Acknowledge c) ≡ Performed t a → Moves s (Acknowledge c) t a
acknowledge_moves s c t a e =
    by_acknowledge (λ o. o ≡ Performed t a → Moves s (Acknowledge c) t a) (λ r f. absurd (cc)) s c
    (λ x h at below on head own f. go x h at below on head own (acknowledged x x.phase) refl f)
    e
  where
    go : (x : Client) (h : Entry) → slice_get s.clients c ≡ Some x → s.steps < 1000000 → is_joined x.phase ≡ true → slice_get s.log x.revision ≡ Some h → h.maker ≡ c
        → (o : Option Client) → acknowledged x x.phase ≡ o → with_row s c o ≡ Performed t a → Moves s (Acknowledge c) t a
    go x h at below on head own None is f = absurd (cc)
    go x h at below on head own (Some y) is f =
        let none : None ≡ a = same_shown _ t None a f in
        record {
          c = c;
          own = eq-eqb c c refl;
          x = x;
          y = y;
          below = below;
          at = at;
          on = λ away. on;
          after = sym (same_state _ t None a f);
          shows = λ l is_l. absurd (let nothing : None ≡ Some l = none ∙ is_l in cc);
          unsent = λ off. absurd (let on = eq-eqb c c refl in cc);
          again = λ r more log server at_r below_r. rw (sym none) (acknowledge_now r c x y h at_r below_r on (longer r s more x.revision h log head) own is);
          untaken = λ m sent not_idle ahead away. absurd ((subst (NoneBy c) (drop_entry s.log x.revision h head) ahead).0 own);
        }

join_moves : (s : State) (c : ℕ) (t : State) (a : Option Shown) → step s (Join c) ≡ Performed t a → Moves s (Join c) t a
join_moves s c t a e =
    by_join (λ o. o ≡ Performed t a → Moves s (Join c) t a) (λ r f. absurd (cc)) s c
    (λ x at below off f.
    let none : None ≡ a = same_shown _ t None a f in
    record {
      c = c;
      own = eq-eqb c c refl;
      x = x;
      y = joined s x;
      below = below;
      at = at;
      on = λ away. absurd (cc);
      after = sym (same_state _ t None a f);
      shows = λ l is_l. absurd (let nothing : None ≡ Some l = none ∙ is_l in cc);
      unsent = λ off. refl;
      again = λ r more log server at_r below_r. rw (sym none, sym (same_joined r s more x log (server refl))) (join_now r c x at_r below_r off);
      untaken = λ m sent not_idle ahead away. absurd (cc);
    })
    e

read_moves : (s : State) (c : ℕ) (t : State) (a : Option Shown) → step s (Read c) ≡ Performed t a → Moves s (Read c) t a
read_moves s c t a e =
    by_read (λ o. o ≡ Performed t a → Moves s (Read c) t a) (λ r f. absurd (cc)) s c
    (λ x at below on f.
    let list : Some (record { who = reader.Client c; list = x.list }) ≡ a = same_shown _ t _ a f in
    record {
      c = c;
      own = eq-eqb c c refl;
      x = x;
      y = x;
      below = below;
      at = at;
      on = λ away. on;
      after = sym (same_state _ t _ a f) ∙ same_clients s c x at;
      shows = λ l is_l. ap (λ (w : Shown). w.who) (same_Some l (record { who = reader.Client c; list = x.list }) (sym is_l ∙ sym list));
      unsent = λ off. refl;
      again = λ r more log server at_r below_r. rw (sym list) (read_now r c x at_r below_r on);
      untaken = λ m sent not_idle ahead away. (sent, on, λ r more log server at_r below_r. rw (sym list) (read_now r c (emptied x) at_r below_r on));
    })
    e

take_takes : (s : State) (c : ℕ) (t : State) (a : Option Shown) → step s (Take c) ≡ Performed t a → Takes s (Take c) t a
take_takes s c t a e =
    by_take (λ o. o ≡ Performed t a → Takes s (Take c) t a) (λ r f. absurd (cc)) s c
    (λ x m at below on sent f. record { c = c; is = refl; x = x; m = m; below = below; at = at; on = on; sent = sent; after = sym (same_state _ t None a f); nothing = sym (same_shown _ t None a f) })
    e

server_reads : (s : State) (t : State) (a : Option Shown) → step s ReadServer ≡ Performed t a → Reads s ReadServer t a
server_reads s t a e =
    by_read_server (λ o. o ≡ Performed t a → Reads s ReadServer t a) (λ r f. absurd (cc)) s
    (λ below f. record { below = below; is = refl; after = sym (same_state _ t _ a f); list = sym (same_shown _ t _ a f) })
    e

-- each performed instruction is one of these
pub kind : (s : State) (i : Instr) (t : State) (a : Option Shown) → step s i ≡ Performed t a → Moves s i t a ⊎ (Takes s i t a ⊎ Reads s i t a)
kind s (Edit c op) t a e = inl (edit_moves s c op t a e)
kind s (Take c) t a e = inr (inl (take_takes s c t a e))
kind s (Deliver c) t a e = inl (deliver_moves s c t a e)
kind s (Acknowledge c) t a e = inl (acknowledge_moves s c t a e)
kind s (Join c) t a e = inl (join_moves s c t a e)
kind s (Read c) t a e = inl (read_moves s c t a e)
kind s ReadServer t a e = inr (inr (server_reads s t a e))

-- of a joined client's message under way: the client waits, and its entry is not in the log yet
sent_facts : (c : ℕ) (phase : Phase) (start : List Tagged) (seen ahead : List Entry) (list : List Tagged) (message : Option Message) (m : Message) → message ≡ Some m → is_joined phase ≡ true
    → IsPhaseSound c phase start seen ahead list message → (phase ≢ Synchronized) × NoneBy c ahead
sent_facts c NotJoined start seen ahead list message m sent on sound = absurd (cc)
sent_facts c Synchronized start seen ahead list message m sent on sound = absurd (let none = sound.message_is in cc)
sent_facts c (AwaitingConfirm o) start seen ahead list None m sent on sound = absurd (cc)
sent_facts c (AwaitingConfirm o) start seen ahead list (Some n) m sent on sound = (λ e. absurd (cc), sound.sent.none)
sent_facts c (AwaitingWithBuffer o b) start seen ahead list None m sent on sound = absurd (cc)
sent_facts c (AwaitingWithBuffer o b) start seen ahead list (Some n) m sent on sound = (λ e. absurd (cc), sound.sent.none)

set_twice : {X : Type 0} (xs : List X) (i : ℕ) (x y : X) → set (set xs i x) i y ≡ set xs i y
set_twice [] i x y = refl
set_twice (z ∷ xs) zero x y = refl
set_twice {X = X} (z ∷ xs) (suc i) x y = ap (λ (ws : List X). z ∷ ws) (set_twice xs i x y)

-- either can come first, and both orders lead to the same state
abbrev pub Commutes : (s : State) (i j : Instr) (t u : State) (a b : Option Shown) → Type 0
Commutes s i j t u a b = (v : State) × (step t j ≡ Performed v b) × (step u i ≡ Performed v a)

flipped : (s : State) (i j : Instr) (t u : State) (a b : Option Shown) → Commutes s i j t u a b → Commutes s j i u t b a
flipped s i j t u a b (v, first, second) = (v, second, first)

-- two clients' machines
moves_moves : (s : State) (i j : Instr) (t u : State) (a b : Option Shown) (mi : Moves s i t a) (mj : Moves s j u b) → suc s.steps < 1000000 → mi.c ≢ mj.c → Commutes s i j t u a b
moves_moves s i j t u a b mi mj below other =
    let v = with_client (with_client s mi.c mi.y) mj.c mj.y in
    let same : with_client (with_client s mj.c mj.y) mi.c mi.y ≡ v =
    ap (λ (w : List Client). record { log = s.log; server = s.server; clients = w; steps = suc (suc s.steps) }) (sym (set_comm s.clients mi.c mj.c mi.y mj.y other)) in (
      v,
      rw mi.after (mj.again (with_client s mi.c mi.y) [] (sym (append-nil s.log)) (λ e. (refl, refl)) (slice_get-set_other s.clients mi.c mj.c mi.y (λ e. other (sym e)) ∙ mj.at) below),
      rw (mj.after, sym same) (mi.again (with_client s mj.c mj.y) [] (sym (append-nil s.log)) (λ e. (refl, refl)) (slice_get-set_other s.clients mj.c mi.c mj.y other ∙ mi.at) below),
    )

-- a client's machine, and a take of another client's message
moves_takes : (s : State) (i j : Instr) (t u : State) (a b : Option Shown) (mi : Moves s i t a) (tj : Takes s j u b) → suc s.steps < 1000000 → is_at ServerMachine i ≡ false → mi.c ≢ tj.c → Commutes s i j t u a b
moves_takes s i j t u a b mi tj below away other =
    let op = transform_over tj.m.op (drop tj.m.revision s.log) in
    let v = taken (with_client s mi.c mi.y) tj.c tj.x op in
    let same : with_client (taken s tj.c tj.x op) mi.c mi.y ≡ v =
    ap (λ (w : List Client). record { log = s.log ++ record { maker = tj.c; op = op } ∷ []; server = apply op s.server; clients = w; steps = suc (suc s.steps) }) (sym (set_comm s.clients mi.c tj.c mi.y (emptied tj.x) other)) in (
      v,
      rw (mi.after, tj.is, tj.nothing) (take_now (with_client s mi.c mi.y) tj.c tj.x tj.m (slice_get-set_other s.clients mi.c tj.c mi.y (λ e. other (sym e)) ∙ tj.at) below tj.on tj.sent),
      rw (tj.after, sym same) (mi.again (taken s tj.c tj.x op) (record { maker = tj.c; op = op } ∷ []) refl (λ e. absurd (cc)) (slice_get-set_other s.clients tj.c mi.c (emptied tj.x) other ∙ mi.at) below),
    )

-- a client's machine, and a take of that client's message
moves_takes_own : (s : State) (i : Instr) (c : ℕ) (x y : Client) (m : Message) (a : Option Shown) → suc s.steps < 1000000 → is_at ServerMachine i ≡ false
    → slice_get s.clients c ≡ Some x → is_joined x.phase ≡ true → x.message ≡ Some m → y.message ≡ Some m → is_joined y.phase ≡ true → Again s i a c (emptied x) (emptied y)
    → Commutes s i (Take c) (with_client s c y) (taken s c x (transform_over m.op (drop m.revision s.log))) a None
moves_takes_own s i c x y m a below away at on sent sent_y on_y again =
    let op = transform_over m.op (drop m.revision s.log) in
    let v = taken (with_client s c y) c y op in
    let clients : set (set s.clients c (emptied x)) c (emptied y) ≡ set (set s.clients c y) c (emptied y) = set_twice s.clients c (emptied x) (emptied y) ∙ sym (set_twice s.clients c y (emptied y)) in
    let same : with_client (taken s c x op) c (emptied y) ≡ v =
    ap (λ (w : List Client). record { log = s.log ++ record { maker = c; op = op } ∷ []; server = apply op s.server; clients = w; steps = suc (suc s.steps) }) clients in (
      v,
      take_now (with_client s c y) c y m (slice_get-set_same s.clients c x y at) below on_y sent_y,
      rw (sym same) (again (taken s c x op) (record { maker = c; op = op } ∷ []) refl (λ e. absurd (cc)) (slice_get-set_same s.clients c x (emptied x) at) below),
    )

-- a client's machine, and a read at the server
moves_reads : (s : State) (i j : Instr) (t u : State) (a b : Option Shown) (mi : Moves s i t a) (rj : Reads s j u b) → suc s.steps < 1000000 → Commutes s i j t u a b
moves_reads s i j t u a b mi rj below = (
  one_on (with_client s mi.c mi.y),
  rw (mi.after, rj.is, rj.list) (read_server_now (with_client s mi.c mi.y) below),
  rw rj.after (mi.again (one_on s) [] (sym (append-nil s.log)) (λ e. (refl, refl)) mi.at below),
)

-- two reads at the server
reads_reads : (s : State) (i j : Instr) (t u : State) (a b : Option Shown) (ri : Reads s i t a) (rj : Reads s j u b) → suc s.steps < 1000000 → Commutes s i j t u a b
reads_reads s i j t u a b ri rj below = (
  one_on (one_on s),
  rw (ri.after, rj.is, rj.list) (read_server_now (one_on s) below),
  rw (rj.after, ri.is, ri.list) (read_server_now (one_on s) below),
)

moves_takes_any : (s : State) (i j : Instr) (t u : State) (a b : Option Shown) (mi : Moves s i t a) (tj : Takes s j u b) → IsSound s → suc s.steps < 1000000 → is_at ServerMachine i ≡ false → Commutes s i j t u a b
moves_takes_any s i j t u a b mi tj (start, text, sound) below away = elim (cases_eq mi.c tj.c) [
  | inr other ↦ moves_takes s i j t u a b mi tj below away other
  | inl same ↦
      let there : slice_get s.clients mi.c ≡ Some tj.x = ap (slice_get s.clients) same ∙ tj.at in
      let is : tj.x ≡ mi.x = same_Some tj.x mi.x (sym there ∙ mi.at) in
      let on : is_joined mi.x.phase ≡ true = ap (λ (w : Client). is_joined w.phase) (sym is) ∙ tj.on in
      let sent : mi.x.message ≡ Some tj.m = ap (λ (w : Client). w.message) (sym is) ∙ tj.sent in
      let facts = sent_facts mi.c mi.x.phase start (take mi.x.revision s.log) (drop mi.x.revision s.log) mi.x.list mi.x.message tj.m sent on (sound.clients mi.c mi.x mi.at) in
      let made = mi.untaken tj.m sent facts.0 facts.1 away in
      rw (mi.after, tj.after, tj.is, tj.nothing, sym same, is) (moves_takes_own s i mi.c mi.x mi.y tj.m a below away mi.at on sent made.0 made.1 made.2)
]

pub commute : Commute
commute s i j t u a b sound apart below first second = go (kind s i t a first) (kind s j u b second)
  where
    go : Moves s i t a ⊎ (Takes s i t a ⊎ Reads s i t a) → Moves s j u b ⊎ (Takes s j u b ⊎ Reads s j u b) → (v : State) × (step t j ≡ Performed v b) × (step u i ≡ Performed v a)
    go (inl mi) (inl mj) =
        moves_moves s i j t u a b mi mj below (λ e. absurd (let off = apart.clients mi.c mi.own in let on = subst (λ (d : ℕ). is_at (ClientMachine d) j ≡ true) (sym e) mj.own in cc))
    go (inl mi) (inr (inl tj)) = moves_takes_any s i j t u a b mi tj sound below (apart.take_second (ap is_take tj.is))
    go (inl mi) (inr (inr rj)) = moves_reads s i j t u a b mi rj below
    go (inr (inl ti)) (inl mj) = flipped s j i u t b a (moves_takes_any s j i u t b a mj ti sound below (apart.take_first (ap is_take ti.is)))
    go (inr (inl ti)) (inr (inl tj)) = absurd (let off = apart.take_first (ap is_take ti.is) in let on = ap (is_at ServerMachine) tj.is in cc)
    go (inr (inl ti)) (inr (inr rj)) = absurd (let off = apart.take_first (ap is_take ti.is) in let on = ap (is_at ServerMachine) rj.is in cc)
    go (inr (inr ri)) (inl mj) = flipped s j i u t b a (moves_reads s j i u t b a mj ri below)
    go (inr (inr ri)) (inr (inl tj)) = absurd (let off = apart.take_second (ap is_take tj.is) in let on = ap (is_at ServerMachine) ri.is in cc)
    go (inr (inr ri)) (inr (inr rj)) = reads_reads s i j t u a b ri rj below

-- what is performed is performed below the limit, and is one step
pub steps_of : (s : State) (i : Instr) (t : State) (a : Option Shown) → step s i ≡ Performed t a → (s.steps < 1000000) × (t.steps ≡ suc s.steps)
steps_of s i t a e = elim (kind s i t a e) [
  | inl m ↦ (m.below, ap (λ (w : State). w.steps) m.after)
  | inr (inl k) ↦ (k.below, ap (λ (w : State). w.steps) k.after)
  | inr (inr r) ↦ (r.below, ap (λ (w : State). w.steps) r.after)
]

pub exchange : Exchange
exchange s i j t u v a b b' sound apart first second early =
    let at_t = steps_of s i t a first in
    let below : suc s.steps < 1000000 = subst (λ (n : ℕ). n < 1000000) at_t.1 (steps_of t j v b second).0 in
    let both = commute s i j t u a b' sound apart below first early in
    let same : Performed both.0 b' ≡ Performed v b = sym both.1 ∙ second in
    (same_shown both.0 v b' b same, both.2 ∙ ap (λ (w : State). Performed w a) (same_state both.0 v b' b same))
