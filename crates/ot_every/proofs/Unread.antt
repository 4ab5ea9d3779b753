-- Reads aside: without its reads a run leads to the same log, documents and clients.
use Rattle.std.proofs.Common.{◌≡◌, ℕ, ◌<◌, ◌≤◌, List, [], ◌∷◌, ◌++◌, set, refl, sym, ap, ◌∙◌, subst, arith, Option, Some, None, Bool, true, false}
use Rattle.std.specs.Prelude.{not, slice_get, ◌&&◌, is_none, drop}
use Rattle.std.specs.List.{list_all}
use Rattle.std.proofs.lemmas.Option.{same_Some}
use Rattle.ot_isa.specs.declared.instruction.Instr.{Instr}
use Rattle.ot_isa.specs.declared.instruction.Instr.TheVariants.{Edit, Take, Deliver, Acknowledge, Join, Read, ReadServer}
use Rattle.ot_isa.specs.declared.elements.Tagged.{Tagged}
use Rattle.ot_model.specs.declared.shown.Shown.{Shown}
use Rattle.ot_model.specs.Operation.{apply}
use Rattle.ot_model.specs.Table.{is_joined, Client, State, Place, Entry, Message, Performed, step, run, with_shown, with_row, acknowledged, edited, tag_operation, taken, delivered, joined, with_client}
use Rattle.ot_server.specs.History.{transform_over}
use Rattle.ot_model.proofs.Outcomes.{by_edit, by_take, by_deliver, by_acknowledge, by_join, by_read, by_read_server}
use Rattle.ot_model.proofs.Exchanging.{same_state, edit_now, take_now, deliver_now, acknowledge_now, join_now}
use Rattle.ot_model.proofs.Awaiting.{run_first}
use Rattle.ot_model.proofs.Reordering.{run_then, filter_yes, filter_no}
use Rattle.ot_every.specs.Listing.{is_synchronized, is_empty, is_settled}
use Rattle.ot_every.specs.Laws.{is_read, without_reads}

-- t is s after fewer steps
pub record IsLike (s t : State) : Type 0 where
  pub log : s.log ≡ t.log
  pub server : s.server ≡ t.server
  pub clients : s.clients ≡ t.clients
  pub steps : t.steps ≤ s.steps

-- what is performed in s is performed in t, to states that are alike
abbrev Follows : State → State → Instr → State → Type 0
Follows s t i s' = (t' : State) × (b : Option Shown) × (step t i ≡ Performed t' b) × IsLike s' t'

client_like : (s t : State) (c : ℕ) (x y : Client) → x ≡ y → IsLike s t → IsLike (with_client s c x) (with_client t c y)
client_like s t c x y same like = let steps = like.steps in
    record { log = like.log; server = like.server; clients = ap (λ (w : List Client). set w c x) like.clients ∙ ap (λ (z : Client). set t.clients c z) same; steps = omega (arith, steps) }

at_like : (s t : State) (c : ℕ) (x : Client) → IsLike s t → slice_get s.clients c ≡ Some x → slice_get t.clients c ≡ Some x
at_like s t c x like at = ap (λ (w : List Client). slice_get w c) (sym like.clients) ∙ at

head_like : (s t : State) (k : ℕ) (h : Entry) → IsLike s t → slice_get s.log k ≡ Some h → slice_get t.log k ≡ Some h
head_like s t k h like at = ap (λ (w : List Entry). slice_get w k) (sym like.log) ∙ at

below_like : (s t : State) → IsLike s t → s.steps < 1000000 → t.steps < 1000000
below_like s t like below = let steps = like.steps in omega (arith, steps, below)

joined_like : (s t : State) (x : Client) → IsLike s t → joined s x ≡ joined t x
joined_like s t x like =
    ap (λ (w : List Entry). joined (record { log = w; server = s.server; clients = s.clients; steps = s.steps }) x) like.log
    ∙ ap (λ (w : List Tagged). joined (record { log = t.log; server = w; clients = s.clients; steps = s.steps }) x) like.server

taken_like : (s t : State) (c : ℕ) (x : Client) (m : Message) → IsLike s t → IsLike (taken s c x (transform_over m.op (drop m.revision s.log))) (taken t c x (transform_over m.op (drop m.revision t.log)))
taken_like s t c x m like =
    let steps = like.steps in
    let op : transform_over m.op (drop m.revision s.log) ≡ transform_over m.op (drop m.revision t.log) = ap (λ (w : List Entry). transform_over m.op (drop m.revision w)) like.log in
    rw op (record {
      log = ap (λ (w : List Entry). w ++ record { maker = c; op = transform_over m.op (drop m.revision t.log) } ∷ []) like.log;
      server = ap (apply (transform_over m.op (drop m.revision t.log))) like.server;
      clients = ap (λ (w : List Client). set w c (record { revision = x.revision; phase = x.phase; list = x.list; count = x.count; message = None })) like.clients;
      steps = omega (arith, steps);
    })

follows : (s t : State) (i : Instr) (s' : State) (a : Option Shown) → is_read i ≡ false → IsLike s t → step s i ≡ Performed s' a → Follows s t i s'
follows s t (Edit c op) s' a write like e =
    by_edit (λ o. o ≡ Performed s' a → Follows s t (Edit c op) s') (λ r f. absurd (cc)) s c op
    (λ x at below on base few f. (
      _,
      None,
      edit_now t c op x (at_like s t c x like at) (below_like s t like below) on base few,
      subst (λ (w : State). IsLike w (with_client t c (edited x (tag_operation c x.count op)))) (same_state _ s' None a f) (client_like s t c _ _ refl like),
    )) e
follows s t (Take c) s' a write like e =
    by_take (λ o. o ≡ Performed s' a → Follows s t (Take c) s') (λ r f. absurd (cc)) s c
    (λ x m at below on sent f. (
      _,
      None,
      take_now t c x m (at_like s t c x like at) (below_like s t like below) on sent,
      subst (λ (w : State). IsLike w (taken t c x (transform_over m.op (drop m.revision t.log)))) (same_state _ s' None a f) (taken_like s t c x m like),
    )) e
follows s t (Deliver c) s' a write like e =
    by_deliver (λ o. o ≡ Performed s' a → Follows s t (Deliver c) s') (λ r f. absurd (cc)) s c
    (λ x h at below on head other f. (
      _,
      None,
      deliver_now t c x h (at_like s t c x like at) (below_like s t like below) on (head_like s t x.revision h like head) other,
      subst (λ (w : State). IsLike w (with_client t c (delivered x h.op))) (same_state _ s' None a f) (client_like s t c _ _ refl like),
    )) e
follows s t (Acknowledge c) s' a write like e =
    by_acknowledge (λ o. o ≡ Performed s' a → Follows s t (Acknowledge c) s') (λ r f. absurd (cc)) s c
    (λ x h at below on head own f. go x h (at_like s t c x like at) (below_like s t like below) on (head_like s t x.revision h like head) own (acknowledged x x.phase) refl f) e
  where
    go : (x : Client) (h : Entry) → slice_get t.clients c ≡ Some x → t.steps < 1000000 → is_joined x.phase ≡ true → slice_get t.log x.revision ≡ Some h → h.maker ≡ c → (o : Option Client) → acknowledged x x.phase ≡ o → with_row s c o ≡ Performed s' a → Follows s t (Acknowledge c) s'
    go x h at below on head own None is f = absurd (cc)
    go x h at below on head own (Some y) is f = (
      _,
      None,
      acknowledge_now t c x y h at below on head own is,
      subst (λ (w : State). IsLike w (with_client t c y)) (same_state _ s' None a f) (client_like s t c y y refl like),
    )
follows s t (Join c) s' a write like e =
    by_join (λ o. o ≡ Performed s' a → Follows s t (Join c) s') (λ r f. absurd (cc)) s c
    (λ x at below off f. (
      _,
      None,
      join_now t c x (at_like s t c x like at) (below_like s t like below) off,
      subst (λ (w : State). IsLike w (with_client t c (joined t x))) (same_state _ s' None a f) (client_like s t c (joined s x) (joined t x) (joined_like s t x like) like),
    )) e
follows s t (Read c) s' a write like e = absurd (cc)
follows s t ReadServer s' a write like e = absurd (cc)

-- a read leaves all but the count of steps
read_like : (s : State) (i : Instr) (s' : State) (a : Option Shown) → is_read i ≡ true → step s i ≡ Performed s' a → IsLike s' s
read_like s (Edit c op) s' a read e = absurd (cc)
read_like s (Take c) s' a read e = absurd (cc)
read_like s (Deliver c) s' a read e = absurd (cc)
read_like s (Acknowledge c) s' a read e = absurd (cc)
read_like s (Join c) s' a read e = absurd (cc)
read_like s (Read c) s' a read e =
    by_read (λ o. o ≡ Performed s' a → IsLike s' s) (λ r f. absurd (cc)) s c
    (λ x at below on f. subst (λ (w : State). IsLike w s) (same_state _ s' _ a f) (record { log = refl; server = refl; clients = refl; steps = omega arith })) e
read_like s ReadServer s' a read e =
    by_read_server (λ o. o ≡ Performed s' a → IsLike s' s) (λ r f. absurd (cc)) s
    (λ below f. subst (λ (w : State). IsLike w s) (same_state _ s' _ a f) (record { log = refl; server = refl; clients = refl; steps = omega arith })) e

like_on : (s t u : State) → IsLike s t → IsLike t u → IsLike s u
like_on s t u a b = let m = a.steps in let n = b.steps in record { log = a.log ∙ b.log; server = a.server ∙ b.server; clients = a.clients ∙ b.clients; steps = omega (arith, m, n) }

-- a run without its reads
pub unread : (is : List Instr) (p q r : Place) → IsLike p.state r.state → run is p ≡ Some q → (e : Place) × (run (without_reads is) r ≡ Some e) × IsLike q.state e.state
unread [] p q r like e = (r, refl, subst (λ (w : Place). IsLike w.state r.state) (same_Some p q e) like)
unread (i ∷ is) p q r like e = let f = run_first i is p q e in go f.0 f.1 f.2 (λ u. unread is (record { state = f.0; shown = with_shown p.shown f.1 }) q u) f.3 (is_read i) refl
  where
    go : (t : State) (a : Option Shown) → step p.state i ≡ Performed t a
        → ((u : Place) → IsLike t u.state → run is (record { state = t; shown = with_shown p.shown a }) ≡ Some q → (e : Place) × (run (without_reads is) u ≡ Some e) × IsLike q.state e.state)
        → run is (record { state = t; shown = with_shown p.shown a }) ≡ Some q → (b : Bool) → is_read i ≡ b → (e : Place) × (run (without_reads (i ∷ is)) r ≡ Some e) × IsLike q.state e.state
    go t a first rest more true read =
        let later = rest r (like_on t p.state r.state (read_like p.state i t a read first) like) more in
        (later.0, ap (λ (ks : List Instr). run ks r) (filter_no (λ j. not (is_read j)) i is (ap not read)) ∙ later.1, later.2)
    go t a first rest more false write =
        let f = follows p.state r.state i t a write like first in
        let there : Place = record { state = f.0; shown = with_shown r.shown f.1 } in
        let later = rest there f.3 more in
        (later.0, ap (λ (ks : List Instr). run ks r) (filter_yes (λ j. not (is_read j)) i is (ap not write)) ∙ run_then i (without_reads is) r f.0 f.1 f.2 ∙ later.1, later.2)

pub settled_like : (s t : State) → IsLike s t → is_settled s ≡ true → is_settled t ≡ true
settled_like s t like e =
    ap (λ (w : List Client). list_all (λ x. is_synchronized x.phase && (is_none x.message && is_empty (drop x.revision t.log))) w) (sym like.clients)
    ∙ ap (λ (w : List Entry). list_all (λ x. is_synchronized x.phase && (is_none x.message && is_empty (drop x.revision w))) s.clients) (sym like.log) ∙ e
