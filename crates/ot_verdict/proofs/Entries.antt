-- A client receives what is on its way to it, entry by entry.
use Rattle.std.proofs.Common.{◌≡◌, ℕ, suc, ◌+◌, ◌<◌, ◌≤◌, ◌≢◌, List, length, drop, set, refl, sym, ap, ◌∙◌, subst, arith, true, Some}
use Rattle.std.proofs.lemmas.Bool.{cond-true, cond-false, eq-eqb, ne_eqb}
use Rattle.std.proofs.lemmas.List.{drop_all}
use Rattle.std.proofs.lemmas.Option.{same_Some, slice_get-get_or}
use Rattle.std.specs.Prelude.{◌==◌, slice_get}
use Rattle.ot_isa.specs.declared.elements.Tagged.{Tagged}
use Rattle.ot_client.specs.State as client
use Rattle.ot_client.specs.Conditions as conditions
use Rattle.ot_client.specs.declared.TheConstants.{REVISION_LIMIT}
use Rattle.ot_model.specs.Operation.{Operation, apply}
use Rattle.ot_model.specs.Laws as laws_of
use Rattle.ot_model.specs.Laws.{IsDeliverable}
use Rattle.ot_model.specs.Sound.{IsSound}
use Rattle.ot_model.specs.Table.{Phase, Synchronized, AwaitingConfirm, is_joined, absent, Client, Entry, State, acknowledged, against_pending, delivered, phase_delivered, phase_in}
use Rattle.ot_model.proofs.Algebra.{laws}
use Rattle.ot_model.proofs.Fitting.{deliverable}
use Rattle.ot_model.proofs.States.{acknowledged_kept, client_changed_sound, delivered_kept, drop_entry, slice_get-set_same}
use Rattle.std.proofs.lemmas.Option.{slice_get_within}
use Rattle.ot_machine.specs.Effects.{client_in}
use Rattle.ot_verdict.specs.Ending.{list_after, phase_confirmed, received}
use Rattle.ot_verdict.specs.Receiving.{IsReceiving}

-- ---- the three states in the table

joined_in : (p : client.Phase Tagged) → is_joined (phase_in p) ≡ true
joined_in client.Synchronized = refl
joined_in (client.AwaitingConfirm o) = refl
joined_in (client.AwaitingWithBuffer o b) = refl

delivered_in : (p : client.Phase Tagged) (h : Operation Tagged) → phase_delivered (phase_in p) h ≡ phase_in (client.phase_delivered p h)
delivered_in client.Synchronized h = refl
delivered_in (client.AwaitingConfirm o) h = refl
delivered_in (client.AwaitingWithBuffer o b) h = refl

against_in : (p : client.Phase Tagged) (h : Operation Tagged) → against_pending (phase_in p) h ≡ client.against_pending p h
against_in client.Synchronized h = refl
against_in (client.AwaitingConfirm o) h = refl
against_in (client.AwaitingWithBuffer o b) h = refl

may_in : (p : client.Phase Tagged) (h : Operation Tagged) → laws_of.MayDeliver (phase_in p) h → conditions.MayDeliver p h
may_in client.Synchronized h may = may
may_in (client.AwaitingConfirm o) h may = may
may_in (client.AwaitingWithBuffer o b) h may = may

awaiting_in : (x y : Client) (p : client.Phase Tagged) → acknowledged x (phase_in p) ≡ Some y → conditions.IsAwaiting p
awaiting_in x y client.Synchronized e = absurd (cc)
awaiting_in x y (client.AwaitingConfirm o) e = tt
awaiting_in x y (client.AwaitingWithBuffer o b) e = tt

-- the client after an acknowledgement
record IsConfirmed (x y : Client) (q : client.Phase Tagged) : Type 0 where
  revision : y.revision ≡ suc x.revision
  phase : y.phase ≡ phase_in q
  list : y.list ≡ x.list

confirmed_in : (x y : Client) (p q : client.Phase Tagged) → acknowledged x (phase_in p) ≡ Some y → client.phase_acknowledged p ≡ Some q → IsConfirmed x y q × (phase_confirmed (phase_in p) ≡ phase_in q)
confirmed_in x y client.Synchronized q e f = absurd (cc)
confirmed_in x y (client.AwaitingConfirm o) q e f =
    let is = same_Some _ y e in
    let now : client.Synchronized ≡ q = same_Some _ q f in
    let phase : Synchronized ≡ phase_in q = ap phase_in now in
    (record { revision = ap (λ (z : Client). z.revision) (sym is); phase = ap (λ (z : Client). z.phase) (sym is) ∙ phase; list = ap (λ (z : Client). z.list) (sym is) }, phase)
confirmed_in x y (client.AwaitingWithBuffer o b) q e f =
    let is = same_Some _ y e in
    let now : client.AwaitingConfirm b ≡ q = same_Some _ q f in
    let phase : AwaitingConfirm b ≡ phase_in q = ap phase_in now in
    (record { revision = ap (λ (z : Client). z.revision) (sym is); phase = ap (λ (z : Client). z.phase) (sym is) ∙ phase; list = ap (λ (z : Client). z.list) (sym is) }, phase)

-- ---- what is next

module _ (s : State) (c : ℕ) (now : client.State Tagged) (list : List Tagged) (r : IsReceiving s c now list) where
  joined_now : is_joined (r.client).phase ≡ true
  joined_now = ap is_joined r.phase ∙ joined_in now.phase

  head_now : (h : Entry) → slice_get s.log now.revision ≡ Some h → slice_get (r.state).log (r.client).revision ≡ Some h
  head_now h head = ap (λ (log : List Entry). slice_get log (r.client).revision) r.log ∙ ap (slice_get s.log) r.revision ∙ head

  pub below_limit : (h : Entry) → slice_get s.log now.revision ≡ Some h → now.revision < REVISION_LIMIT
  below_limit h head =
      let within : (r.client).revision < length (r.state).log = slice_get_within (r.state).log (r.client).revision h (head_now h head) in
      let logged = r.sound.2.logged in
      let steps = r.sound.2.steps in
      let same = r.revision in
      omega arith

  pub may_acknowledge : (h : Entry) → slice_get s.log now.revision ≡ Some h → h.maker ≡ c → conditions.IsAwaiting now.phase
  may_acknowledge h head own =
      let kept = acknowledged_kept laws r.sound.0 r.sound.1 r.state c r.client h r.sound.2 r.at (head_now h head) own joined_now in
      awaiting_in r.client kept.0 now.phase (ap (acknowledged r.client) (sym r.phase) ∙ kept.1)

  pub fits_now : (h : Entry) → slice_get s.log now.revision ≡ Some h → h.maker ≢ c → conditions.MayDeliver now.phase h.op × ((client.against_pending now.phase h.op).base ≡ length list)
  fits_now h head other =
      let may = deliverable r.state c r.client h r.sound r.at joined_now (head_now h head) other in (
        may_in now.phase h.op (subst (λ (p : Phase). laws_of.MayDeliver p h.op) r.phase may.operations),
        ap (λ (op : Operation Tagged). op.base) (sym (ap (λ (p : Phase). against_pending p h.op) r.phase ∙ against_in now.phase h.op)) ∙ may.base ∙ ap length r.list_is,
      )

  -- the entry is the client's own
  pub next_own : (h : Entry) (next : client.State Tagged) → slice_get s.log now.revision ≡ Some h → h.maker ≡ c → next.revision ≡ now.revision + 1 → client.phase_acknowledged now.phase ≡ Some next.phase → IsReceiving s c next list
  next_own h next head own revision phase =
      let kept = acknowledged_kept laws r.sound.0 r.sound.1 r.state c r.client h r.sound.2 r.at (head_now h head) own joined_now in
      let y = kept.0 in
      let confirmed = confirmed_in r.client y now.phase next.phase (ap (acknowledged r.client) (sym r.phase) ∙ kept.1) phase in
      let is = confirmed.0 in
      let more : next.revision ≡ suc now.revision = omega arith in
      let ahead = drop (suc now.revision) s.log in
      let step : list_after c (drop now.revision s.log) (phase_in now.phase) list ≡ list_after c ahead (phase_confirmed (phase_in now.phase)) list =
      ap (λ (log : List Entry). list_after c log (phase_in now.phase) list) (drop_entry s.log now.revision h head)
      ∙ cond-true (h.maker == c) (list_after c ahead (phase_confirmed (phase_in now.phase)) list) (list_after c ahead (phase_delivered (phase_in now.phase) h.op) (apply (against_pending (phase_in now.phase) h.op) list)) (eq-eqb h.maker c own) in
      record {
        state = record { log = (r.state).log; server = (r.state).server; clients = set (r.state).clients c y; steps = (r.state).steps };
        sound = (r.sound.0, r.sound.1, client_changed_sound r.sound.0 r.sound.1 r.state c r.client y (r.state).steps r.sound.2 r.sound.2.logged r.sound.2.steps r.at kept.2);
        log = r.log;
        client = y;
        at = slice_get-set_same (r.state).clients c r.client y r.at;
        revision = is.revision ∙ ap suc r.revision ∙ sym more;
        phase = is.phase;
        list_is = is.list ∙ r.list_is;
        ends =
            ap (λ (n : ℕ). list_after c (drop n s.log) (phase_in next.phase) list) more
            ∙ ap (λ (p : Phase). list_after c ahead p list) (sym confirmed.1)
            ∙ sym step ∙ r.ends;
      }

  -- the entry is another's
  pub next_other : (h : Entry) (next : client.State Tagged) (after : List Tagged) → slice_get s.log now.revision ≡ Some h → h.maker ≢ c → next ≡ client.delivered now h.op → after ≡ apply (client.against_pending now.phase h.op) list
      → IsReceiving s c next after
  next_other h next after head other is applied =
      let kept = delivered_kept laws r.sound.0 r.sound.1 r.state c r.client h r.sound.2 r.at (head_now h head) other joined_now in
      let y = delivered r.client h.op in
      let against : against_pending (r.client).phase h.op ≡ client.against_pending now.phase h.op = ap (λ (p : Phase). against_pending p h.op) r.phase ∙ against_in now.phase h.op in
      let phase : phase_delivered (phase_in now.phase) h.op ≡ phase_in next.phase = delivered_in now.phase h.op ∙ ap (λ (w : client.State Tagged). phase_in w.phase) (sym is) in
      let more : next.revision ≡ suc now.revision = ap (λ (w : client.State Tagged). w.revision) is in
      let ahead = drop (suc now.revision) s.log in
      let step : list_after c (drop now.revision s.log) (phase_in now.phase) list ≡ list_after c ahead (phase_delivered (phase_in now.phase) h.op) (apply (against_pending (phase_in now.phase) h.op) list) =
      ap (λ (log : List Entry). list_after c log (phase_in now.phase) list) (drop_entry s.log now.revision h head)
      ∙ cond-false (h.maker == c) (list_after c ahead (phase_confirmed (phase_in now.phase)) list) (list_after c ahead (phase_delivered (phase_in now.phase) h.op) (apply (against_pending (phase_in now.phase) h.op) list)) (ne_eqb h.maker c other) in
      record {
        state = record { log = (r.state).log; server = (r.state).server; clients = set (r.state).clients c y; steps = (r.state).steps };
        sound = (r.sound.0, r.sound.1, client_changed_sound r.sound.0 r.sound.1 r.state c r.client y (r.state).steps r.sound.2 r.sound.2.logged r.sound.2.steps r.at kept);
        log = r.log;
        client = y;
        at = slice_get-set_same (r.state).clients c r.client y r.at;
        revision = ap suc r.revision ∙ sym more;
        phase = ap (λ (p : Phase). phase_delivered p h.op) r.phase ∙ phase;
        list_is = ap (λ (op : Operation Tagged). apply op (r.client).list) against ∙ ap (apply (client.against_pending now.phase h.op)) r.list_is ∙ sym applied;
        ends =
            ap (λ (n : ℕ). list_after c (drop n s.log) (phase_in next.phase) after) more
            ∙ ap (list_after c ahead (phase_in next.phase)) (applied ∙ ap (λ (op : Operation Tagged). apply op list) (sym (against_in now.phase h.op)))
            ∙ ap (λ (p : Phase). list_after c ahead p (apply (against_pending (phase_in now.phase) h.op) list)) (sym phase)
            ∙ sym step ∙ r.ends;
      }

  -- all is received
  pub has_received : length s.log ≤ now.revision → list ≡ received s c (client_in s c)
  has_received past = ap (λ (log : List Entry). list_after c log (phase_in now.phase) list) (sym (drop_all now.revision s.log past)) ∙ r.ends

-- where it begins
pub begins : (s : State) (c : ℕ) (now : client.State Tagged) (list : List Tagged) → IsSound s → c < length s.clients → now.revision ≡ (client_in s c).revision → phase_in now.phase ≡ (client_in s c).phase → list ≡ (client_in s c).list
    → IsReceiving s c now list
begins s c now list sound inside revision phase list_is =
    let x = client_in s c in
    record {
      state = s;
      sound = sound;
      log = refl;
      client = x;
      at = slice_get-get_or s.clients c absent inside;
      revision = sym revision;
      phase = sym phase;
      list_is = sym list_is;
      ends =
          ap (λ (n : ℕ). list_after c (drop n s.log) (phase_in now.phase) list) revision
          ∙ ap (λ (p : Phase). list_after c (drop x.revision s.log) p list) phase
          ∙ ap (list_after c (drop x.revision s.log) x.phase) list_is;
    }
