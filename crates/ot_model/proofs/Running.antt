-- All lists of a run are in one order.
use Rattle.std.proofs.Common.{◌≡◌, ℕ, suc, ◌<◌, ◌≤◌, List, [], ◌∷◌, ◌++◌, length, set, refl, sym, ap, ◌∙◌, subst, arith, inl, inr, Option, Some, None}
use Rattle.std.proofs.lemmas.Option.{same_Some}
use Rattle.std.specs.Prelude.{◌⊎◌, slice_get}
use Rattle.ot_isa.specs.declared.elements.Tagged.{Tagged}
use Rattle.ot_model.specs.Table.{Phase, NotJoined, Synchronized, AwaitingConfirm, AwaitingWithBuffer, Client, State, Outcome, Performed, Refused, NoRow, start_list, opening, step, edited, delivered, acknowledged, joined, tag_operation}
use Rattle.ot_isa.specs.declared.instruction.Instr.{Instr}
use Rattle.ot_isa.specs.declared.instruction.Instr.TheVariants.{Edit, Take, Deliver, Acknowledge, Join, Read, ReadServer}
use Rattle.ot_model.specs.Sound.{IsSoundFrom, IsInstr, AreInstrs}
use Rattle.ot_model.proofs.Algebra.{AlgebraLaws}
use Rattle.ot_model.proofs.Vertices.{IsConsistent, Seen, In, IsOrdered, OrderLaws, list_at, list_of, lists_from, AmongLists}
use Rattle.ot_model.proofs.States.{with_client_sound, joined_kept, acknowledged_kept, delivered_kept, taken_sound, edited_kept, slice_get-set_same, RisesFrom-tag_items}
use Rattle.ot_model.proofs.Outcomes.{by_edit, by_take, by_deliver, by_acknowledge, by_join, by_read, by_read_server}
use Rattle.ot_model.proofs.Steps.{opening_sound_from}
use Rattle.ot_model.proofs.Order.{IsConsistent_sym}
use Rattle.ot_model.proofs.Ordered.{ordered_edited, ordered_delivered, ordered_acknowledged, ordered_joined}
use Rattle.ot_model.proofs.Taken.{ordered_taken}
use Rattle.ot_model.proofs.Reading.{one_on, ordered_read, ordered_read_server, opening_ordered}

pub record IsNext (start : List Tagged) (text : List ℕ) (seen : List Seen) (i : Instr) (t : State) : Type 0 where
  pub now : List Seen
  pub sound : IsSoundFrom start text t
  pub ordered : IsOrdered start t now
  pub more : (u : Seen) → In u seen → In u now
  pub list : (w : List Tagged) → AmongLists w (list_of t i) → (v : Seen) × In v now × (v.list ≡ w)

abbrev pub IsNextOutcome : List Tagged → List ℕ → List Seen → Instr → Outcome → Type 0
IsNextOutcome start text seen i (Performed t shown) = IsNext start text seen i t
IsNextOutcome start text seen i (Refused r) = Unit {0}
IsNextOutcome start text seen i NoRow = Unit {0}

only_list : (o : Option Client) (y : Client) (w : List Tagged) → o ≡ Some y → AmongLists w (list_at o) → y.list ≡ w
only_list None y w e on = absurd on
only_list (Some x) y w e (inl is) = ap (λ (z : Client). z.list) (sym (same_Some x y e)) ∙ is
only_list (Some x) y w e (inr never) = absurd never

pub acknowledged_keeps : (x y : Client) (phase : Phase) → acknowledged x phase ≡ Some y → (y.revision ≡ suc x.revision) × (y.count ≡ x.count)
acknowledged_keeps x y NotJoined e = absurd (cc)
acknowledged_keeps x y Synchronized e = absurd (cc)
acknowledged_keeps x y (AwaitingConfirm o) e = let s = same_Some _ y e in (ap (λ (z : Client). z.revision) (sym s), ap (λ (z : Client). z.count) (sym s))
acknowledged_keeps x y (AwaitingWithBuffer o b) e = let s = same_Some _ y e in (ap (λ (z : Client). z.revision) (sym s), ap (λ (z : Client). z.count) (sym s))

pub one_on_sound : (start : List Tagged) (text : List ℕ) (s : State) → IsSoundFrom start text s → s.steps < 1000000 → IsSoundFrom start text (one_on s)
one_on_sound start text s sound below =
    record {
      tagged = sound.tagged;
      short = sound.short;
      few = sound.few;
      fit = sound.fit;
      server = sound.server;
      makers = sound.makers;
      seen = sound.seen;
      clients = sound.clients;
      absents = sound.absents;
      own = sound.own;
      counts = sound.counts;
      room = sound.room;
      logged = omega arith;
      steps = omega arith;
    }

module _ (laws : AlgebraLaws) (order : OrderLaws) (start : List Tagged) (text : List ℕ) where
  server_list : (w v : List Tagged) → AmongLists w (v ∷ []) → v ≡ w
  server_list w v (inl is) = is
  server_list w v (inr never) = absurd never

  pub step_next : (s : State) (seen : List Seen) (i : Instr) → IsSoundFrom start text s → IsOrdered start s seen → IsInstr i → IsNextOutcome start text seen i (step s i)
  step_next s seen (Edit c op) sound ordered is = by_edit (IsNextOutcome start text seen (Edit c op)) (λ r. tt) s c op (λ x at below on base few.
      let y = edited x (tag_operation c x.count op) in
      let kept = edited_kept laws start text s c x op sound at is base few on in
      let sound' = with_client_sound start text s c x y sound below at kept in
      record {
        now = record { owner = c; level = x.revision; list = y.list } ∷ seen;
        sound = sound';
        ordered = ordered_edited laws order start text s seen c x op sound sound' at (record { rising = RisesFrom-tag_items c x.count 0 op.base op.image is; base = base }) on kept.joined ordered;
        more = λ u on_u. inr on_u;
        list = λ w on_w. (record { owner = c; level = x.revision; list = y.list }, inl refl, only_list (slice_get (set s.clients c y) c) y w (slice_get-set_same s.clients c x y at) on_w);
      })
  step_next s seen (Take c) sound ordered is = by_take (IsNextOutcome start text seen (Take c)) (λ r. tt) s c (λ x m at below on sent.
      let sound' = taken_sound laws start text s c x m sound below at sent in
      record { now = seen; sound = sound'; ordered = ordered_taken laws order start text s seen c x m sound sound' at sent ordered; more = λ u on_u. on_u; list = λ w on_w. absurd on_w })
  step_next s seen (Deliver c) sound ordered is = by_deliver (IsNextOutcome start text seen (Deliver c)) (λ r. tt) s c (λ x h at below on head other.
      let kept = delivered_kept laws start text s c x h sound at head other on in
      let sound' = with_client_sound start text s c x (delivered x h.op) sound below at kept in
      record { now = record { owner = c; level = suc x.revision; list = (delivered x h.op).list } ∷ seen; sound = sound'; ordered = ordered_delivered laws order start text s seen c x h sound sound' at head other kept.joined ordered; more = λ u on_u. inr on_u; list = λ w on_w. absurd on_w })
  step_next s seen (Acknowledge c) sound ordered is = by_acknowledge (IsNextOutcome start text seen (Acknowledge c)) (λ r. tt) s c (λ x h at below on head own.
      let kept = acknowledged_kept laws start text s c x h sound at head own on in
      let y = kept.0 in
      let sound' = with_client_sound start text s c x y sound below at kept.2 in
      let keeps = acknowledged_keeps x y x.phase kept.1 in
      rw kept.1 (record { now = record { owner = c; level = y.revision; list = y.list } ∷ seen; sound = sound'; ordered = ordered_acknowledged laws order start text s seen c x y h sound sound' at head own kept.1 keeps.0 keeps.1 (kept.2).joined ordered; more = λ u on_u. inr on_u; list = λ w on_w. absurd on_w }))
  step_next s seen (Join c) sound ordered is = by_join (IsNextOutcome start text seen (Join c)) (λ r. tt) s c (λ x at below off.
      let sound' = with_client_sound start text s c x (joined s x) sound below at (joined_kept start text s c x sound at off) in
      record { now = record { owner = c; level = length s.log; list = s.server } ∷ seen; sound = sound'; ordered = ordered_joined laws order start text s seen c x sound sound' at ordered; more = λ u on_u. inr on_u; list = λ w on_w. absurd on_w })
  step_next s seen (Read c) sound ordered is = by_read (IsNextOutcome start text seen (Read c)) (λ r. tt) s c (λ x at below on.
      let sound' = one_on_sound start text s sound below in
      record {
        now = record { owner = c; level = x.revision; list = x.list } ∷ seen;
        sound = sound';
        ordered = ordered_read laws order start text s seen c x sound' at on ordered;
        more = λ u on_u. inr on_u;
        list = λ w on_w. (record { owner = c; level = x.revision; list = x.list }, inl refl, only_list (slice_get s.clients c) x w at on_w);
      })
  step_next s seen ReadServer sound ordered is = by_read_server (IsNextOutcome start text seen ReadServer) (λ r. tt) s (λ below.
      record {
        now = record { owner = 65535; level = length s.log; list = s.server } ∷ seen;
        sound = one_on_sound start text s sound below;
        ordered = ordered_read_server laws order start text s seen sound ordered;
        more = λ u on_u. inr on_u;
        list = λ w on_w. (record { owner = 65535; level = length s.log; list = s.server }, inl refl, server_list w s.server on_w);
      })

AmongLists_append : (w : List Tagged) (xs ys : List (List Tagged)) → AmongLists w (xs ++ ys) → AmongLists w xs ⊎ AmongLists w ys
AmongLists_append w [] ys h = inr h
AmongLists_append w (x ∷ xs) ys (inl here) = inl (inl here)
AmongLists_append w (x ∷ xs) ys (inr there) = elim (AmongLists_append w xs ys there) [ inl a ↦ inl (inr a) | inr b ↦ inr b ]

module _ (laws : AlgebraLaws) (order : OrderLaws) (start : List Tagged) (text : List ℕ) where
  -- what a reader saw before, and what any reader sees from here on
  past_and_later : (is : List Instr) (s : State) (seen : List Seen) (u : Seen) (w : List Tagged) → IsSoundFrom start text s → IsOrdered start s seen → AreInstrs is → In u seen → AmongLists w (lists_from s is) → IsConsistent u.list w
  past_and_later [] s seen u w sound ordered all on_u on_w = absurd on_w
  past_and_later (i ∷ is) s seen u w sound ordered all on_u on_w =
      go (λ t now st od on on'. past_and_later is t now u w st od all.1 on on') (step s i) (step_next laws order start text s seen i sound ordered all.0) on_w
    where
      go : ((t : State) (now : List Seen) → IsSoundFrom start text t → IsOrdered start t now → In u now → AmongLists w (lists_from t is) → IsConsistent u.list w)
          → (o : Outcome) → IsNextOutcome start text seen i o → AmongLists w (elim o [ Performed t shown ↦ list_of t i ++ lists_from t is | Refused r ↦ [] | NoRow ↦ [] ]) → IsConsistent u.list w
      go later (Performed t shown) next on = elim (AmongLists_append w (list_of t i) (lists_from t is) on) [
        | inl here ↦
            let found = next.list w here in
            let v = found.0 in
            subst (λ (l : List Tagged). IsConsistent u.list l) found.2 ((next.ordered).consistent u.owner v.owner u.list v.list (inr (u, next.more u on_u, refl, refl)) (inr (v, found.1, refl, refl)))
        | inr there ↦ later t next.now next.sound next.ordered (next.more u on_u) there
      ]
      go later (Refused r) next on = absurd on
      go later NoRow next on = absurd on

  -- any two lists of a run are in one order
  pub all_lists : (is : List Instr) (s : State) (seen : List Seen) (v w : List Tagged) → IsSoundFrom start text s → IsOrdered start s seen → AreInstrs is → AmongLists v (lists_from s is) → AmongLists w (lists_from s is) → IsConsistent v w
  all_lists [] s seen v w sound ordered all on_v on_w = absurd on_v
  all_lists (i ∷ is) s seen v w sound ordered all on_v on_w =
      go (λ t now st od on on'. all_lists is t now v w st od all.1 on on') (step s i) (step_next laws order start text s seen i sound ordered all.0) on_v on_w
    where
      go : ((t : State) (now : List Seen) → IsSoundFrom start text t → IsOrdered start t now → AmongLists v (lists_from t is) → AmongLists w (lists_from t is) → IsConsistent v w)
          → (o : Outcome) → IsNextOutcome start text seen i o
          → AmongLists v (elim o [ Performed t shown ↦ list_of t i ++ lists_from t is | Refused r ↦ [] | NoRow ↦ [] ])
          → AmongLists w (elim o [ Performed t shown ↦ list_of t i ++ lists_from t is | Refused r ↦ [] | NoRow ↦ [] ]) → IsConsistent v w
      go later (Refused r) next on on' = absurd on
      go later NoRow next on on' = absurd on
      go later (Performed t shown) next on on' = elim (AmongLists_append v (list_of t i) (lists_from t is) on) [
        | inl here_v ↦
            let a = next.list v here_v in
            elim (AmongLists_append w (list_of t i) (lists_from t is) on') [
              | inl here_w ↦
                  let b = next.list w here_w in
                  subst (λ (l : List Tagged). IsConsistent l w) a.2 (subst (λ (l : List Tagged). IsConsistent (a.0).list l) b.2 ((next.ordered).consistent (a.0).owner (b.0).owner (a.0).list (b.0).list (inr (a.0, a.1, refl, refl)) (inr (b.0, b.1, refl, refl))))
              | inr later_w ↦ subst (λ (l : List Tagged). IsConsistent l w) a.2 (past_and_later is t next.now a.0 w next.sound next.ordered all.1 a.1 later_w)
            ]
        | inr later_v ↦ elim (AmongLists_append w (list_of t i) (lists_from t is) on') [
          | inl here_w ↦
              let b = next.list w here_w in
              IsConsistent_sym w v (subst (λ (l : List Tagged). IsConsistent l v) b.2 (past_and_later is t next.now b.0 v next.sound next.ordered all.1 b.1 later_v))
          | inr later_w ↦ later t next.now next.sound next.ordered later_v later_w
        ]
      ]

-- the order clause of the weak list property, of every run
pub one_order : AlgebraLaws → OrderLaws → (clients present : ℕ) (text : List ℕ) (is : List Instr) (v w : List Tagged) → clients ≤ 64 → present ≤ clients → length text ≤ 40000 → AreInstrs is
    → AmongLists v (lists_from (opening clients present text) is) → AmongLists w (lists_from (opening clients present text) is) → IsConsistent v w
one_order laws order clients present text is v w few within short all =
    all_lists laws order (start_list text) text is (opening clients present text) [] v w (opening_sound_from clients present text few within short) (opening_ordered clients present text) all
