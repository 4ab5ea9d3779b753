-- An edit keeps one order in all lists, past ones and those that the state leads to.
use Rattle.std.proofs.Common.{◌≡◌, ℕ, zero, suc, ◌<◌, ◌≤◌, ◌≢◌, List, [], ◌∷◌, ◌++◌, length, take, drop, set, refl, sym, ap, ◌∙◌, subst, arith, inl, inr, Some, true}
use Rattle.std.proofs.lemmas.List.{take-append-drop}
use Rattle.std.proofs.lemmas.Option.{slice_get_within, same_Some}
use Rattle.std.specs.Prelude.{◌⊎◌, slice_get}
use Rattle.ot_model.specs.Operation.{Operation, apply, news, compose}
use Rattle.ot_isa.specs.declared.elements.Tag.{Tag}
use Rattle.ot_isa.specs.declared.elements.Tagged.{Tagged}
use Rattle.ot_model.specs.Table.{Phase, NotJoined, Synchronized, AwaitingConfirm, AwaitingWithBuffer, is_joined, Client, State, Entry, phase_edited, with_client, edited}
use Rattle.ot_model.specs.Sound.{Fits, apply_entries, IsPhaseSound, news_sent, news_kept, IsSoundFrom}
use Rattle.ot_model.proofs.Algebra.{AlgebraLaws}
use Rattle.ot_model.proofs.Vertices.{Has, HasNew, PathFits, InPath, Apart, ApartNew, IsConsistent, lifted, operations, past_outstanding, InFirst, InSecond, InLast, IsVertex, Seen, In, IsMember, IsOrdered, OrderLaws}
use Rattle.ot_model.proofs.States.{times-append, slice_get-set_same, slice_get-set_other}
use Rattle.ot_model.proofs.Paths.{past_none, past_fits, operations_fit}
use Rattle.ot_model.proofs.Order.{InPath_first, lifted_fits, lifted_news, lift, along, step_consistent, IsConsistent_sym}
use Rattle.ot_model.proofs.Tags.{NewBy, HasNew_by, NewBy_right, log_tag, pending_tag, log_once, Has_start, Has_times, allowance-le}
use Rattle.ot_model.proofs.Known.{member_known, first_held, past_news, sent_or, client_fits, NewBy_HasNew, HasNew_append, HasNew_take, HasNew_drop, HasNew_other, Has_right}
use Rattle.std.proofs.lemmas.Bool.{cases_eq}

-- a tag that its client has not used
pub record IsFresh (c : ℕ) (x : Client) (t : Tag) : Type 0 where
  pub origin : t.origin ≡ c
  pub serial : x.count ≤ t.serial

start_tag : (start : List Tagged) (text : List ℕ) (s : State) (t : Tag) → IsSoundFrom start text s → Has t start → t.origin ≡ 65535
start_tag start text s t sound h = Has_start t 0 text (subst (λ (w : List Tagged). Has t w) sound.tagged h)

-- the path from the document on, from which c's last operation lifts
pub record IsBase (start : List Tagged) (s : State) (c : ℕ) (x : Client) (op z : Operation Tagged) (e : List Tagged) (es : List (Operation Tagged)) : Type 0 where
  pub fits : Fits z e
  pub path : PathFits e es
  pub below : (v : List Tagged) → InPath v e es → (a : ℕ) × IsVertex start s a v
  pub top : apply z e ≡ apply op x.list
  pub list : (a : ℕ) × IsVertex start s a x.list
  pub entries : (t : Tag) → HasNew t es → (k : ℕ) × (k ≢ c) × NewBy k t (drop x.revision s.log)
  pub inserted : (t : Tag) → Has t (news z) → IsFresh c x t ⊎ Has t (news_kept x.phase)

HasNew_further : (t : Tag) (log : List Entry) (m n : ℕ) → m ≤ n → HasNew t (operations (drop n log)) → HasNew t (operations (drop m log))
HasNew_further t log zero n le h = subst (λ (w : List Entry). HasNew t (operations w)) (take-append-drop n log) (HasNew_append t (take n log) (drop n log) (inr h))
HasNew_further t log (suc m) zero le h = absurd (omega arith)
HasNew_further t [] (suc m) (suc n) le h = h
HasNew_further t (e ∷ log) (suc m) (suc n) le h = HasNew_further t log m n (omega arith) h

module _ (laws : AlgebraLaws) (order : OrderLaws) where
  open laws use {first_fits, second_fits, same, first_news, second_news}

  -- nothing that c has new or pending stands in another reader's list
  apart_other : (start : List Tagged) (text : List ℕ) (s : State) (seen : List Seen) (c : ℕ) (x : Client) (owner : ℕ) (u : List Tagged) (t : Tag) → IsSoundFrom start text s → IsOrdered start s seen → slice_get s.clients c ≡ Some x → owner ≢ c → IsMember start s seen owner u
      → Has t u → IsFresh c x t ⊎ Has t (news_kept x.phase) → ⊥
  apart_other start text s seen c x owner u t sound ordered at other member h new =
      let inside : c < length s.clients = slice_get_within s.clients c x at in
      let few = sound.few in
      let mine : (t.origin ≡ c) × (HasNew t (operations s.log) → ⊥) = elim new [
        | inl fresh ↦ (
          fresh.origin,
          λ k. let by = HasNew_by t s.log k in let tag = log_tag start text s by.0 t sound by.1 in
              let same_client : tag.0 ≡ x = same_Some tag.0 x (sym tag.1 ∙ ap (λ (n : ℕ). slice_get s.clients n) (sym tag.2 ∙ fresh.origin) ∙ at) in
              let low = tag.3 in let high = fresh.serial in let counts : tag.0.count ≡ x.count = ap (λ (y : Client). y.count) same_client in absurd (omega arith),
        )
        | inr kept ↦ let p = pending_tag start text s c x t sound at (Has_right t (news_sent x.message) (news_kept x.phase) kept) in (p.0, p.2)
      ] in
      elim (member_known laws order start text s seen owner u t sound ordered.sound member h) [
        | inl own ↦ other (sym own.origin ∙ mine.0)
        | inr (inl first) ↦ let o = start_tag start text s t sound first in let m = mine.0 in absurd (omega arith)
        | inr (inr logged) ↦ mine.1 logged
      ]

  -- where a path's last operation inserts nothing of a list, the list stays consistent with what it leads to
  new_apart : (start : List Tagged) (s : State) (seen : List Seen) (c : ℕ) (x : Client) (op z : Operation Tagged) (e : List Tagged) (es : List (Operation Tagged)) (owner : ℕ) (u w : List Tagged) → IsOrdered start s seen → IsBase start s c x op z e es → IsMember start s seen owner u → Apart u (news z) → InPath w (apply z e) (lifted z es) → IsConsistent u w
  new_apart start s seen c x op z e es owner u w ordered base member apart on =
      lift laws order u w e z es base.fits base.path apart (λ v below. let vertex = base.below v below in ordered.consistent owner vertex.0 u v member (inl vertex.1)) on

  -- a past list of c's own has nothing of what is ahead of it
  new_past : (start : List Tagged) (text : List ℕ) (s : State) (seen : List Seen) (c : ℕ) (x : Client) (op z : Operation Tagged) (e : List Tagged) (es : List (Operation Tagged)) (u : Seen) (w : List Tagged) → IsSoundFrom start text s → IsOrdered start s seen → slice_get s.clients c ≡ Some x → Fits op x.list → ((t : Tag) → Has t (news op) → IsFresh c x t) → IsBase start s c x op z e es
      → In u seen → u.owner ≡ c → InPath w (apply z e) (lifted z es) → IsConsistent u.list w
  new_past start text s seen c x op z e es u w sound ordered at fits fresh base member own on =
      let us = ordered.sound u member in
      let at_owner : slice_get s.clients u.owner ≡ Some x = ap (λ (n : ℕ). slice_get s.clients n) own ∙ at in
      let behind : u.level ≤ x.revision = us.behind x at_owner in
      let few = sound.few in
      let inside : c < length s.clients = slice_get_within s.clients c x at in
      let past : IsMember start s seen u.owner u.list = inr (u, member, refl, refl) in
      let now : IsConsistent u.list x.list = ordered.consistent u.owner base.list.0 u.list x.list past (inl base.list.1) in
      let apart_op : Apart u.list (news op) = (λ t h k.
      let f = fresh t k in
      elim (member_known laws order start text s seen u.owner u.list t sound ordered.sound past h) [
        | inl mine ↦ let one : mine.client ≡ x = same_Some mine.client x (sym mine.at ∙ at_owner) in let low = mine.serial in let high = f.serial in let counts : mine.client.count ≡ x.count = ap (λ (y : Client). y.count) one in absurd (omega arith)
        | inr (inl first) ↦ let o = start_tag start text s t sound first in let m = f.origin in absurd (omega arith)
        | inr (inr logged) ↦ let by = HasNew_by t s.log logged in let tag = log_tag start text s by.0 t sound by.1 in
            let one : tag.0 ≡ x = same_Some tag.0 x (sym tag.1 ∙ ap (λ (n : ℕ). slice_get s.clients n) (sym tag.2 ∙ f.origin) ∙ at) in let low = tag.3 in let high = f.serial in let counts : tag.0.count ≡ x.count = ap (λ (y : Client). y.count) one in absurd (omega arith)
      ]) in
      let top : IsConsistent u.list (apply z e) = rw base.top (step_consistent laws order u.list x.list op fits apart_op now) in
      let ahead : ApartNew u.list (lifted z es) = (λ t h k.
      let by = base.entries t (lifted_news laws order z e es t base.fits base.path k) in
      let far : HasNew t (operations (drop x.revision s.log)) = NewBy_HasNew by.0 t (drop x.revision s.log) by.2 in
      let tag = log_tag start text s by.0 t sound (subst (NewBy by.0 t) (take-append-drop x.revision s.log) (NewBy_right by.0 t (take x.revision s.log) (drop x.revision s.log) by.2)) in
      elim (us.known t h) [
        | inl mine ↦ by.1 (sym tag.2 ∙ mine.origin ∙ own)
        | inr (inl first) ↦ let o = start_tag start text s t sound first in let m = tag.2 in let low = tag.4 in absurd (omega arith)
        | inr (inr logged) ↦ log_once start text s t (take u.level s.log) (drop u.level s.log) sound (take-append-drop u.level s.log) logged (HasNew_further t s.log u.level x.revision behind far)
      ]) in
      along laws order u.list (apply z e) w (lifted z es) (lifted_fits laws order z e es base.fits base.path) ahead top on

  pub InPath_later : (v d : List Tagged) (seen ahead : List Entry) → InPath v (apply_entries d seen) (operations ahead) → InPath v d (operations (seen ++ ahead))
  InPath_later v d [] ahead on = on
  InPath_later v d (h ∷ seen) ahead on = inr (InPath_later v (apply h.op d) seen ahead on)

  -- what the edit adds to where the client's lists lead
  pub record IsEditPath (start : List Tagged) (s : State) (c : ℕ) (x : Client) (phase : Phase) (op : Operation Tagged) : Type 0 where
    pub z : Operation Tagged
    pub e : List Tagged
    pub es : List (Operation Tagged)
    pub base : IsBase start s c x op z e es
    pub first : (w : List Tagged) → InFirst c w (apply_entries start (take x.revision s.log)) (drop x.revision s.log) (phase_edited phase op) → InFirst c w (apply_entries start (take x.revision s.log)) (drop x.revision s.log) phase ⊎ InPath w (apply z e) (lifted z es)
    pub second : (w : List Tagged) → InSecond c w (apply_entries start (take x.revision s.log)) (drop x.revision s.log) (phase_edited phase op) → InPath w (apply z e) (lifted z es)
    pub last : (w : List Tagged) → InPath w (apply z e) (lifted z es) → InLast c w (apply_entries start (take x.revision s.log)) (drop x.revision s.log) (phase_edited phase op)

  pub edit_path : (start : List Tagged) (text : List ℕ) (s : State) (c : ℕ) (x : Client) (phase : Phase) (op : Operation Tagged) → IsSoundFrom start text s → slice_get s.clients c ≡ Some x → x.phase ≡ phase → is_joined phase ≡ true → Fits op x.list → ((t : Tag) → Has t (news op) → IsFresh c x t)
      → IsPhaseSound c phase start (take x.revision s.log) (drop x.revision s.log) x.list x.message → IsEditPath start s c x phase op
  edit_path start text s c x NotJoined op sound at is on fits fresh now = absurd (cc)
  edit_path start text s c x Synchronized op sound at is joined fits fresh now =
      let d = apply_entries start (take x.revision s.log) in
      let ahead = drop x.revision s.log in
      let parts = client_fits laws order start text s c x sound at in
      let server : (v : List Tagged) → InPath v d (operations ahead) → InPath v start (operations s.log) = (λ v on. subst (λ (w : List Entry). InPath v start (operations w)) (take-append-drop x.revision s.log) (InPath_later v start (take x.revision s.log) ahead on)) in
      record {
        z = op;
        e = d;
        es = operations ahead;
        base = record {
          fits = rw now.list_is at fits;
          path = operations_fit laws d ahead parts.1;
          below = λ v on. (65535, inl (refl, server v on));
          top = ap (apply op) (sym now.list_is);
          list = (65535, inl (refl, rw now.list_is (server d (InPath_first d (operations ahead)))));
          entries = λ t h. HasNew_other c t ahead now.none h;
          inserted = λ t h. inl (fresh t h);
        };
        first = λ w on. inr (rw (past_none c op ahead now.none) at on);
        second = λ w on. absurd on;
        last = λ w on. rw (past_none c op ahead now.none) on;
      }
  edit_path start text s c x (AwaitingConfirm o) op sound at is joined fits fresh now =
      let d = apply_entries start (take x.revision s.log) in
      let ahead = drop x.revision s.log in
      let parts = client_fits laws order start text s c x sound at in
      let sent = sent_or laws order c o start (take x.revision s.log) ahead x.message now.sent in
      record {
        z = op;
        e = apply o d;
        es = past_outstanding c o ahead;
        base = record {
          fits = rw now.list_is at fits;
          path = past_fits laws c o d ahead parts.1 now.fits sent;
          below = λ v on. (c, inr (record { client = x; at = at; path = inl (subst (λ (p : Phase). InFirst c v d ahead p) (sym is) on) }));
          top = ap (apply op) (sym now.list_is);
          list = (c, inr (record { client = x; at = at; path = inl (subst (λ (p : Phase). InFirst c x.list d ahead p) (sym is) (rw now.list_is (InPath_first (apply o d) (past_outstanding c o ahead)))) }));
          entries = λ t h. past_news laws order c o d ahead t parts.1 now.fits sent h;
          inserted = λ t h. inl (fresh t h);
        };
        first = λ w on. inl on;
        second = λ w on. on;
        last = λ w on. on;
      }
  edit_path start text s c x (AwaitingWithBuffer o b) op sound at is joined fits fresh now =
      let d = apply_entries start (take x.revision s.log) in
      let ahead = drop x.revision s.log in
      let parts = client_fits laws order start text s c x sound at in
      let sent = sent_or laws order c o start (take x.revision s.log) ahead x.message now.sent in
      let f : Fits op (apply b (apply o d)) = rw now.list_is at fits in
      record {
        z = compose b op;
        e = apply o d;
        es = past_outstanding c o ahead;
        base = record {
          fits = laws.compose_fits b op (apply o d) now.buffer_fits f;
          path = past_fits laws c o d ahead parts.1 now.fits sent;
          below = λ v on. (c, inr (record { client = x; at = at; path = inl (subst (λ (p : Phase). InFirst c v d ahead p) (sym is) on) }));
          top = laws.apply-compose b op (apply o d) now.buffer_fits f ∙ ap (apply op) (sym now.list_is);
          list = (c, inr (record { client = x; at = at; path = inr (subst (λ (p : Phase). InSecond c x.list d ahead p) (sym is) (rw now.list_is (InPath_first (apply b (apply o d)) (lifted b (past_outstanding c o ahead))))) }));
          entries = λ t h. past_news laws order c o d ahead t parts.1 now.fits sent h;
          inserted = λ t h. elim (order.compose_has b op t now.buffer_fits.rising f.rising h) [ inl kept ↦ inr (subst (λ (p : Phase). Has t (news_kept p)) (sym is) kept) | inr new ↦ inl (fresh t new) ];
        };
        first = λ w on. inl on;
        second = λ w on. on;
        last = λ w on. on;
      }

  -- nothing that c has new or in its buffer stands in a list that its outstanding alone leads to
  apart_first : (start : List Tagged) (text : List ℕ) (s : State) (seen : List Seen) (c : ℕ) (x : Client) (u : List Tagged) (t : Tag) → IsSoundFrom start text s → IsOrdered start s seen → slice_get s.clients c ≡ Some x
      → InFirst c u (apply_entries start (take x.revision s.log)) (drop x.revision s.log) x.phase → Has t u → IsFresh c x t ⊎ Has t (news_kept x.phase) → ⊥
  apart_first start text s seen c x u t sound ordered at on h (inl fresh) =
      let few = sound.few in
      let inside : c < length s.clients = slice_get_within s.clients c x at in
      let m = fresh.origin in
      let high = fresh.serial in
      elim (member_known laws order start text s seen c u t sound ordered.sound (inl (inr (record { client = x; at = at; path = inl on }))) h) [
        | inl mine ↦ let one : mine.client ≡ x = same_Some mine.client x (sym mine.at ∙ at) in let low = mine.serial in let counts : mine.client.count ≡ x.count = ap (λ (y : Client). y.count) one in absurd (omega arith)
        | inr (inl first) ↦ let o = start_tag start text s t sound first in absurd (omega arith)
        | inr (inr logged) ↦ let by = HasNew_by t s.log logged in let tag = log_tag start text s by.0 t sound by.1 in
            let one : tag.0 ≡ x = same_Some tag.0 x (sym tag.1 ∙ ap (λ (n : ℕ). slice_get s.clients n) (sym tag.2 ∙ m) ∙ at) in let low = tag.3 in let counts : tag.0.count ≡ x.count = ap (λ (y : Client). y.count) one in absurd (omega arith)
      ]
  apart_first start text s seen c x u t sound ordered at on h (inr kept) =
      let few = sound.few in
      let inside : c < length s.clients = slice_get_within s.clients c x at in
      let parts = client_fits laws order start text s c x sound at in
      let p = pending_tag start text s c x t sound at (Has_right t (news_sent x.message) (news_kept x.phase) kept) in
      let m = p.0 in
      elim (first_held laws order c x.phase start (take x.revision s.log) (drop x.revision s.log) x.list x.message u t parts.0 parts.1 (sound.clients c x at) on h) [
        | inl sent ↦
            let two = Has_times t (news_sent x.message) sent in
            let one = Has_times t (news_kept x.phase) kept in
            let sum = times-append t (news_sent x.message) (news_kept x.phase) in
            let own = sound.own c x at t in
            let most = allowance-le c x.count t in
            absurd (omega arith)
        | inr (inl first) ↦ let o = start_tag start text s t sound first in absurd (omega arith)
        | inr (inr (inl before)) ↦ p.2 (HasNew_take t x.revision s.log before)
        | inr (inr (inr ahead)) ↦ p.2 (HasNew_drop t x.revision s.log ahead)
      ]

  -- the members of a state before an edit that are there after it
  data Kept (start : List Tagged) (s : State) (seen : List Seen) (c : ℕ) (x : Client) : ℕ → List Tagged → Type 0 where
    of_other : {owner : ℕ} {w : List Tagged} → owner ≢ c → IsMember start s seen owner w → Kept start s seen c x owner w
    of_first : {w : List Tagged} → InFirst c w (apply_entries start (take x.revision s.log)) (drop x.revision s.log) x.phase → Kept start s seen c x c w
    of_past : (u : Seen) → In u seen → u.owner ≡ c → Kept start s seen c x u.owner u.list

  kept_member : (start : List Tagged) (s : State) (seen : List Seen) (c : ℕ) (x : Client) (owner : ℕ) (w : List Tagged) → slice_get s.clients c ≡ Some x → Kept start s seen c x owner w → IsMember start s seen owner w
  kept_member start s seen c x owner w at (of_other other member) = member
  kept_member start s seen c x owner w at (of_first on) = inl (inr (record { client = x; at = at; path = inl on }))
  kept_member start s seen c x owner w at (of_past u member own) = inr (u, member, refl, refl)

  kept_new : (start : List Tagged) (text : List ℕ) (s : State) (seen : List Seen) (c : ℕ) (x : Client) (op z : Operation Tagged) (e : List Tagged) (es : List (Operation Tagged)) (owner : ℕ) (u w : List Tagged) → IsSoundFrom start text s → IsOrdered start s seen → slice_get s.clients c ≡ Some x → Fits op x.list → ((t : Tag) → Has t (news op) → IsFresh c x t) → IsBase start s c x op z e es
      → Kept start s seen c x owner u → InPath w (apply z e) (lifted z es) → IsConsistent u w
  kept_new start text s seen c x op z e es owner u w sound ordered at fits fresh base (of_other other member) on =
      new_apart start s seen c x op z e es owner u w ordered base member (λ t h k. apart_other start text s seen c x owner u t sound ordered at other member h (base.inserted t k)) on
  kept_new start text s seen c x op z e es owner u w sound ordered at fits fresh base (of_first first) on =
      new_apart start s seen c x op z e es c u w ordered base (inl (inr (record { client = x; at = at; path = inl first }))) (λ t h k. apart_first start text s seen c x u t sound ordered at first h (base.inserted t k)) on
  kept_new start text s seen c x op z e es owner u w sound ordered at fits fresh base (of_past v member own) on =
      new_past start text s seen c x op z e es v w sound ordered at fits fresh base member own on

  -- the members after an edit
  edited_member : (start : List Tagged) (text : List ℕ) (s : State) (seen : List Seen) (c : ℕ) (x : Client) (op : Operation Tagged) (path : IsEditPath start s c x x.phase op) (a : ℕ) (u : List Tagged) → IsSoundFrom start text s → slice_get s.clients c ≡ Some x
      → IsMember start (with_client s c (edited x op)) (record { owner = c; level = x.revision; list = apply op x.list } ∷ seen) a u
      → ((k : ℕ) × Kept start s seen c x k u) ⊎ InPath u (apply path.z path.e) (lifted path.z path.es)
  edited_member start text s seen c x op path a u sound at (inl (inl server)) =
      let inside : c < length s.clients = slice_get_within s.clients c x at in
      let few = sound.few in
      inl (65535, of_other (omega arith) (inl (inl (refl, server.1))))
  edited_member start text s seen c x op path a u sound at (inl (inr vertex)) =
      let y = edited x op in
      elim (cases_eq a c) [
        | inl same_owner ↦
            let e : y ≡ vertex.client = same_Some y vertex.client (sym (slice_get-set_same s.clients c x y at) ∙ ap (λ (n : ℕ). slice_get (set s.clients c y) n) (sym same_owner) ∙ vertex.at) in
            let here = subst (λ (n : ℕ). InFirst n u (apply_entries start (take vertex.client.revision s.log)) (drop vertex.client.revision s.log) vertex.client.phase ⊎ InSecond n u (apply_entries start (take vertex.client.revision s.log)) (drop vertex.client.revision s.log) vertex.client.phase) same_owner vertex.path in
            let mine = subst (λ (z : Client). InFirst c u (apply_entries start (take z.revision s.log)) (drop z.revision s.log) z.phase ⊎ InSecond c u (apply_entries start (take z.revision s.log)) (drop z.revision s.log) z.phase) (sym e) here in
            elim mine [
              | inl first ↦ elim (path.first u first) [ inl old ↦ inl (c, of_first old) | inr new ↦ inr new ]
              | inr second ↦ inr (path.second u second)
            ]
        | inr other ↦ inl (a, of_other other (inl (inr (record { client = vertex.client; at = sym (slice_get-set_other s.clients c a y other) ∙ vertex.at; path = vertex.path }))))
      ]
  edited_member start text s seen c x op path a u sound at (inr past) = elim past.1 [
    | inl is ↦
        let e : apply op x.list ≡ u = ap (λ (v : Seen). v.list) is ∙ past.3 in
        inr (subst (λ (l : List Tagged). InPath l (apply path.z path.e) (lifted path.z path.es)) (path.base.top ∙ e) (InPath_first (apply path.z path.e) (lifted path.z path.es)))
    | inr old ↦ elim (cases_eq (past.0).owner c) [
      | inl own ↦ inl ((past.0).owner, subst (λ (l : List Tagged). Kept start s seen c x (past.0).owner l) past.3 (of_past past.0 old own))
      | inr other ↦ inl ((past.0).owner, of_other other (inr (past.0, old, refl, past.3)))
    ]
  ]

  -- all lists have one order after an edit, where those of its own path have
  pub edited_consistent : (start : List Tagged) (text : List ℕ) (s : State) (seen : List Seen) (c : ℕ) (x : Client) (op : Operation Tagged) (path : IsEditPath start s c x x.phase op) → IsSoundFrom start text s → slice_get s.clients c ≡ Some x → Fits op x.list → ((t : Tag) → Has t (news op) → IsFresh c x t) → IsOrdered start s seen
      → ((u w : List Tagged) → InPath u (apply path.z path.e) (lifted path.z path.es) → InPath w (apply path.z path.e) (lifted path.z path.es) → IsConsistent u w)
      → (a b : ℕ) (u v : List Tagged)
      → IsMember start (with_client s c (edited x op)) (record { owner = c; level = x.revision; list = apply op x.list } ∷ seen) a u
      → IsMember start (with_client s c (edited x op)) (record { owner = c; level = x.revision; list = apply op x.list } ∷ seen) b v
      → IsConsistent u v
  edited_consistent start text s seen c x op path sound at fits fresh ordered self a b u v on_u on_v =
      elim (edited_member start text s seen c x op path a u sound at on_u) [
        | inl kept_u ↦ elim (edited_member start text s seen c x op path b v sound at on_v) [
          | inl kept_v ↦ ordered.consistent kept_u.0 kept_v.0 u v (kept_member start s seen c x kept_u.0 u at kept_u.1) (kept_member start s seen c x kept_v.0 v at kept_v.1)
          | inr new_v ↦ kept_new start text s seen c x op path.z path.e path.es kept_u.0 u v sound ordered at fits fresh path.base kept_u.1 new_v
        ]
        | inr new_u ↦ elim (edited_member start text s seen c x op path b v sound at on_v) [
          | inl kept_v ↦ IsConsistent_sym v u (kept_new start text s seen c x op path.z path.e path.es kept_v.0 v u sound ordered at fits fresh path.base kept_v.1 new_u)
          | inr new_v ↦ self u v new_u new_v
        ]
      ]
