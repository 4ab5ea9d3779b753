-- What lists hold after an edit.
use Rattle.std.proofs.Common.{◌≡◌, ℕ, zero, suc, ◌-◌, ◌<◌, ◌≤◌, List, [], length, take, drop, set, get_or, map, filter, refl, sym, ap, ◌∙◌, subst, arith, inl, inr, Some, true}
use Rattle.std.proofs.lemmas.List.{get_or-set_same, get_or-set_other}
use Rattle.std.proofs.lemmas.Bool.{cases_eq, cases_lt}
use Rattle.std.proofs.lemmas.Option.{slice_get_within, same_Some}
use Rattle.std.specs.Prelude.{◌⊎◌, slice_get, not, replicate}
use Rattle.ot_model.specs.Operation.{Operation, apply, news}
use Rattle.ot_isa.specs.declared.elements.Tag.{Tag}
use Rattle.ot_isa.specs.declared.elements.Tagged.{Tagged}
use Rattle.ot_model.specs.Table.{Phase, NotJoined, Synchronized, AwaitingConfirm, AwaitingWithBuffer, is_joined, Client, State, Entry, phase_edited, edited, with_client, tag_operation, start_list, opening}
use Rattle.ot_model.specs.Sound.{Fits, apply_entries, IsPhaseSound, IsSoundFrom}
use Rattle.ot_model.proofs.Vertices.{Has}
use Rattle.ot_model.specs.Trace.{EventView, contains}
use Rattle.ot_model.specs.Events.{Ledger, tags, in_buffer, insertions_from}
use Rattle.ot_model.proofs.Traces.{edits_of, In, Inserts, Deletes}
use Rattle.ot_model.proofs.Knowledge.{logged, with_own, IsInserted, Holds, made_by, sent_by, IsCounted, sees, IsVisible, HoldsFirst, IsContent}
use Rattle.ot_model.proofs.States.{each_after, slice_get-set_same}
use Rattle.ot_model.proofs.Steps.{each_opening}
use Rattle.ot_model.proofs.Keeping.{from}
use Rattle.ot_model.proofs.Tags.{Has_start}
use Rattle.ot_model.proofs.Counting.{with_own_same, with_own_other, ledger_edited, made_edited}
use Rattle.ot_model.proofs.Merging.{has_or, has_news, inserted_more}
use Rattle.ot_model.proofs.Bridging.{In_has, Has_in, gone_not, not_gone, inserts_in, in_inserts, own_tags}
use Rattle.ot_model.proofs.Holding.{causal_of, own_few, own_closed}
use Rattle.ot_model.proofs.Delivering.{own_tag_after}

last_or : (p n : ℕ) → p < suc n → (p < n) ⊎ (p ≡ n)
last_or p n below = elim (cases_lt p n) [ inl low ↦ inl low | inr high ↦ inr (omega arith) ]

module _ (start : List Tagged) (text : List ℕ) (trace : List EventView) (past : List EventView) (n : ℕ) (s : State) (l : Ledger) (sound : IsSoundFrom start text s) (told : IsCounted past s l) (seen : IsVisible trace n s l) (content : IsContent start trace s l) (c : ℕ) (x : Client) (op : Operation ℕ) (e : EventView)
    (at : slice_get s.clients c ≡ Some x) (fits : Fits (tag_operation c x.count op) x.list) (sees_is : (q : ℕ) → get_or e.seen q 0 ≡ sees l c x q) (inserts_is : e.inserted ≡ insertions_from 0 (tag_operation c x.count op).image)
    (deletes_is : e.deleted ≡ filter (λ t. not (contains (tags (apply (tag_operation c x.count op) x.list)) t)) (tags x.list)) (edit_here : slice_get (edits_of c trace) (made_by l c) ≡ Some e) (on : is_joined x.phase ≡ true) where
  -- what this edit inserts and deletes
  inserted_here : (t : Tag) → Inserts trace c (made_by l c) t → Has t (news (tag_operation c x.count op))
  inserted_here t (d, is, by) =
      let same : d ≡ e = same_Some d e (sym is ∙ edit_here) in
      inserts_in t 0 (tag_operation c x.count op).image (subst (λ w. In t (map (λ i. i.tag) w)) (ap (λ (f : EventView). f.inserted) same ∙ inserts_is) by)

  here_inserted : (t : Tag) → Has t (news (tag_operation c x.count op)) → Inserts trace c (made_by l c) t
  here_inserted t h = (e, edit_here, subst (λ w. In t (map (λ i. i.tag) w)) (sym inserts_is) (in_inserts t 0 (tag_operation c x.count op).image h))

  deleted_here : (t : Tag) → Deletes trace c (made_by l c) t → Has t x.list × (Has t (apply (tag_operation c x.count op) x.list) → ⊥)
  deleted_here t (d, is, by) =
      let same : d ≡ e = same_Some d e (sym is ∙ edit_here) in
      gone_not t x.list (apply (tag_operation c x.count op) x.list) (subst (In t) (ap (λ (f : EventView). f.deleted) same ∙ deletes_is) by)

  here_deleted : (t : Tag) → Has t x.list → (Has t (apply (tag_operation c x.count op) x.list) → ⊥) → Deletes trace c (made_by l c) t
  here_deleted t h none = (e, edit_here, subst (In t) (sym deletes_is) (not_gone t x.list (apply (tag_operation c x.count op) x.list) h none))

  -- the client sees one edit more
  pub sees_next : (q : ℕ) → sees l c x q ≤ with_own c (suc (made_by l c)) (logged l.entries x.revision) q
  sees_next q = elim (cases_eq q c) [
    | inl same ↦
        let a = with_own_same c (made_by l c) (logged l.entries x.revision) in
        let b = with_own_same c (suc (made_by l c)) (logged l.entries x.revision) in
        subst (λ (k : ℕ). sees l c x k ≤ with_own c (suc (made_by l c)) (logged l.entries x.revision) k) (sym same) (omega arith)
    | inr other ↦
        let a = with_own_other c (made_by l c) q (logged l.entries x.revision) other in
        let b = with_own_other c (suc (made_by l c)) q (logged l.entries x.revision) other in
        omega arith
  ]

  pub seen_or_here : (r k : ℕ) → k < with_own c (suc (made_by l c)) (logged l.entries x.revision) r → (k < sees l c x r) ⊎ ((r ≡ c) × (k ≡ made_by l c))
  seen_or_here r k below = elim (cases_eq r c) [
    | inl same ↦
        let a : with_own c (made_by l c) (logged l.entries x.revision) r ≡ made_by l c = ap (with_own c (made_by l c) (logged l.entries x.revision)) same ∙ with_own_same c (made_by l c) (logged l.entries x.revision) in
        let b : with_own c (suc (made_by l c)) (logged l.entries x.revision) r ≡ suc (made_by l c) = ap (with_own c (suc (made_by l c)) (logged l.entries x.revision)) same ∙ with_own_same c (suc (made_by l c)) (logged l.entries x.revision) in
        elim (last_or k (made_by l c) (omega arith)) [ inl low ↦ inl (omega arith) | inr now ↦ inr (same, now) ]
    | inr other ↦
        let a = with_own_other c (made_by l c) r (logged l.entries x.revision) other in
        let b = with_own_other c (suc (made_by l c)) r (logged l.entries x.revision) other in
        inl (omega arith)
  ]

  -- nothing that was known before is new
  fresh : (t : Tag) → IsInserted (tags start) trace (sees l c x) t → Has t (news (tag_operation c x.count op)) → ⊥
  fresh t (inl first) new =
      let own = own_tags t c x.count op.image new in
      let origin = own.0 in
      let far = Has_start t 0 text (subst (λ (w : List Tagged). Has t w) sound.tagged (In_has t start first)) in
      let inside = slice_get_within s.clients c x at in
      let few = sound.few in
      absurd (omega arith)
  fresh t (inr (r, k, below, by)) new =
      let own = own_tags t c x.count op.image new in
      let le = own_few start trace past n s l told seen content c (made_by l c) x.revision r (omega arith) in
      let maker = content.own r k t (omega arith) by in
      let same : r ≡ c = sym maker.origin ∙ own.0 in
      let is : maker.client ≡ x = same_Some maker.client x (sym maker.at ∙ ap (λ (i : ℕ). slice_get s.clients i) same ∙ at) in
      let count = ap (λ (z : Client). z.count) is in
      let low = maker.serial in
      let high = own.1 in
      absurd (omega arith)

  pub edited_holds : Holds (tags start) trace (with_own c (suc (made_by l c)) (logged l.entries x.revision)) (apply (tag_operation c x.count op) x.list)
  edited_holds =
      let z = tag_operation c x.count op in
      let f = sees l c x in
      let g = with_own c (suc (made_by l c)) (logged l.entries x.revision) in
      let was = content.lists c x at on in
      let one_more : made_by l c < g c = let b = with_own_same c (suc (made_by l c)) (logged l.entries x.revision) in omega arith in
      record {
        inserted = λ t h. elim (from z x.list t fits h) [
          | inl old ↦ inserted_more (tags start) trace f g t sees_next (was.inserted t old)
          | inr new ↦ inr (c, made_by l c, one_more, here_inserted t new)
        ];
        kept = λ t h goes. elim (seen_or_here goes.0 goes.1 goes.2) [
          | inl early ↦ elim (from z x.list t fits h) [
            | inl old ↦ was.kept t old (goes.0, goes.1, early, goes.3)
            | inr new ↦
                fresh t (causal_of start trace past n s l told seen content f (λ q. own_few start trace past n s l told seen content c (made_by l c) x.revision q (omega arith)) (own_closed start trace past n s l told seen content c (made_by l c) x.revision x at (omega arith) (omega arith) (omega arith)) t (goes.0, goes.1, early, goes.3)) new
          ]
          | inr now ↦ (deleted_here t (subst (λ (k : ℕ). Deletes trace c k t) now.1 (subst (λ (r : ℕ). Deletes trace r goes.1 t) now.0 goes.3))).1 h
        ];
        here = λ t known stays. elim (has_or t (apply z x.list)) [
          | inl there ↦ there
          | inr none ↦
              let old : IsInserted (tags start) trace f t → ⊥ = λ early.
              stays (c, made_by l c, one_more, here_deleted t (was.here t early (λ goes. let up = sees_next goes.0 in stays (goes.0, goes.1, (let b = goes.2 in omega arith), goes.3))) none) in
              elim known [
                | inl first ↦ absurd (old (inl first))
                | inr by ↦ elim (seen_or_here by.0 by.1 by.2) [
                  | inl early ↦ absurd (old (inr (by.0, by.1, early, by.3)))
                  | inr now ↦ has_news z x.list t (inserted_here t (subst (λ (k : ℕ). Inserts trace c k t) now.1 (subst (λ (r : ℕ). Inserts trace r by.1 t) now.0 by.3)))
                ]
              ]
        ];
      }

  first_edited : (phase : Phase) → x.phase ≡ phase → IsPhaseSound c phase start (take x.revision s.log) (drop x.revision s.log) x.list x.message → (k : ℕ) → k ≡ suc (made_by l c) - in_buffer phase (get_or l.buffered c 0)
      → HoldsFirst start trace (with_own c k (logged l.entries x.revision)) (apply_entries start (take x.revision s.log)) (phase_edited phase (tag_operation c x.count op))
  first_edited NotJoined is now k count = tt
  first_edited Synchronized is now k count = tt
  first_edited (AwaitingConfirm o) is now k count =
      let e : made_by l c ≡ k = omega arith in
      subst (λ (i : ℕ). Holds (tags start) trace (with_own c i (logged l.entries x.revision)) (apply o (apply_entries start (take x.revision s.log)))) e
      (subst (λ (w : List Tagged). Holds (tags start) trace (sees l c x) w) now.list_is (content.lists c x at on))
  first_edited (AwaitingWithBuffer o b) is now k count =
      let e : sent_by l c ≡ k = omega arith in
      subst (λ (i : ℕ). Holds (tags start) trace (with_own c i (logged l.entries x.revision)) (apply o (apply_entries start (take x.revision s.log)))) e
      (subst (λ (q : Phase). HoldsFirst start trace (with_own c (sent_by l c) (logged l.entries x.revision)) (apply_entries start (take x.revision s.log)) q) is (content.firsts c x at))

  pub content_edited : IsContent start trace (with_client s c (edited x (tag_operation c x.count op))) (ledger_edited l c x)
  content_edited =
      let z = tag_operation c x.count op in
      let y = edited x z in
      let m = ledger_edited l c x in
      let t' = with_client s c y in
      let makes = made_edited past s l c x told at in
      let inside = slice_get_within s.clients c x at in
      let size = told.buffered_size in
      let n_in = get_or l.buffered c 0 in
      let below : c < length l.buffered = omega arith in
      let buffered : get_or m.buffered c 0 ≡ in_buffer x.phase n_in = get_or-set_same l.buffered c (in_buffer x.phase n_in) 0 below in
      let low : (r k : ℕ) → k < made_by m r → (k < made_by l r) ⊎ ((r ≡ c) × (k ≡ made_by l c)) = λ r k h. elim (cases_eq r c) [
        | inl same ↦
            let a = ap (made_by m) same ∙ makes.0 in
            let b = ap (made_by l) same in
            elim (last_or k (made_by l c) (omega arith)) [ inl old ↦ inl (omega arith) | inr now ↦ inr (same, now) ]
        | inr other ↦ let a = makes.1 r other in inl (omega arith)
      ] in
      record {
        own = λ r k t h by. elim (low r k h) [
          | inl old ↦ own_tag_after s t' c x y r t at refl (omega arith) (content.own r k t old by)
          | inr now ↦
              let new = inserted_here t (subst (λ (i : ℕ). Inserts trace c i t) now.1 (subst (λ (q : ℕ). Inserts trace q k t) now.0 by)) in
              let tag = own_tags t c x.count op.image new in
              record { client = y; at = ap (λ (i : ℕ). slice_get (set s.clients c y) i) now.0 ∙ slice_get-set_same s.clients c x y at; origin = tag.0 ∙ sym now.0; serial = tag.2 }
        ];
        causal = λ r k d t h there gone. elim (low r k h) [
          | inl old ↦ content.causal r k d t old there gone
          | inr now ↦
              let here : slice_get (edits_of c trace) (made_by l c) ≡ Some d = subst (λ (i : ℕ). slice_get (edits_of c trace) i ≡ Some d) now.1 (subst (λ (q : ℕ). slice_get (edits_of q trace) k ≡ Some d) now.0 there) in
              let same : d ≡ e = same_Some d e (sym here ∙ edit_here) in
              let known = (content.lists c x at on).inserted t (deleted_here t (d, here, gone)).0 in
              inserted_more (tags start) trace (sees l c x) (λ q. get_or d.seen q 0) t (λ q. let a = sees_is q in let b = ap (λ (f : EventView). get_or f.seen q 0) same in omega arith) known
        ];
        documents = content.documents;
        lists = each_after (λ i w. is_joined w.phase ≡ true → Holds (tags start) trace (sees l i w) w.list) (λ i w. is_joined w.phase ≡ true → Holds (tags start) trace (sees m i w) w.list) s.clients c x y at content.lists
            (λ now. subst (λ (k : ℕ). Holds (tags start) trace (with_own c k (logged l.entries x.revision)) (apply z x.list)) (sym makes.0) edited_holds)
            (λ i w away h now. subst (λ (k : ℕ). Holds (tags start) trace (with_own i k (logged l.entries w.revision)) w.list) (sym (makes.1 i away)) (h now));
        firsts = each_after
            (λ i w. HoldsFirst start trace (with_own i (sent_by l i) (logged l.entries w.revision)) (apply_entries start (take w.revision s.log)) w.phase)
            (λ i w. HoldsFirst start trace (with_own i (sent_by m i) (logged l.entries w.revision)) (apply_entries start (take w.revision s.log)) w.phase)
            s.clients c x y at content.firsts
            (first_edited x.phase refl (sound.clients c x at) (sent_by m c) (let a = makes.0 in omega arith))
            (λ i w away h.
            let a = makes.1 i away in
            let b = get_or-set_other l.buffered c i (in_buffer x.phase n_in) 0 away in
            let e_sent : sent_by l i ≡ sent_by m i = omega arith in
            subst (λ (k : ℕ). HoldsFirst start trace (with_own i k (logged l.entries w.revision)) (apply_entries start (take w.revision s.log)) w.phase) e_sent h);
      }

-- the opening
pub opening_content : (clients present : ℕ) (text : List ℕ) (trace : List EventView) → IsContent (start_list text) trace (opening clients present text) (record { entries = []; made = replicate clients 0; buffered = replicate clients 0 })
opening_content clients present text trace =
    let start = start_list text in
    let l : Ledger = record { entries = []; made = replicate clients 0; buffered = replicate clients 0 } in
    let first : (f : ℕ → ℕ) → ((q : ℕ) → f q ≡ 0) → Holds (tags start) trace f start = λ f zero_at.
    record {
      inserted = λ t h. inl (Has_in t start h);
      kept = λ t h goes. absurd (let z = zero_at goes.0 in let b = goes.2 in omega arith);
      here = λ t known stays. elim known [ inl there ↦ In_has t start there | inr by ↦ absurd (let z = zero_at by.0 in let b = by.2 in omega arith) ];
    } in
    let none : (j q : ℕ) → logged [] j q ≡ 0 = λ j q. logged_nil j q in
    record {
      own = λ r k t below by. absurd (let z = zeros clients r in omega arith);
      causal = λ r k d t below at gone. absurd (let z = zeros clients r in omega arith);
      documents = λ j le. subst (λ (w : List Tagged). Holds (tags start) trace (logged [] j) w) (ap (apply_entries start) (sym (nil_take j))) (first (logged [] j) (none j));
      lists = each_opening (λ c w. is_joined w.phase ≡ true → Holds (tags start) trace (sees l c w) w.list) clients present text (λ c now. first _ (λ q. elim (cases_eq q c) [
        | inl same ↦ ap (with_own c (made_by l c) (logged [] 0)) same ∙ with_own_same c (made_by l c) (logged [] 0) ∙ zeros clients c
        | inr other ↦ with_own_other c (made_by l c) q (logged [] 0) other ∙ none 0 q
      ])) (λ c now. absurd (cc));
      firsts = each_opening (λ c w. HoldsFirst start trace (with_own c (sent_by l c) (logged [] w.revision)) (apply_entries start (take w.revision [])) w.phase) clients present text (λ c. tt) (λ c. tt);
    }
  where
    zeros : (n r : ℕ) → ◌≡◌ {A = ℕ} (get_or (replicate n 0) r 0) 0
    zeros zero r = refl
    zeros (suc n) zero = refl
    zeros (suc n) (suc r) = zeros n r

    nil_take : (j : ℕ) → ◌≡◌ {A = List Entry} (take j []) []
    nil_take zero = refl
    nil_take (suc j) = refl

    logged_nil : (j q : ℕ) → logged [] j q ≡ 0
    logged_nil zero q = refl
    logged_nil (suc j) q = refl
