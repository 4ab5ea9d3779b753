-- What each list holds, row by row.
use Rattle.std.proofs.Common.{◌≡◌, ℕ, zero, suc, ◌+◌, ◌<◌, ◌≤◌, ◌≢◌, List, [], ◌∷◌, length, take, drop, get_or, sym, ap, ◌∙◌, subst, arith, inl, inr, Some, add-zero}
use Rattle.std.proofs.lemmas.Bool.{cases_eq}
use Rattle.std.proofs.lemmas.Option.{slice_get_within}
use Rattle.std.specs.Prelude.{slice_get}
use Rattle.ot_model.specs.Operation.{Operation, apply, news, first_after}
use Rattle.ot_isa.specs.declared.elements.Tag.{Tag}
use Rattle.ot_isa.specs.declared.elements.Tagged.{Tagged}
use Rattle.ot_model.specs.Table.{Client, State, Entry}
use Rattle.ot_server.specs.History.{transform_over}
use Rattle.ot_model.specs.Sound.{Fits, apply_entries, FitAll, NoneBy, times}
use Rattle.ot_model.proofs.Algebra.{AlgebraLaws}
use Rattle.ot_model.proofs.Vertices.{operations}
use Rattle.ot_model.specs.Trace.{EventView}
use Rattle.ot_model.specs.Events.{Count, Ledger, tags}
use Rattle.ot_model.proofs.Traces.{edits_of, Inserts}
use Rattle.ot_model.proofs.Knowledge.{logged, with_own, IsInserted, IsDeleted, Holds, IsMerge, Joins, KeepsBoth, made_by, sent_by, IsCounted, IsVisible, IsContent}
use Rattle.ot_model.proofs.States.{take_entry}
use Rattle.ot_model.proofs.Clients.{apply_entries_push}
use Rattle.ot_model.proofs.Keeping.{apply_times}
use Rattle.ot_model.proofs.Tags.{Has_times}
use Rattle.ot_model.proofs.Once.{times_new, times_new-cons}
use Rattle.ot_model.proofs.Counting.{with_own_same, with_own_other, logged_most, logged_other}
use Rattle.ot_model.proofs.Merging.{merge_apply, inserted_more, Holds_as, square}

-- knowledge that is closed under what its edits saw
abbrev pub IsClosed : List EventView → (ℕ → ℕ) → Type 0
IsClosed trace f = (r k q : ℕ) (d : EventView) → k < f r → slice_get (edits_of r trace) k ≡ Some d → get_or d.seen q 0 ≤ f q

pub joins_log : (entries : List Count) (c own j : ℕ) → ((q : ℕ) → logged entries j q ≤ logged entries (suc j) q) → logged entries (suc j) c ≡ logged entries j c → logged entries j c ≤ own
    → Joins (logged entries j) (with_own c own (logged entries j)) (logged entries (suc j)) (with_own c own (logged entries (suc j)))
joins_log entries c own j rising same le q = elim (cases_eq q c) [
  | inl is ↦ inr (
    ap (logged entries (suc j)) is ∙ same ∙ ap (logged entries j) (sym is),
    ap (with_own c own (logged entries (suc j))) is ∙ with_own_same c own (logged entries (suc j)) ∙ sym (with_own_same c own (logged entries j)) ∙ ap (with_own c own (logged entries j)) (sym is),
    let a = with_own_same c own (logged entries j) in subst (λ (k : ℕ). logged entries j k ≤ with_own c own (logged entries j) k) (sym is) (omega arith),
  )
  | inr other ↦ inl (with_own_other c own q (logged entries j) other, with_own_other c own q (logged entries (suc j)) other, rising q)
]

pub joins_own : (f g : ℕ → ℕ) (c own more : ℕ) → ((q : ℕ) → f q ≤ g q) → own ≤ more → Joins (with_own c own f) (with_own c more f) (with_own c own g) (with_own c more g)
joins_own f g c own more le up q = elim (cases_eq q c) [
  | inl is ↦ inr (
    ap (with_own c own g) is ∙ with_own_same c own g ∙ sym (with_own_same c own f) ∙ ap (with_own c own f) (sym is),
    ap (with_own c more g) is ∙ with_own_same c more g ∙ sym (with_own_same c more f) ∙ ap (with_own c more f) (sym is),
    let a = with_own_same c own f in let b = with_own_same c more f in subst (λ (k : ℕ). with_own c own f k ≤ with_own c more f k) (sym is) (omega arith),
  )
  | inr other ↦
      let a = with_own_other c own q f other in
      let b = with_own_other c more q f other in
      let d = with_own_other c own q g other in
      let e = with_own_other c more q g other in
      let up = le q in
      inl (b ∙ sym a, e ∙ sym d, omega arith)
]

-- the entry with which the rest begins
pub entry_drop : {X : Type 0} (xs : List X) (j : ℕ) (x : X) (ys : List X) → drop j xs ≡ x ∷ ys → (slice_get xs j ≡ Some x) × (drop (suc j) xs ≡ ys)
entry_drop [] zero x ys e = absurd (cc)
entry_drop [] (suc j) x ys e = absurd (cc)
entry_drop (z ∷ xs) zero x ys e = (cc, cc)
entry_drop (z ∷ xs) (suc j) x ys e = entry_drop xs j x ys e

module _ (start : List Tagged) (trace : List EventView) (past : List EventView) (n : ℕ) (s : State) (l : Ledger) (told : IsCounted past s l) (seen : IsVisible trace n s l) (content : IsContent start trace s l) where
  -- whoever knows a deletion knows what it deleted
  pub causal_of : (f : ℕ → ℕ) → ((q : ℕ) → f q ≤ made_by l q) → IsClosed trace f → (t : Tag) → IsDeleted trace f t → IsInserted (tags start) trace f t
  causal_of f few closed t (r, k, below, (d, at, gone)) =
      let le = few r in
      inserted_more (tags start) trace (λ q. get_or d.seen q 0) f t (λ q. closed r k q d below at) (content.causal r k d t (omega arith) at gone)

  pub origin_of : (f : ℕ → ℕ) → ((q : ℕ) → f q ≤ made_by l q) → (r k : ℕ) (t : Tag) → k < f r → Inserts trace r k t → t.origin ≡ r
  origin_of f few r k t below by = let le = few r in (content.own r k t (omega arith) by).origin

  pub logged_few : (j q : ℕ) → logged l.entries j q ≤ made_by l q
  logged_few j q = let a = logged_most past s l told j q in let b = told.sent q in omega arith

  pub own_few : (c own j q : ℕ) → own ≤ made_by l c → with_own c own (logged l.entries j) q ≤ made_by l q
  own_few c own j q le = elim (cases_eq q c) [
    | inl same ↦ let a = with_own_same c own (logged l.entries j) in subst (λ (k : ℕ). with_own c own (logged l.entries j) k ≤ made_by l k) (sym same) (omega arith)
    | inr other ↦ let a = with_own_other c own q (logged l.entries j) other in let b = logged_few j q in omega arith
  ]

  pub logged_closed : (j : ℕ) → IsClosed trace (logged l.entries j)
  logged_closed j r k q d below at = seen.log j r k q d below at

  pub own_closed : (c own j : ℕ) (x : Client) → slice_get s.clients c ≡ Some x → x.revision ≤ j → sent_by l c ≤ own → own ≤ made_by l c → IsClosed trace (with_own c own (logged l.entries j))
  own_closed c own j x at far low high r k q d below edit = elim (cases_eq r c) [
    | inl mine ↦
        let a = with_own_same c own (logged l.entries j) in
        let b : k < with_own c own (logged l.entries j) c = subst (λ (i : ℕ). k < with_own c own (logged l.entries j) i) mine below in
        let known = seen.own c k x d at (omega arith) (ap (λ (i : ℕ). slice_get (edits_of i trace) k) (sym mine) ∙ edit) in
        elim (cases_eq q c) [
          | inl self ↦
              let e = known.0 in
              subst (λ (i : ℕ). get_or d.seen i 0 ≤ with_own c own (logged l.entries j) i) (sym self) (omega arith)
          | inr other ↦
              let e = known.1 q other in
              let f = with_own_other c own q (logged l.entries j) other in
              let up = told.rising q x.revision j far in
              omega arith
        ]
    | inr away ↦
        let a = with_own_other c own r (logged l.entries j) away in
        let e = seen.log j r k q d (omega arith) edit in
        elim (cases_eq q c) [
          | inl self ↦
              let most = logged_most past s l told j q in
              let sent = told.sent q in
              let f = with_own_same c own (logged l.entries j) in
              let g = ap (λ (i : ℕ). sent_by l i) self in
              let h = ap (λ (i : ℕ). with_own c own (logged l.entries j) i) self in
              omega arith
          | inr other ↦ let f = with_own_other c own q (logged l.entries j) other in omega arith
        ]
  ]

  module _ (laws : AlgebraLaws) (keeps_both : KeepsBoth) where
    open laws use {first_fits, second_fits, same, first_news, second_news}

    -- another's entry comes past what a client has pending
    pub past_entry : (c own j : ℕ) (x : Client) (h : Entry) (d v w : List Tagged) → slice_get s.clients c ≡ Some x → x.revision ≤ j → sent_by l c ≤ own → own ≤ made_by l c → slice_get s.log j ≡ Some h → h.maker ≢ c
        → Holds (tags start) trace (logged l.entries j) d → Holds (tags start) trace (with_own c own (logged l.entries j)) v → Holds (tags start) trace (logged l.entries (suc j)) (apply h.op d) → IsMerge d v (apply h.op d) w
        → Holds (tags start) trace (with_own c own (logged l.entries (suc j))) w
    past_entry c own j x h d v w at far low high head other base mine theirs merge =
        let most = logged_most past s l told j c in
        let sent = told.sent c in
        square (tags start) trace (logged l.entries j) (with_own c own (logged l.entries j)) (logged l.entries (suc j)) (with_own c own (logged l.entries (suc j)))
        (joins_log l.entries c own j (λ q. told.rising q j (suc j) (omega arith)) (logged_other past s l told j c h head other) (omega arith))
        (origin_of (with_own c own (logged l.entries (suc j))) (λ q. own_few c own (suc j) q high))
        d v (apply h.op d) w
        (causal_of (with_own c own (logged l.entries j)) (λ q. own_few c own j q high) (own_closed c own j x at far low high))
        (causal_of (logged l.entries (suc j)) (logged_few (suc j)) (logged_closed (suc j)))
        base mine theirs merge

    pub document_next : (j : ℕ) (h : Entry) → slice_get s.log j ≡ Some h → Holds (tags start) trace (logged l.entries (suc j)) (apply h.op (apply_entries start (take j s.log)))
    document_next j h head =
        let within = slice_get_within s.log j h head in
        subst (λ (d : List Tagged). Holds (tags start) trace (logged l.entries (suc j)) d) (ap (apply_entries start) (take_entry s.log j h head) ∙ apply_entries_push start (take j s.log) h) (content.documents (suc j) (omega arith))

    pub document_now : (j : ℕ) (h : Entry) → slice_get s.log j ≡ Some h → Holds (tags start) trace (logged l.entries j) (apply_entries start (take j s.log))
    document_now j h head = let within = slice_get_within s.log j h head in content.documents j (omega arith)

    -- a client's operation, transformed to the log's end
    pub carried_holds : (c own j : ℕ) (x : Client) (o : Operation Tagged) (ahead : List Entry) → slice_get s.clients c ≡ Some x → x.revision ≤ j → sent_by l c ≤ own → own ≤ made_by l c → drop j s.log ≡ ahead
        → FitAll (apply_entries start (take j s.log)) ahead → Fits o (apply_entries start (take j s.log)) → NoneBy c ahead → ((t : Tag) → times t (apply_entries start (take j s.log)) + (times t (news o) + times_new t (operations ahead)) ≤ 1)
        → Holds (tags start) trace (with_own c own (logged l.entries j)) (apply o (apply_entries start (take j s.log)))
        → Holds (tags start) trace (with_own c own (logged l.entries (j + length ahead))) (apply (transform_over o ahead) (apply_entries (apply_entries start (take j s.log)) ahead))
    carried_holds c own j x o [] at far low high rest all fits none once holds =
        Holds_as (tags start) trace (with_own c own (logged l.entries j)) (with_own c own (logged l.entries (j + 0))) _ (λ q. ap (λ (k : ℕ). with_own c own (logged l.entries k) q) (sym (add-zero j))) holds
    carried_holds c own j x o (h ∷ ahead) at far low high rest all fits none once holds =
        let parts = entry_drop s.log j h ahead rest in
        let d = apply_entries start (take j s.log) in
        let doc : apply_entries start (take (suc j) s.log) ≡ apply h.op d = ap (apply_entries start) (take_entry s.log j h parts.0) ∙ apply_entries_push start (take j s.log) h in
        let o' = first_after o h.op in
        let o'_news = first_news o h.op fits.rising all.0.rising (fits.base ∙ sym all.0.base) in
        let merge = merge_apply laws keeps_both o h.op d fits all.0 (λ t. let most = once t in omega arith)
        (λ t k m. let a = Has_times t d k in let b = Has_times t (news o) m in let most = once t in absurd (omega arith))
        (λ t k m. let a = Has_times t d k in let b = Has_times t (news h.op) m in let most = once t in let sum = times_new-cons t h.op (operations ahead) in absurd (omega arith)) in
        let next = past_entry c own j x h d (apply o d) (apply o' (apply h.op d)) at far low high parts.0 none.0 (document_now j h parts.0) holds (document_next j h parts.0) merge in
        let on = carried_holds c own (suc j) x o' ahead at (omega arith) low high parts.1 (rw doc all.1) (rw doc (first_fits o h.op d fits all.0)) none.1
        (λ t.
        let most = once t in
        let sum = times_new-cons t h.op (operations ahead) in
        let grows = apply_times h.op d t all.0 in
        let e = ap (times t) o'_news in
        let f = ap (times t) doc in
        omega arith)
        (rw doc next) in
        let far_on : suc j + length ahead ≡ j + suc (length ahead) = omega arith in
        Holds_as (tags start) trace (with_own c own (logged l.entries (suc j + length ahead))) (with_own c own (logged l.entries (j + suc (length ahead)))) _ (λ q. ap (λ (k : ℕ). with_own c own (logged l.entries k) q) far_on) (rw doc at on)
