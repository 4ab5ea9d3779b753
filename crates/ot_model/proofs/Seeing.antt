-- Who sees an edit sees what that edit saw, and a replica never sees less than before.
use Rattle.std.proofs.Common.{◌≡◌, ℕ, zero, suc, ◌+◌, ◌<◌, ◌≤◌, ◌≢◌, List, [], ◌∷◌, ◌++◌, length, take, get_or, refl, sym, ap, ◌∙◌, subst, arith, inl, inr, Some, None, zero-add, length-set}
use Rattle.std.proofs.lemmas.List.{length_push}
use Rattle.std.proofs.lemmas.Bool.{cases_eq, cases_lt}
use Rattle.std.proofs.lemmas.Option.{slice_get_within, same_Some}
use Rattle.std.specs.Prelude.{◌⊎◌, slice_get, ◌==◌, if◌then◌else◌, replicate}
use Rattle.ot_model.specs.Operation.{Operation}
use Rattle.ot_isa.specs.declared.elements.Tagged.{Tagged}
use Rattle.ot_model.specs.Table.{Client, State, edited, with_client, taken, opening}
use Rattle.ot_model.specs.Trace.{EventView}
use Rattle.ot_model.specs.Events.{Count, Ledger, counted, seen_from}
use Rattle.ot_model.proofs.Traces.{edits_of}
use Rattle.ot_model.proofs.Knowledge.{logged, with_own, made_by, sent_by, IsCounted, sees, IsVisible}
use Rattle.ot_model.proofs.States.{each_after}
use Rattle.ot_model.proofs.Counting.{counted_push_own, counted_push_other, logged_low, logged_high, with_own_same, with_own_other, get_or_past, logged_most, ledger_edited, made_edited, ledger_taken, counted_more}

-- the counts that an event shows
seen_at : (reader own d n q : ℕ) (entries : List Count) → q < n → get_or (seen_from reader own d n entries) q 0 ≡ (if (d + q) == reader then own else counted (d + q) 0 entries)
seen_at reader own d zero q entries below = absurd (omega arith)
seen_at reader own d (suc n) zero entries below =
    let e : d ≡ d + 0 = omega arith in
    ap (λ (k : ℕ). if k == reader then own else counted k 0 entries) e
seen_at reader own d (suc n) (suc q) entries below =
    let e : suc d + q ≡ d + suc q = omega arith in
    seen_at reader own (suc d) n q entries (omega arith) ∙ ap (λ (k : ℕ). if k == reader then own else counted k 0 entries) e

seen_past : (reader own d n q : ℕ) (entries : List Count) → n ≤ q → get_or (seen_from reader own d n entries) q 0 ≡ 0
seen_past reader own d zero q entries le = refl
seen_past reader own d (suc n) zero entries le = absurd (omega arith)
seen_past reader own d (suc n) (suc q) entries le = seen_past reader own (suc d) n q entries (omega arith)

pub none_made : (past : List EventView) (s : State) (l : Ledger) (q : ℕ) → IsCounted past s l → length s.clients ≤ q → made_by l q ≡ 0
none_made past s l q told le = let size = told.made_size in get_or_past l.made q (omega arith)

pub seen_client : (past : List EventView) (s : State) (l : Ledger) (c : ℕ) (x : Client) → IsCounted past s l → slice_get s.clients c ≡ Some x
    → (q : ℕ) → get_or (seen_from c (made_by l c) 0 (suc (length s.clients)) (take x.revision l.entries)) q 0 ≡ sees l c x q
seen_client past s l c x told at q = elim (cases_lt q (suc (length s.clients))) [
  | inl below ↦
      seen_at c (made_by l c) 0 (suc (length s.clients)) q (take x.revision l.entries) below
      ∙ ap (λ (k : ℕ). if k == c then made_by l c else counted k 0 (take x.revision l.entries)) (zero-add q)
  | inr far ↦
      let inside = slice_get_within s.clients c x at in
      let other : q ≢ c = omega arith in
      let e = with_own_other c (made_by l c) q (logged l.entries x.revision) other in
      let most = logged_most past s l told x.revision q in
      let sent = told.sent q in
      let none = none_made past s l q told (omega arith) in
      seen_past c (made_by l c) 0 (suc (length s.clients)) q (take x.revision l.entries) far ∙ omega arith
]

pub seen_server : (past : List EventView) (s : State) (l : Ledger) → IsCounted past s l → (q : ℕ) → get_or (seen_from (length s.clients) 0 0 (suc (length s.clients)) l.entries) q 0 ≡ counted q 0 l.entries
seen_server past s l told q = elim (cases_lt q (suc (length s.clients))) [
  | inl below ↦
      seen_at (length s.clients) 0 0 (suc (length s.clients)) q l.entries below
      ∙ ap (λ (k : ℕ). if k == length s.clients then 0 else counted k 0 l.entries) (zero-add q)
      ∙ elim (cases_eq q (length s.clients)) [
        | inl same ↦
            let sent = told.sent q in
            let none = none_made past s l q told (omega arith) in
            ap (λ (k : ℕ). with_own k 0 (λ (j : ℕ). counted j 0 l.entries) q) (sym same) ∙ with_own_same q 0 (λ (j : ℕ). counted j 0 l.entries) ∙ omega arith
        | inr other ↦ with_own_other (length s.clients) 0 q (λ (j : ℕ). counted j 0 l.entries) other
      ]
  | inr far ↦
      let sent = told.sent q in
      let none = none_made past s l q told (omega arith) in
      seen_past (length s.clients) 0 0 (suc (length s.clients)) q l.entries far ∙ omega arith
]

-- a client that is no further back sees no less
sees_more : (l m : Ledger) (c : ℕ) (x y : Client) → made_by l c ≤ made_by m c → ((q : ℕ) → logged l.entries x.revision q ≤ logged m.entries y.revision q) → (q : ℕ) → sees l c x q ≤ sees m c y q
sees_more l m c x y made logs q = elim (cases_eq q c) [
  | inl same ↦
      let a = with_own_same c (made_by l c) (logged l.entries x.revision) in
      let b = with_own_same c (made_by m c) (logged m.entries y.revision) in
      subst (λ (k : ℕ). sees l c x k ≤ sees m c y k) (sym same) (omega arith)
  | inr other ↦
      let a = with_own_other c (made_by l c) q (logged l.entries x.revision) other in
      let b = with_own_other c (made_by m c) q (logged m.entries y.revision) other in
      let le = logs q in
      omega arith
]

abbrev VisibleOwn : List EventView → Ledger → ℕ → Client → Type 0
VisibleOwn trace l c x = (k : ℕ) (d : EventView) → k < made_by l c → slice_get (edits_of c trace) k ≡ Some d → (get_or d.seen c 0 ≡ k) × ((q : ℕ) → q ≢ c → get_or d.seen q 0 ≤ logged l.entries x.revision q)

abbrev VisibleLater : List EventView → ℕ → Ledger → ℕ → Client → Type 0
VisibleLater trace n l c x = (p q : ℕ) (d : EventView) → p < n → slice_get trace p ≡ Some d → d.replica ≡ c → get_or d.seen q 0 ≤ sees l c x q

last_or : (p n : ℕ) → p < suc n → (p < n) ⊎ (p ≡ n)
last_or p n below = elim (cases_lt p n) [ inl low ↦ inl low | inr high ↦ inr (omega arith) ]

module _ (trace : List EventView) where
  pub opening_visible : (clients present : ℕ) (text : List ℕ) → IsVisible trace 0 (opening clients present text) (record { entries = []; made = replicate clients 0; buffered = replicate clients 0 })
  opening_visible clients present text =
      record {
        log = λ j r k q d below at. absurd (let e = logged_high [] j r (omega arith) in omega arith);
        own = λ c k x d at below edit. absurd (let e = zeros clients c in omega arith);
        later = λ c p q x d at below. absurd (omega arith);
        server = λ p q d below. absurd (omega arith);
      }
    where
      zeros : (n r : ℕ) → ◌≡◌ {A = ℕ} (get_or (replicate n 0) r 0) 0
      zeros zero r = refl
      zeros (suc n) zero = refl
      zeros (suc n) (suc r) = zeros n r

  -- Deliver, Acknowledge and Join
  pub visible_moved : (past : List EventView) (n : ℕ) (s : State) (l : Ledger) (c : ℕ) (x y : Client) (buffered : List ℕ) → IsCounted past s l → IsVisible trace n s l → slice_get s.clients c ≡ Some x → x.revision ≤ y.revision
      → IsVisible trace n (with_client s c y) (record { entries = l.entries; made = l.made; buffered = buffered })
  visible_moved past n s l c x y buffered told seen at next =
      let m : Ledger = record { entries = l.entries; made = l.made; buffered = buffered } in
      let logs : (q : ℕ) → logged l.entries x.revision q ≤ logged l.entries y.revision q = λ q. told.rising q x.revision y.revision (omega arith) in
      let own = each_after (VisibleOwn trace l) (VisibleOwn trace m) s.clients c x y at (λ d z h k e. seen.own d k z e h)
      (λ k e below edit. let was = seen.own c k x e at below edit in (was.0, λ q other. let a = was.1 q other in let b = logs q in omega arith))
      (λ d z other h. h) in
      let later = each_after (VisibleLater trace n l) (VisibleLater trace n m) s.clients c x y at (λ d z h p q e. seen.later d p q z e h)
      (λ p q e below there by. let a = seen.later c p q x e at below there by in let b = sees_more l m c x y (omega arith) logs q in omega arith)
      (λ d z other h. h) in
      record {
        log = seen.log;
        own = λ d k z e h. own d z h k e;
        later = λ d p q z e h. later d z h p q e;
        server = λ p q e below there by. seen.server p q e below there (by ∙ length-set s.clients c y);
      }

  -- an edit: e is the n-th event
  pub visible_edited : (past : List EventView) (n : ℕ) (s : State) (l : Ledger) (c : ℕ) (x : Client) (op : Operation Tagged) (e : EventView) → IsCounted past s l → IsVisible trace n s l → slice_get s.clients c ≡ Some x
      → e.replica ≡ c → ((q : ℕ) → get_or e.seen q 0 ≡ sees l c x q) → slice_get trace n ≡ Some e → slice_get (edits_of c trace) (made_by l c) ≡ Some e
      → IsVisible trace (suc n) (with_client s c (edited x op)) (ledger_edited l c x)
  visible_edited past n s l c x op e told seen at mine sees_is here edit_here =
      let y = edited x op in
      let m = ledger_edited l c x in
      let makes = made_edited past s l c x told at in
      let inside = slice_get_within s.clients c x at in
      let own = each_after (VisibleOwn trace l) (VisibleOwn trace m) s.clients c x y at (λ d z h k f. seen.own d k z f h)
      (λ k f below edit. elim (last_or k (made_by l c) (let a = makes.0 in omega arith)) [
        | inl low ↦ seen.own c k x f at low edit
        | inr now ↦
            let is : f ≡ e = same_Some f e (sym edit ∙ ap (λ (j : ℕ). slice_get (edits_of c trace) j) now ∙ edit_here) in (
              ap (λ (g : EventView). get_or g.seen c 0) is ∙ sees_is c ∙ with_own_same c (made_by l c) (logged l.entries x.revision) ∙ sym now,
              λ q other.
                  let a = ap (λ (g : EventView). get_or g.seen q 0) is in
                  let b = sees_is q in
                  let d = with_own_other c (made_by l c) q (logged l.entries x.revision) other in
                  omega arith,
            )
      ])
      (λ d z other h k f below edit. h k f (let a = makes.1 d other in omega arith) edit) in
      let later = each_after (VisibleLater trace n l) (VisibleLater trace (suc n) m) s.clients c x y at (λ d z h p q f. seen.later d p q z f h)
      (λ p q f below there by.
      let b = sees_more l m c x y (let a = makes.0 in omega arith) (λ r. omega arith) q in
      elim (last_or p n below) [
        | inl low ↦ let a = seen.later c p q x f at low there by in omega arith
        | inr now ↦
            let is : f ≡ e = same_Some f e (sym there ∙ ap (λ (j : ℕ). slice_get trace j) now ∙ here) in
            let a = ap (λ (g : EventView). get_or g.seen q 0) is in
            let d = sees_is q in
            omega arith
      ])
      (λ d z other h p q f below there by.
      let b = sees_more l m d z z (let a = makes.1 d other in omega arith) (λ r. omega arith) q in
      elim (last_or p n below) [
        | inl low ↦ let a = h p q f low there by in omega arith
        | inr now ↦
            let is : f ≡ e = same_Some f e (sym there ∙ ap (λ (j : ℕ). slice_get trace j) now ∙ here) in
            absurd (other (sym by ∙ ap (λ (g : EventView). g.replica) is ∙ mine))
      ]) in
      record {
        log = seen.log;
        own = λ d k z f h. own d z h k f;
        later = λ d p q z f h. later d z h p q f;
        server = λ p q f below there by.
            let size = by ∙ length-set s.clients c y in
            elim (last_or p n below) [
              | inl low ↦ seen.server p q f low there size
              | inr now ↦
                  let is : f ≡ e = same_Some f e (sym there ∙ ap (λ (j : ℕ). slice_get trace j) now ∙ here) in
                  let who : c ≡ length s.clients = sym mine ∙ ap (λ (g : EventView). g.replica) (sym is) ∙ size in
                  absurd (omega arith)
            ];
      }

  -- a read of a client, or of the server
  pub visible_read : (past : List EventView) (n : ℕ) (s t : State) (l : Ledger) (e : EventView) → IsCounted past s l → IsVisible trace n s l → t.clients ≡ s.clients → slice_get trace n ≡ Some e
      → ((c : ℕ) (x : Client) → slice_get s.clients c ≡ Some x → e.replica ≡ c → (q : ℕ) → get_or e.seen q 0 ≤ sees l c x q) → (e.replica ≡ length s.clients → (q : ℕ) → get_or e.seen q 0 ≤ counted q 0 l.entries)
      → IsVisible trace (suc n) t l
  visible_read past n s t l e told seen clients here of_client of_server =
      let back : (d : ℕ) (z : Client) → slice_get t.clients d ≡ Some z → slice_get s.clients d ≡ Some z = λ d z h. ap (λ (xs : List Client). slice_get xs d) (sym clients) ∙ h in
      record {
        log = seen.log;
        own = λ d k z f h. seen.own d k z f (back d z h);
        later = λ d p q z f h below there by. elim (last_or p n below) [
          | inl low ↦ seen.later d p q z f (back d z h) low there by
          | inr now ↦
              let is : f ≡ e = same_Some f e (sym there ∙ ap (λ (j : ℕ). slice_get trace j) now ∙ here) in
              let a = of_client d z (back d z h) (ap (λ (g : EventView). g.replica) (sym is) ∙ by) q in
              let b = ap (λ (g : EventView). get_or g.seen q 0) is in
              omega arith
        ];
        server = λ p q f below there by. elim (last_or p n below) [
          | inl low ↦ seen.server p q f low there (by ∙ ap length clients)
          | inr now ↦
              let is : f ≡ e = same_Some f e (sym there ∙ ap (λ (j : ℕ). slice_get trace j) now ∙ here) in
              let a = of_server (ap (λ (g : EventView). g.replica) (sym is) ∙ by ∙ ap length clients) q in
              let b = ap (λ (g : EventView). get_or g.seen q 0) is in
              omega arith
        ];
      }

  -- a take
  logged_more : (past : List EventView) (s : State) (l : Ledger) (c j q : ℕ) → IsCounted past s l → logged l.entries j q ≤ logged (ledger_taken l c).entries j q
  logged_more past s l c j q told = elim (cases_lt (length l.entries) j) [
    | inl beyond ↦
        let n : Count = record { maker = c; edits = sent_by l c } in
        let long = length_push l.entries n in
        let a = logged_high l.entries j q (omega arith) in
        let b = logged_high (l.entries ++ n ∷ []) j q (omega arith) in
        let more = counted_more past s l c q told in
        omega arith
    | inr inside ↦ let a = logged_low l.entries (record { maker = c; edits = sent_by l c }) j q inside in omega arith
  ]

  pub visible_taken : (past : List EventView) (n : ℕ) (s : State) (l : Ledger) (c : ℕ) (x : Client) (op : Operation Tagged) → IsCounted past s l → IsVisible trace n s l → slice_get s.clients c ≡ Some x → IsVisible trace n (taken s c x op) (ledger_taken l c)
  visible_taken past n s l c x op told seen at =
      let e : Count = record { maker = c; edits = sent_by l c } in
      let m = ledger_taken l c in
      let y : Client = record { revision = x.revision; phase = x.phase; list = x.list; count = x.count; message = None } in
      let own = each_after (VisibleOwn trace l) (VisibleOwn trace m) s.clients c x y at (λ d z h k f. seen.own d k z f h)
      (λ k f below edit. let was = seen.own c k x f at below edit in (was.0, λ q other. let a = was.1 q other in let b = logged_more past s l c x.revision q told in omega arith))
      (λ d z other h k f below edit. let was = h k f below edit in (was.0, λ q away. let a = was.1 q away in let b = logged_more past s l c z.revision q told in omega arith)) in
      let later = each_after (VisibleLater trace n l) (VisibleLater trace n m) s.clients c x y at (λ d z h p q f. seen.later d p q z f h)
      (λ p q f below there by. let a = seen.later c p q x f at below there by in let b = sees_more l m c x y (omega arith) (λ r. logged_more past s l c x.revision r told) q in omega arith)
      (λ d z other h p q f below there by. let a = h p q f below there by in let b = sees_more l m d z z (omega arith) (λ r. logged_more past s l c z.revision r told) q in omega arith) in
      record {
        log = λ j r k q d below edit. elim (cases_lt (length l.entries) j) [
          | inl beyond ↦
              let long = length_push l.entries e in
              let whole : (i : ℕ) → logged m.entries j i ≡ counted i 0 m.entries = λ i. logged_high m.entries j i (omega arith) in
              let all : (i : ℕ) → logged l.entries (length l.entries) i ≡ counted i 0 l.entries = λ i. logged_high l.entries (length l.entries) i (omega arith) in
              let more = counted_more past s l c q told in
              let w = whole q in
              elim (cases_eq c r) [
                | inl mine ↦
                    let count = counted_push_own r 0 l.entries e mine in
                    let low : k < sent_by l c = let a = whole r in omega arith in
                    let known = seen.own c k x d at (omega arith) (ap (λ (i : ℕ). slice_get (edits_of i trace) k) mine ∙ edit) in
                    elim (cases_eq c q) [
                      | inl self ↦
                          let a = counted_push_own q 0 l.entries e self in
                          let b : get_or d.seen q 0 ≡ k = ap (λ (i : ℕ). get_or d.seen i 0) (sym self) ∙ known.0 in
                          omega arith
                      | inr other ↦
                          let a = known.1 q (λ h. other (sym h)) in
                          let b = logged_most past s l told x.revision q in
                          omega arith
                    ]
                | inr other ↦
                    let count = counted_push_other r 0 l.entries e other in
                    let low : k < logged l.entries (length l.entries) r = let a = whole r in let b = all r in omega arith in
                    let a = seen.log (length l.entries) r k q d low edit in
                    let b = all q in
                    omega arith
              ]
          | inr inside ↦
              let low : k < logged l.entries j r = let a = logged_low l.entries e j r inside in omega arith in
              let a = seen.log j r k q d low edit in
              let b = logged_low l.entries e j q inside in
              omega arith
        ];
        own = λ d k z f h. own d z h k f;
        later = λ d p q z f h. later d z h p q f;
        server = λ p q f below there by. let a = seen.server p q f below there (by ∙ length-set s.clients c y) in let b = counted_more past s l c q told in omega arith;
      }
