-- What spans make, as the last of them grows and shrinks.
use Rattle.std.proofs.Common.{◌≡◌, ℕ, ◌+◌, ◌<◌, ◌≤◌, List, [], ◌∷◌, ◌++◌, length, take, drop, get_or, refl, sym, ap, ◌∙◌, arith, append_assoc, length-append}
use Rattle.std.proofs.lemmas.List.{append-nil, length-drop, drop-drop, take_all, take_more, get_or-drop, take-append-le, drop-append-le}
use Rattle.std.proofs.Math.Seq.{take-add}
use Rattle.ot_list.specs.declared.span.Span.{Span}
use Rattle.ot_list.specs.Spans.{reach, all_put, merged, through}
use Rattle.ot_list.specs.Written.{AllKeep, AreApart}

-- a span of which nothing goes so far
abbrev pub span : ℕ → ℕ → Span
span kept put = record { kept = kept; gone = 0; put = put }

pub through-append : {A : Type 0} (ss ts : List Span) (old new : List A) → through (ss ++ ts) old new ≡ through ss old new ++ through ts (drop (reach ss) old) (drop (all_put ss) new)
through-append [] ts old new = refl
through-append {A} (s ∷ ss) ts old new =
    let old' : List A = drop (s.kept + s.gone) old in
    let new' : List A = drop s.put new in
    let h = through-append ss ts old' new' in
    let o : drop (reach ss) old' ≡ drop (s.kept + s.gone + reach ss) old = drop-drop (reach ss) (s.kept + s.gone) old in
    let n : drop (all_put ss) new' ≡ drop (s.put + all_put ss) new = drop-drop (all_put ss) s.put new in
    ap (λ (t : List A). take s.kept old ++ take s.put new ++ t) (rw (o, n) at h) ∙ sym (append_assoc (take s.kept old ++ take s.put new) (through ss old' new') (through ts (drop (s.kept + s.gone + reach ss) old) (drop (s.put + all_put ss) new)))

pub reach-push : (ss : List Span) (s : Span) → reach (ss ++ s ∷ []) ≡ reach ss + (s.kept + s.gone)
reach-push [] s = omega arith
reach-push (r ∷ ss) s = let h = reach-push ss s in omega arith

pub all_put-push : (ss : List Span) (s : Span) → all_put (ss ++ s ∷ []) ≡ all_put ss + s.put
all_put-push [] s = omega arith
all_put-push (r ∷ ss) s = let h = all_put-push ss s in omega arith

-- the last span
pub through-push : {A : Type 0} (ss : List Span) (s : Span) (old new : List A) → through (ss ++ s ∷ []) old new ≡ through ss old new ++ (take s.kept (drop (reach ss) old) ++ take s.put (drop (all_put ss) new))
through-push {A} ss s old new = through-append ss (s ∷ []) old new ∙ ap (λ (t : List A). through ss old new ++ t) (append-nil (take s.kept (drop (reach ss) old) ++ take s.put (drop (all_put ss) new)))

through-longer : {A : Type 0} (ss : List Span) (old new more : List A) → all_put ss ≤ length new → through ss old (new ++ more) ≡ through ss old new
through-longer [] old new more h = refl
through-longer {A} (s ∷ ss) old new more h =
    let a : take s.put (new ++ more) ≡ take s.put new = take-append-le s.put new more (omega arith) in
    let b : drop s.put (new ++ more) ≡ drop s.put new ++ more = drop-append-le s.put new more (omega arith) in
    rw (a, b, through-longer ss (drop (s.kept + s.gone) old) (drop s.put new) more (rw length-drop (omega arith))) refl

pub merged-through : {A : Type 0} (ss : List Span) (old new : List A) → merged ss old new ≡ through ss old new ++ drop (reach ss) old
merged-through [] old new = refl
merged-through {A} (s ∷ ss) old new =
    let old' : List A = drop (s.kept + s.gone) old in
    let new' : List A = drop s.put new in
    let h = merged-through ss old' new' in
    let o : drop (reach ss) old' ≡ drop (s.kept + s.gone + reach ss) old = drop-drop (reach ss) (s.kept + s.gone) old in
    ap (λ (t : List A). take s.kept old ++ take s.put new ++ t) (rw o at h) ∙ sym (append_assoc (take s.kept old ++ take s.put new) (through ss old' new') (drop (s.kept + s.gone + reach ss) old))

-- one more new leaf
pub through_add : {A : Type 0} (ss : List Span) (kept put : ℕ) (old new : List A) (x : A) → all_put ss + put ≡ length new → through (ss ++ span kept (put + 1) ∷ []) old (new ++ x ∷ []) ≡ through (ss ++ span kept put ∷ []) old new ++ x ∷ []
through_add {A} ss kept put old new x all =
    let run : List A = take kept (drop (reach ss) old) in
    let rest : List A = drop (all_put ss) new in
    let size : length rest ≡ put = rw length-drop (omega arith) in
    let a : through ss old (new ++ x ∷ []) ≡ through ss old new = through-longer ss old new (x ∷ []) (omega arith) in
    let b : drop (all_put ss) (new ++ x ∷ []) ≡ rest ++ x ∷ [] = drop-append-le (all_put ss) new (x ∷ []) (omega arith) in
    let c : take (put + 1) (rest ++ x ∷ []) ≡ rest ++ x ∷ [] = take_all (put + 1) (rest ++ x ∷ []) (omega (arith, length-append rest (x ∷ []))) in
    let d : take put rest ≡ rest = take_all put rest (omega arith) in
    let l = through-push ss (span kept (put + 1)) old (new ++ x ∷ []) in
    let r = through-push ss (span kept put) old new in
    let l' : through (ss ++ span kept (put + 1) ∷ []) old (new ++ x ∷ []) ≡ through ss old new ++ (run ++ (rest ++ x ∷ [])) = rw (a, b, c) at l in
    let r' : through (ss ++ span kept put ∷ []) old new ≡ through ss old new ++ (run ++ rest) = rw d at r in
    l' ∙ rw (r', append_assoc, append_assoc) refl

-- one old leaf more is kept
pub through_kept : {A : Type 0} (ss : List Span) (kept : ℕ) (old new : List A) (d : A) → reach ss + kept < length old → through (ss ++ span (kept + 1) 0 ∷ []) old new ≡ through (ss ++ span kept 0 ∷ []) old new ++ get_or old (reach ss + kept) d ∷ []
through_kept {A} ss kept old new d h =
    let left : List A = drop (reach ss) old in
    let size : kept < length left = rw length-drop (omega arith) in
    let a : take (kept + 1) left ≡ take kept left ++ get_or left kept d ∷ [] = take_more left kept d size in
    let b : get_or left kept d ≡ get_or old (reach ss + kept) d = get_or-drop (reach ss) old kept d in
    let l = through-push ss (span (kept + 1) 0) old new in
    let r = through-push ss (span kept 0) old new in
    let l' : through (ss ++ span (kept + 1) 0 ∷ []) old new ≡ through ss old new ++ (take kept left ++ get_or old (reach ss + kept) d ∷ []) = rw (a, b, append-nil) at l in
    let r' : through (ss ++ span kept 0 ∷ []) old new ≡ through ss old new ++ take kept left = rw append-nil at r in
    l' ∙ rw (r', append_assoc) refl

-- several more are kept
pub through_run : {A : Type 0} (ss : List Span) (kept n : ℕ) (old new : List A) → through (ss ++ span (kept + n) 0 ∷ []) old new ≡ through (ss ++ span kept 0 ∷ []) old new ++ take n (drop (reach ss + kept) old)
through_run {A} ss kept n old new =
    let left : List A = drop (reach ss) old in
    let a : take (kept + n) left ≡ take kept left ++ take n (drop kept left) = take-add kept n left in
    let b : drop kept left ≡ drop (reach ss + kept) old = drop-drop kept (reach ss) old in
    let l = through-push ss (span (kept + n) 0) old new in
    let r = through-push ss (span kept 0) old new in
    let l' : through (ss ++ span (kept + n) 0 ∷ []) old new ≡ through ss old new ++ (take kept left ++ take n (drop (reach ss + kept) old)) = rw (a, b, append-nil) at l in
    let r' : through (ss ++ span kept 0 ∷ []) old new ≡ through ss old new ++ take kept left = rw append-nil at r in
    l' ∙ rw (r', append_assoc) refl

-- what goes behind the last span does not show there
pub same_last : {A : Type 0} (ss : List Span) (s : Span) (old new : List A) → through (ss ++ s ∷ []) old new ≡ through (ss ++ span s.kept s.put ∷ []) old new
same_last ss s old new = through-push ss s old new ∙ sym (through-push ss (span s.kept s.put) old new)

-- a span is closed, and the next keeps old leaves
pub through_next : {A : Type 0} (ss : List Span) (s : Span) (n : ℕ) (old new : List A) → through ((ss ++ s ∷ []) ++ span n 0 ∷ []) old new ≡ through (ss ++ span s.kept s.put ∷ []) old new ++ take n (drop (reach ss + (s.kept + s.gone)) old)
through_next {A} ss s n old new =
    let l = through-push (ss ++ s ∷ []) (span n 0) old new in
    let l' : through ((ss ++ s ∷ []) ++ span n 0 ∷ []) old new ≡ through (ss ++ s ∷ []) old new ++ take n (drop (reach ss + (s.kept + s.gone)) old) = rw (reach-push ss s, append-nil) at l in
    l' ∙ ap (λ (t : List A). t ++ take n (drop (reach ss + (s.kept + s.gone)) old)) (same_last ss s old new)

pub through_reopened : {A : Type 0} (ss : List Span) (s : Span) (old new : List A) → through ((ss ++ s ∷ []) ++ span 0 0 ∷ []) old new ≡ through (ss ++ span s.kept s.put ∷ []) old new
through_reopened ss s old new = through_next ss s 0 old new ∙ append-nil (through (ss ++ span s.kept s.put ∷ []) old new)

-- Spans that are apart.
pub all_keep_push : (ss : List Span) (s : Span) → AllKeep ss → 0 < s.kept → AllKeep (ss ++ s ∷ [])
all_keep_push [] s a h = (h, tt)
all_keep_push (r ∷ ss) s a h = (a.0, all_keep_push ss s a.1 h)

keep_other : (ss : List Span) (s t : Span) → 0 < t.kept → AllKeep (ss ++ s ∷ []) → AllKeep (ss ++ t ∷ [])
keep_other [] s t k a = (k, tt)
keep_other (r ∷ ss) s t k a = (a.0, keep_other ss s t k a.1)

keep_front : (ss : List Span) (s : Span) → AllKeep (ss ++ s ∷ []) → AllKeep ss
keep_front [] s a = tt
keep_front (r ∷ ss) s a = (a.0, keep_front ss s a.1)

none_kept : (ss : List Span) (put : ℕ) → AllKeep (ss ++ span 0 put ∷ []) → ⊥
none_kept [] put a = let k = a.0 in omega arith
none_kept (r ∷ ss) put a = none_kept ss put a.1

-- the last span becomes another that keeps a leaf
pub apart_other : (ss : List Span) (s t : Span) → 0 < t.kept → AreApart (ss ++ s ∷ []) → AreApart (ss ++ t ∷ [])
apart_other [] s t k a = tt
apart_other (r ∷ ss) s t k a = keep_other ss s t k a

keep_same : (ss : List Span) (s t : Span) → s.kept ≡ t.kept → AllKeep (ss ++ s ∷ []) → AllKeep (ss ++ t ∷ [])
keep_same [] s t e a = (rw (← e) a.0, tt)
keep_same (r ∷ ss) s t e a = (a.0, keep_same ss s t e a.1)

pub apart_same : (ss : List Span) (s t : Span) → s.kept ≡ t.kept → AreApart (ss ++ s ∷ []) → AreApart (ss ++ t ∷ [])
apart_same [] s t e a = tt
apart_same (r ∷ ss) s t e a = keep_same ss s t e a

pub apart_front : (ss : List Span) (s : Span) → AreApart (ss ++ s ∷ []) → AreApart ss
apart_front [] s a = tt
apart_front (r ∷ ss) s a = keep_front ss s a

-- another span behind them
pub apart_push : (ss : List Span) (s : Span) → AreApart ss → 0 < s.kept → AreApart (ss ++ s ∷ [])
apart_push [] s a h = tt
apart_push (r ∷ ss) s a h = all_keep_push ss s a h

-- one that keeps no leaf is the first
pub apart_none : (ss : List Span) (put : ℕ) → AreApart (ss ++ span 0 put ∷ []) → ss ≡ []
apart_none [] put a = refl
apart_none (r ∷ ss) put a = absurd (none_kept ss put a)
