-- Runs of a list that make way for runs of another: while they are exchanged, and once they are.
use Rattle.std.proofs.Common.{◌≡◌, ℕ, ◌+◌, ◌<◌, ◌≤◌, List, [], ◌∷◌, ◌++◌, length, take, drop, get_or, reverse, refl, sym, ap, ◌∙◌, arith, append_assoc, add-one, length-append, drop-cons}
use Rattle.std.proofs.lemmas.List.{length-drop, drop-drop, take_at, drop_at, length-take-le, reverse-append, drop_more}
use Rattle.std.proofs.Math.Seq.{take-add}
use Rattle.ot_list.specs.declared.span.Span.{Span}
use Rattle.ot_list.specs.Spans.{reach, all_gone, merged, taken, Fit}

-- the first span, and the others
pub fit_first : {A : Type 0} (s : Span) (ss : List Span) (old new : List A) → Fit (s ∷ ss) old new → (s.kept + s.gone ≤ length old) × (s.put ≤ length new)
fit_first s ss old new f = let w = f.within in let a = f.all in (omega arith, omega arith)

pub fit_rest : {A : Type 0} (s : Span) (ss : List Span) (old new : List A) → Fit (s ∷ ss) old new → Fit ss (drop (s.kept + s.gone) old) (drop s.put new)
fit_rest s ss old new f =
    let w = f.within in
    let a = f.all in
    record {
      within = rw length-drop (omega arith);
      all = rw length-drop (omega arith);
    }

pub length-taken : {A : Type 0} (ss : List Span) (old new : List A) → Fit ss old new → length (taken ss old) ≡ all_gone ss
length-taken [] old new f = refl
length-taken (s ∷ ss) old new f =
    let n = fit_first s ss old new f in
    let h = length-taken ss (drop (s.kept + s.gone) old) (drop s.put new) (fit_rest s ss old new f) in
    let size : s.gone ≤ length (drop s.kept old) = rw length-drop (omega arith) in
    rw (length-append, length-take-le s.gone (drop s.kept old) size, h) refl

pub length-merged : {A : Type 0} (s : Span) (ss : List Span) (old new : List A) → Fit (s ∷ ss) old new → length (merged (s ∷ ss) old new) ≡ s.kept + s.put + length (merged ss (drop (s.kept + s.gone) old) (drop s.put new))
length-merged s ss old new f =
    let n = fit_first s ss old new f in
    rw (length-append, length-append, length-take-le s.kept old (omega arith), length-take-le s.put new (omega arith)) refl

-- the spans up to place i have been carried out, with what is left of both lists
pub record IsMerging {A : Type 0} (spans : List Span) (old new : List A) (i : ℕ) (left right made gone : List A) : Type 0 where
  pub made_is : merged spans old new ≡ made ++ merged (drop i spans) left right
  pub gone_is : taken spans old ≡ gone ++ taken (drop i spans) left
  pub fit : Fit (drop i spans) left right

rest_of : (spans : List Span) (i : ℕ) (s : Span) → i < length spans → s ≡ get_or spans i s → drop i spans ≡ s ∷ drop (i + 1) spans
rest_of spans i s h e = rw (add-one, drop-cons spans i s) (rw (← e) refl)

-- the next span fits what is left, and there is room for what it moves
pub record HasNext {A : Type 0} (spans : List Span) (old new : List A) (left right made gone : List A) (s : Span) : Type 0 where
  pub within : s.kept + s.gone ≤ length left
  pub enough : s.put ≤ length right
  pub made_room : length made + s.kept + s.put ≤ length (merged spans old new)
  pub gone_room : length gone + s.gone ≤ all_gone spans

module _ {A : Type 0} (spans : List Span) (old new : List A) (i : ℕ) (left right made gone : List A) (s : Span) (h : i < length spans) (e : s ≡ get_or spans i s) (m : IsMerging spans old new i left right made gone) where
  here : IsMerging spans old new i left right made gone → drop i spans ≡ s ∷ drop (i + 1) spans
  here _ = rest_of spans i s h e

  fit_here : Fit (s ∷ drop (i + 1) spans) left right
  fit_here = rw (here m) at m.fit

  pub merging_next : Fit spans old new → HasNext spans old new left right made gone s
  merging_next f =
      let n = fit_first s (drop (i + 1) spans) left right fit_here in
      let made' : merged spans old new ≡ made ++ merged (s ∷ drop (i + 1) spans) left right = rw (here m) at m.made_is in
      let gone' : taken spans old ≡ gone ++ taken (s ∷ drop (i + 1) spans) left = rw (here m) at m.gone_is in
      let size = length-merged s (drop (i + 1) spans) left right fit_here in
      let all = length-taken (s ∷ drop (i + 1) spans) left right fit_here in
      let whole = length-taken spans old new f in
      let a : length (merged spans old new) ≡ length made + length (merged (s ∷ drop (i + 1) spans) left right) = rw made' (length-append made _) in
      let b : length (taken spans old) ≡ length gone + length (taken (s ∷ drop (i + 1) spans) left) = rw gone' (length-append gone _) in
      record { within = n.0; enough = n.1; made_room = omega arith; gone_room = omega arith }

  pub merging_more : IsMerging spans old new (i + 1) (drop s.gone (drop s.kept left)) (drop s.put right) (made ++ take s.kept left ++ take s.put right) (gone ++ take s.gone (drop s.kept left))
  merging_more = record {
    made_is = rw (drop-drop, append_assoc, append_assoc) (rw (here m, append_assoc) at m.made_is);
    gone_is = rw (drop-drop, append_assoc) (rw (here m) at m.gone_is);
    fit = rw drop-drop (fit_rest s (drop (i + 1) spans) left right fit_here);
  }

-- the same where runs are exchanged in their places
pub record IsExchanging {A : Type 0} (spans : List Span) (old new : List A) (i at from : ℕ) (list others : List A) : Type 0 where
  pub merging : IsMerging spans old new i (drop at list) (drop from others) (take at list) (take from others)
  pub at_within : at ≤ length list
  pub from_within : from ≤ length others

pub exchanging_next : {A : Type 0} (spans : List Span) (old new : List A) (i at from : ℕ) (list others : List A) (s : Span) → i < length spans → s ≡ get_or spans i s → IsExchanging spans old new i at from list others → s.gone ≡ s.put → (at + s.kept + s.gone ≤ length list) × (from + s.gone ≤ length others)
exchanging_next spans old new i at from list others s h e x even =
    let f : Fit (s ∷ drop (i + 1) spans) (drop at list) (drop from others) = rw (rest_of spans i s h e) at x.merging.fit in
    let n = fit_first s (drop (i + 1) spans) (drop at list) (drop from others) f in
    let a = x.at_within in
    let b = x.from_within in
    (omega (arith, length-drop at list), omega (arith, length-drop from others))

pub exchanging_more : {A : Type 0} (spans : List Span) (old new : List A) (i at from : ℕ) (list others list' others' : List A) (s : Span) → i < length spans → s ≡ get_or spans i s → IsExchanging spans old new i at from list others → s.gone ≡ s.put → list' ≡ take (at + s.kept) list ++ take s.gone (drop from others) ++ drop (at + s.kept + s.gone) list → others' ≡ take from others ++ take s.gone (drop (at + s.kept) list) ++ drop (from + s.gone) others → IsExchanging spans old new (i + 1) (at + s.kept + s.gone) (from + s.gone) list' others'
exchanging_more {A} spans old new i at from list others list' others' s h e x even l o =
    let n = exchanging_next spans old new i at from list others s h e x even in
    let m = merging_more spans old new i (drop at list) (drop from others) (take at list) (take from others) s h e x.merging in
    let p : List A = take (at + s.kept) list ++ take s.gone (drop from others) in
    let q : List A = take from others ++ take s.gone (drop (at + s.kept) list) in
    let size_p : length p ≡ at + s.kept + s.gone = rw length-append (rw (length-take-le (at + s.kept) list (omega arith), length-take-le s.gone (drop from others) (rw length-drop (omega arith))) refl) in
    let size_q : length q ≡ from + s.gone = rw length-append (rw (length-take-le from others (omega arith), length-take-le s.gone (drop (at + s.kept) list) (rw length-drop (omega arith))) refl) in
    let take_l : take (at + s.kept + s.gone) list' ≡ p = rw l (take_at p (drop (at + s.kept + s.gone) list) (at + s.kept + s.gone) size_p) in
    let drop_l : drop (at + s.kept + s.gone) list' ≡ drop (at + s.kept + s.gone) list = rw l (drop_at p (drop (at + s.kept + s.gone) list) (at + s.kept + s.gone) size_p) in
    let take_o : take (from + s.gone) others' ≡ q = rw o (take_at q (drop (from + s.gone) others) (from + s.gone) size_q) in
    let drop_o : drop (from + s.gone) others' ≡ drop (from + s.gone) others = rw o (drop_at q (drop (from + s.gone) others) (from + s.gone) size_q) in
    let run : drop s.kept (drop at list) ≡ drop (at + s.kept) list = drop-drop s.kept at list in
    let left : drop s.gone (drop s.kept (drop at list)) ≡ drop (at + s.kept + s.gone) list = rw run (drop-drop s.gone (at + s.kept) list) in
    let front : take at list ++ take s.kept (drop at list) ≡ take (at + s.kept) list = sym (take-add at s.kept list) in
    let right : drop s.put (drop from others) ≡ drop (from + s.gone) others = rw (← even) (drop-drop s.gone from others) in
    let same : take s.put (drop from others) ≡ take s.gone (drop from others) = ap (λ (k : ℕ). take k (drop from others)) (sym even) in
    let length_l : length list' ≡ length p + length (drop (at + s.kept + s.gone) list) = rw l (length-append p (drop (at + s.kept + s.gone) list)) in
    let length_o : length others' ≡ length q + length (drop (from + s.gone) others) = rw o (length-append q (drop (from + s.gone) others)) in
    record {
      merging = rw (drop_l, drop_o, take_l, take_o) (rw (left, right, front, run, same) at m);
      at_within = omega arith;
      from_within = omega arith;
    }

-- how many there are then
pub length-merged-all : {A : Type 0} (ss : List Span) (old new : List A) → Fit ss old new → length (merged ss old new) + all_gone ss ≡ length old + length new
length-merged-all [] old new f = let a = f.all in omega arith
length-merged-all (s ∷ ss) old new f =
    let n = fit_first s ss old new f in
    let h = length-merged-all ss (drop (s.kept + s.gone) old) (drop s.put new) (fit_rest s ss old new f) in
    let size = length-merged s ss old new f in
    omega (arith, length-drop (s.kept + s.gone) old, length-drop s.put new)

pub gone-within : (ss : List Span) → all_gone ss ≤ reach ss
gone-within [] = omega arith
gone-within (s ∷ ss) = let h = gone-within ss in omega arith

pub gone_more : (spans : List Span) (i : ℕ) (d : Span) → i < length spans → all_gone (drop i spans) ≡ (get_or spans i d).gone + all_gone (drop (i + 1) spans)
gone_more spans i d h = rw (drop_more spans i d h) refl

-- the last item moves
pub moved_more : {A : Type 0} (all : List A) (k : ℕ) (x : A) (from from' : List A) → reverse from ≡ drop k all → from ≡ from' ++ x ∷ [] → (take (k + 1) all ≡ take k all ++ x ∷ []) × (reverse from' ≡ drop (k + 1) all)
moved_more {A} all k x from from' r f =
    let rest : drop k all ≡ x ∷ reverse from' = sym r ∙ rw f (reverse-append from' (x ∷ [])) in
    (rw (take-add k 1 all, rest) refl, sym (sym (drop-drop 1 k all) ∙ rw rest refl))
