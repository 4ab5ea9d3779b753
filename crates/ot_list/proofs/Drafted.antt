-- What the steps of a draft make of its whole leaves.
use Rattle.std.proofs.Common.{◌≡◌, ℕ, zero, suc, ◌+◌, ◌-◌, ◌*◌, ◌<◌, ◌≤◌, List, [], ◌∷◌, ◌++◌, map, length, take, drop, get_or, refl, sym, ap, subst, ◌∙◌, arith, append_assoc, length-append}
use Rattle.std.specs.Prelude.{Vec}
use Rattle.std.specs.declared.alloc.Global.{Global}
use Rattle.std.proofs.lemmas.List.{append-nil, length-map, map-append, take-map, take_more, take_all, length-take, length-take-le, length-drop, take-append-drop, drop_all}
use Rattle.std.proofs.Math.Seq.{take-add}
use Rattle.ot_list.specs.declared.span.Span.{Span}
use Rattle.ot_list.specs.declared.draft.Draft.{Draft}
use Rattle.ot_list.specs.Leaves.{concatenated, AreLeaves, MayEnd, last_leaf}
use Rattle.ot_list.specs.Spans.{reach, all_put, through}
use Rattle.ot_list.specs.Written.{last_span, spans_of, made_by, place_of, front_of, written, AreApart, IsDraft, Continues, IsWithoutLast, IsWithLeaf, HasClosed, HasHalved, HasFlushed}
use Rattle.ot_list.proofs.Leaved.{concatenated-append, leaves_push, leaves_front, leaves_end, may_end_more, may_end_by_last, last-push}
use Rattle.ot_list.proofs.Through.{span, reach-push, all_put-push, through_add, through_kept, through_reopened, apart_other, apart_same, apart_front, apart_none}

pub item_at : {T : Type 0} (vs : List (Vec T Global)) (k : ℕ) (v : Vec T Global) → k < length vs → v ≡ get_or vs k v → get_or (map (λ w. w.items) vs) k [] ≡ v.items
item_at [] k v h e = absurd (omega arith)
item_at (w ∷ vs) zero v h e = rw e refl
item_at (w ∷ vs) (suc k) v h e = item_at vs k v (omega arith) e

pub sum_at : {T S : Type 0} (total : List T → S) (ls : List (List T)) (k : ℕ) (s : S) → k < length ls → s ≡ get_or (map total ls) k s → s ≡ total (get_or ls k [])
sum_at total [] k s h e = absurd (omega arith)
sum_at total (l ∷ ls) zero s h e = e
sum_at total (l ∷ ls) (suc k) s h e = sum_at total ls k s (omega arith) e

pub split_last : {A : Type 0} (xs : List A) (d : A) → 0 < length xs → xs ≡ take (length xs - 1) xs ++ get_or xs (length xs - 1) d ∷ []
split_last {A} xs d h =
    let k : ℕ = length xs - 1 in
    let all : take (k + 1) xs ≡ xs = take_all (k + 1) xs (omega arith) in
    sym all ∙ take_more xs k d (omega arith)

pub popped : {X Y : Type 0} (f : X → Y) (vs vs' : List X) (n : ℕ) → n ≡ length vs → vs' ≡ take (n - 1) vs → map f vs' ≡ take (length (map f vs) - 1) (map f vs)
popped f vs vs' n e p = rw (p, e, length-map) (sym (take-map f (length vs - 1) vs))

module _ {T S : Type 0} (cap : ℕ) (total : List T → S) (old : List (List T)) where
  -- a draft's numbers
  pub record Numbers (d : Draft T S) : Type 0 where
    pub within : reach d.spans.items + d.kept ≤ length old
    pub place_is : d.place ≡ reach d.spans.items + d.kept
    pub put_is : all_put d.spans.items + (length d.leaves.items - d.first) ≡ length (made_by d)
    pub size : length (made_by d) ≡ length d.leaves.items

  pub numbers : (d : Draft T S) → IsDraft cap total old d → Numbers d
  numbers d h =
      let w = h.within in
      let p = h.place_is in
      let f = h.first_is in
      let g = h.first_within in
      let r = reach-push d.spans.items (last_span d) in
      let s : length (made_by d) ≡ length d.leaves.items = length-map _ _ in
      record { within = omega arith; place_is = omega arith; put_is = omega arith; size = s }

  -- where the last span has new leaves
  pub front_put : (d : Draft T S) → IsDraft cap total old d → d.first < length d.leaves.items → front_of old d ≡ through (d.spans.items ++ span d.kept (length d.leaves.items - d.first - 1) ∷ []) old (take (length (made_by d) - 1) (made_by d)) ++ get_or (made_by d) (length (made_by d) - 1) [] ∷ []
  front_put d h some =
      let n = numbers d h in
      let put_is = n.put_is in
      let size_is = n.size in
      let m : List (List T) = made_by d in
      let k : ℕ = length m - 1 in
      let put : ℕ = length d.leaves.items - d.first in
      let size : length (take k m) ≡ k = length-take-le k m (omega arith) in
      let t = through_add d.spans.items d.kept (put - 1) old (take k m) (get_or m k []) (omega arith) in
      let e : (put - 1) + 1 ≡ put = omega arith in
      let s : take k m ++ get_or m k [] ∷ [] ≡ m = sym (split_last m [] (omega arith)) in
      rw (e, s) at t

  -- where it has none, and keeps old ones
  pub front_kept : (d : Draft T S) → IsDraft cap total old d → length d.leaves.items ≤ d.first → 0 < d.kept → front_of old d ≡ through (d.spans.items ++ span (d.kept - 1) 0 ∷ []) old (made_by d) ++ get_or old (d.place - 1) [] ∷ []
  front_kept d h none some =
      let n = numbers d h in
      let within = n.within in
      let place_is = n.place_is in
      let t = through_kept d.spans.items (d.kept - 1) old (made_by d) [] (omega arith) in
      let e : (d.kept - 1) + 1 ≡ d.kept = omega arith in
      let p : reach d.spans.items + (d.kept - 1) ≡ d.place - 1 = omega arith in
      let z : length d.leaves.items - d.first ≡ 0 = omega arith in
      rw z (rw (e, p) at t)

  pub place_before : (d : Draft T S) → IsDraft cap total old d → 0 < d.kept → d.place - 1 < length old
  place_before d h some = let n = numbers d h in let within = n.within in let place_is = n.place_is in omega arith

  -- where it has neither nothing is written
  pub front_none : (d : Draft T S) → IsDraft cap total old d → length d.leaves.items ≤ d.first → d.kept ≡ 0 → front_of old d ≡ []
  front_none d h none zero_kept =
      let z : length d.leaves.items - d.first ≡ 0 = omega arith in
      let a = rw (z, zero_kept) at h.apart in
      let e = apart_none d.spans.items 0 a in
      rw (z, zero_kept, e) refl

  last_is : (F f : List (List T)) (x : List T) → F ≡ f ++ x ∷ [] → last_leaf F ≡ x
  last_is F f x e = rw e (last-push f x)

  pub last_put : (d : Draft T S) → IsDraft cap total old d → d.first < length d.leaves.items → last_leaf (front_of old d) ≡ get_or (made_by d) (length (made_by d) - 1) []
  last_put d h some = last_is _ _ _ (front_put d h some)

  pub last_kept : (d : Draft T S) → IsDraft cap total old d → length d.leaves.items ≤ d.first → 0 < d.kept → last_leaf (front_of old d) ≡ get_or old (d.place - 1) []
  last_kept d h none some = last_is _ _ _ (front_kept d h none some)

  pub last_none : (d : Draft T S) → IsDraft cap total old d → length d.leaves.items ≤ d.first → d.kept ≡ 0 → last_leaf (front_of old d) ≡ []
  last_none d h none e = rw (front_none d h none e) refl

  kept_by : (d : Draft T S) → IsDraft cap total old d → length d.leaves.items ≤ d.first → 0 < length (last_leaf (front_of old d)) → (k : ℕ) → d.kept ≡ k → 0 < k
  kept_by d h none some zero e = let z : length (last_leaf (front_of old d)) ≡ 0 = ap length (last_none d h none e) in absurd (omega arith)
  kept_by d h none some (suc k) e = omega arith

  pub kept_some : (d : Draft T S) → IsDraft cap total old d → length d.leaves.items ≤ d.first → 0 < length (last_leaf (front_of old d)) → 0 < d.kept
  kept_some d h none some = kept_by d h none some d.kept refl

  pub sums_length : (d : Draft T S) → IsDraft cap total old d → length d.sums.items ≡ length d.leaves.items
  sums_length d h = rw h.sums (length-map _ _ ∙ length-map _ _)

  -- the span before, which is opened again
  pub span_fits : (d : Draft T S) (ss : List Span) (s : Span) → IsDraft cap total old d → 0 < d.kept → d.spans.items ≡ ss ++ s ∷ [] → (s.put ≤ d.first) × (s.gone ≤ d.place - 1)
  span_fits d ss s h some spans =
      let n = numbers d h in
      let place_is = n.place_is in
      let f = h.first_is in
      let r : reach d.spans.items ≡ reach ss + (s.kept + s.gone) = rw spans (reach-push ss s) in
      let a : all_put d.spans.items ≡ all_put ss + s.put = rw spans (all_put-push ss s) in
      (omega arith, omega arith)

  -- a draft made of another
  remade : (d' : Draft T S) → reach d'.spans.items + d'.kept ≤ length old → d'.place ≡ reach d'.spans.items + d'.kept → d'.first ≡ all_put d'.spans.items → d'.first ≤ length d'.leaves.items → d'.sums.items ≡ map total (made_by d') → AreLeaves cap (front_of old d') → AreApart (spans_of d') → length d'.pending.items ≤ 2 * cap → IsDraft cap total old d'
  remade d' w p f g s l a t =
      let r = reach-push d'.spans.items (last_span d') in
      record { within = omega arith; place_is = omega arith; first_is = f; first_within = g; sums = s; leaves = l; apart = a; short = t }

  without : (d d' : Draft T S) (x : List T) → IsDraft cap total old d → front_of old d ≡ front_of old d' ++ x ∷ [] → d'.pending.items ≡ d.pending.items → (AreLeaves cap (front_of old d') → IsDraft cap total old d') → place_of d' ≤ place_of d → IsWithoutLast cap total old d d'
  without d d' x h e pending sound place =
      let last : last_leaf (front_of old d) ≡ x = rw e (last-push (front_of old d') x) in
      record {
        draft = sound (leaves_front cap (front_of old d') (x ∷ []) (rw e at h.leaves));
        front_is = rw last e;
        pending_is = pending;
        place = place;
      }

  pub without_put : (d d' : Draft T S) → IsDraft cap total old d → d.first < length d.leaves.items → d'.pending.items ≡ d.pending.items → d'.spans.items ≡ d.spans.items → d'.leaves.items ≡ take (length d.leaves.items - 1) d.leaves.items → d'.sums.items ≡ take (length d.sums.items - 1) d.sums.items → d'.first ≡ d.first → d'.kept ≡ d.kept → d'.place ≡ d.place → IsWithoutLast cap total old d d'
  without_put d d' h some pending spans leaves sums first kept place =
      let n = numbers d h in
      let within = n.within in
      let place_is = n.place_is in
      let f = h.first_is in
      let made : made_by d' ≡ take (length (made_by d) - 1) (made_by d) = popped (λ w. w.items) d.leaves.items d'.leaves.items (length d.leaves.items) refl leaves in
      let count : length d'.leaves.items ≡ length d.leaves.items - 1 = rw leaves (length-take-le (length d.leaves.items - 1) d.leaves.items (omega arith)) in
      let put : length d'.leaves.items - d.first ≡ length d.leaves.items - d.first - 1 = omega arith in
      let sums' : d'.sums.items ≡ map total (made_by d') = rw (sums, h.sums, made, length-map) (take-map total (length (made_by d) - 1) (made_by d)) in
      let e : front_of old d ≡ front_of old d' ++ get_or (made_by d) (length (made_by d) - 1) [] ∷ [] = rw (spans, kept, first, made, put) (front_put d h some) in
      let apart : AreApart (spans_of d') = rw spans (apart_same d.spans.items (last_span d) (last_span d') (sym kept) h.apart) in
      let r = reach-push d.spans.items (last_span d) in
      let r' = reach-push d.spans.items (last_span d') in
      without d d' _ h e pending (λ l. remade d' (rw (spans, kept) within) (rw (spans, kept, place) place_is) (rw (spans, first) f) (omega arith) sums' l apart (rw pending h.short)) (rw spans (omega arith))

  pub without_kept : (d d' : Draft T S) → IsDraft cap total old d → length d.leaves.items ≤ d.first → 1 < d.kept → d'.pending.items ≡ d.pending.items → d'.spans.items ≡ d.spans.items → d'.leaves.items ≡ d.leaves.items → d'.sums.items ≡ d.sums.items → d'.first ≡ d.first → d'.kept ≡ d.kept - 1 → d'.place ≡ d.place - 1 → IsWithoutLast cap total old d d'
  without_kept d d' h none some pending spans leaves sums first kept place =
      let n = numbers d h in
      let within = n.within in
      let place_is = n.place_is in
      let f = h.first_is in
      let g = h.first_within in
      let put : length d.leaves.items - d.first ≡ 0 = omega arith in
      let f0 : List (List T) = through (d.spans.items ++ span (d.kept - 1) 0 ∷ []) old (made_by d) in
      let same : f0 ≡ front_of old d' = rw (spans, kept, first, leaves, put) refl in
      let e : front_of old d ≡ front_of old d' ++ get_or old (d.place - 1) [] ∷ [] = front_kept d h none (omega arith) ∙ ap (λ (t : List (List T)). t ++ get_or old (d.place - 1) [] ∷ []) same in
      let apart : AreApart (spans_of d') = rw spans (apart_other d.spans.items (last_span d) (last_span d') (omega arith) h.apart) in
      let r = reach-push d.spans.items (last_span d) in
      let r' = reach-push d.spans.items (last_span d') in
      without d d' _ h e pending (λ l. remade d' (rw (spans, kept) (omega arith)) (rw (spans, kept, place) (omega arith)) (rw (spans, first) f) (rw (first, leaves) g) (rw (sums, leaves) h.sums) l apart (rw pending h.short)) (rw spans (omega arith))

  -- the span before is the last one then
  pub without_span : (d d' : Draft T S) (s : Span) → IsDraft cap total old d → length d.leaves.items ≤ d.first → d.kept ≡ 1 → d.spans.items ≡ d'.spans.items ++ s ∷ [] → d'.pending.items ≡ d.pending.items → d'.leaves.items ≡ d.leaves.items → d'.sums.items ≡ d.sums.items → d'.first ≡ d.first - s.put → d'.kept ≡ s.kept → d'.place ≡ d.place - 1 - s.gone → IsWithoutLast cap total old d d'
  without_span d d' s h none one spans pending leaves sums first kept place =
      let n = numbers d h in
      let within = n.within in
      let place_is = n.place_is in
      let f = h.first_is in
      let g = h.first_within in
      let r0 : reach d.spans.items ≡ reach d'.spans.items + (s.kept + s.gone) = rw spans (reach-push d'.spans.items s) in
      let a0 : all_put d.spans.items ≡ all_put d'.spans.items + s.put = rw spans (all_put-push d'.spans.items s) in
      let put : length d.leaves.items - d.first ≡ 0 = omega arith in
      let put' : length d'.leaves.items - d'.first ≡ s.put = rw leaves (omega arith) in
      let one' : d.kept - 1 ≡ 0 = omega arith in
      let f0 : List (List T) = through (d.spans.items ++ span (d.kept - 1) 0 ∷ []) old (made_by d) in
      let same : f0 ≡ front_of old d' = rw (one', spans, put', kept, leaves) (through_reopened d'.spans.items s old (made_by d)) in
      let e : front_of old d ≡ front_of old d' ++ get_or old (d.place - 1) [] ∷ [] = front_kept d h none (omega arith) ∙ ap (λ (t : List (List T)). t ++ get_or old (d.place - 1) [] ∷ []) same in
      let apart : AreApart (spans_of d') = apart_same d'.spans.items s (last_span d') (sym kept) (subst (λ (t : List Span). AreApart t) spans (apart_front d.spans.items (last_span d) h.apart)) in
      let r = reach-push d.spans.items (last_span d) in
      let r' = reach-push d'.spans.items (last_span d') in
      without d d' _ h e pending (λ l. remade d' (omega arith) (omega arith) (omega arith) (rw leaves (omega arith)) (rw (sums, leaves) h.sums) l apart (rw pending h.short)) (omega arith)

  pub without_first : (d d' : Draft T S) → IsDraft cap total old d → length d.leaves.items ≤ d.first → d.kept ≡ 1 → d.spans.items ≡ [] → d'.pending.items ≡ d.pending.items → d'.spans.items ≡ [] → d'.leaves.items ≡ d.leaves.items → d'.sums.items ≡ d.sums.items → d'.first ≡ d.first → d'.kept ≡ 0 → d'.place ≡ d.place - 1 → IsWithoutLast cap total old d d'
  without_first d d' h none one no_spans pending spans leaves sums first kept place =
      let n = numbers d h in
      let within = n.within in
      let place_is = n.place_is in
      let f = h.first_is in
      let g = h.first_within in
      let put : length d.leaves.items - d.first ≡ 0 = omega arith in
      let one' : d.kept - 1 ≡ 0 = omega arith in
      let f0 : List (List T) = through (d.spans.items ++ span (d.kept - 1) 0 ∷ []) old (made_by d) in
      let same : f0 ≡ front_of old d' = rw (spans, kept, first, leaves, put, no_spans, one') refl in
      let e : front_of old d ≡ front_of old d' ++ get_or old (d.place - 1) [] ∷ [] = front_kept d h none (omega arith) ∙ ap (λ (t : List (List T)). t ++ get_or old (d.place - 1) [] ∷ []) same in
      let r0 : reach d.spans.items ≡ 0 = rw no_spans refl in
      let a0 : all_put d.spans.items ≡ 0 = rw no_spans refl in
      let r = reach-push d.spans.items (last_span d) in
      without d d' _ h e pending (λ l. remade d' (rw (spans, kept) (omega arith)) (rw (spans, kept, place) (omega arith)) (rw (spans, first) (omega arith)) (rw (first, leaves) g) (rw (sums, leaves) h.sums) l (rw spans tt) (rw pending h.short)) (rw (spans, kept) (omega arith))

  -- one more whole leaf
  pub with_leaf : (d d' : Draft T S) (v : Vec T Global) → IsDraft cap total old d → 0 < length v.items → length v.items ≤ cap → MayEnd cap (front_of old d) (length v.items) → d'.pending.items ≡ d.pending.items → d'.spans.items ≡ d.spans.items → d'.leaves.items ≡ d.leaves.items ++ v ∷ [] → d'.sums.items ≡ d.sums.items ++ total v.items ∷ [] → d'.first ≡ d.first → d'.kept ≡ d.kept → d'.place ≡ d.place → IsWithLeaf cap total old d d' v.items
  with_leaf d d' v h some small end pending spans leaves sums first kept place =
      let n = numbers d h in
      let within = n.within in
      let place_is = n.place_is in
      let put_is = n.put_is in
      let f = h.first_is in
      let g = h.first_within in
      let made : made_by d' ≡ made_by d ++ v.items ∷ [] = rw leaves (map-append _ d.leaves.items (v ∷ [])) in
      let count : length d'.leaves.items ≡ length d.leaves.items + 1 = rw (leaves, length-append) refl in
      let put : length d'.leaves.items - d.first ≡ (length d.leaves.items - d.first) + 1 = omega arith in
      let e : front_of old d' ≡ front_of old d ++ v.items ∷ [] = rw (spans, kept, first, made, put) (through_add d.spans.items d.kept (length d.leaves.items - d.first) old (made_by d) v.items put_is) in
      let apart : AreApart (spans_of d') = rw spans (apart_same d.spans.items (last_span d) (last_span d') (sym kept) h.apart) in
      let sums' : d'.sums.items ≡ map total (made_by d') = rw (sums, h.sums, made, map-append) refl in
      let r = reach-push d.spans.items (last_span d) in
      let r' = reach-push d.spans.items (last_span d') in
      record {
        draft = remade d' (rw (spans, kept) within) (rw (spans, kept, place) place_is) (rw (spans, first) f) (omega arith) sums' (rw e (leaves_push cap (front_of old d) v.items h.leaves some small end)) apart (rw pending h.short);
        front_is = e;
        pending_is = pending;
        place = rw spans (omega arith);
      }

  -- two drafts that differ only in what is pending
  pub record IsSame (m d' : Draft T S) : Type 0 where
    pub spans : d'.spans.items ≡ m.spans.items
    pub leaves : d'.leaves.items ≡ m.leaves.items
    pub sums : d'.sums.items ≡ m.sums.items
    pub first : d'.first ≡ m.first
    pub kept : d'.kept ≡ m.kept
    pub place : d'.place ≡ m.place

  pub same_front : (m d' : Draft T S) → IsSame m d' → front_of old d' ≡ front_of old m
  same_front m d' s = rw (s.spans, s.leaves, s.first, s.kept) refl

  pub same_place : (m d' : Draft T S) → IsSame m d' → place_of d' ≡ place_of m
  same_place m d' s = rw (s.spans, s.leaves, s.first, s.kept) refl

  pub same_draft : (m d' : Draft T S) → IsSame m d' → IsDraft cap total old m → length d'.pending.items ≤ 2 * cap → IsDraft cap total old d'
  same_draft m d' s h short =
      let n = numbers m h in
      let within = n.within in
      let place_is = n.place_is in
      remade d' (rw (s.spans, s.kept) within) (rw (s.spans, s.kept, s.place) place_is) (rw (s.spans, s.first) h.first_is) (rw (s.leaves, s.first) h.first_within) (rw (s.sums, s.leaves) h.sums) (rw (same_front m d' s) h.leaves) (rw (s.spans, s.leaves, s.first, s.kept) h.apart) short

  -- the first pending items have become a leaf
  pub closed_alone : (d e d' : Draft T S) (leaf : List T) (count : ℕ) → IsSame d e → e.pending.items ≡ drop count d.pending.items → IsWithLeaf cap total old e d' leaf → leaf ≡ take count d.pending.items → count ≤ length d.pending.items → HasClosed cap total old d d' count
  closed_alone d e d' leaf count s pending w is enough =
      let p : List T = d.pending.items in
      let left : d'.pending.items ≡ drop count p = w.pending_is ∙ pending in
      let front : front_of old d' ≡ front_of old d ++ leaf ∷ [] = w.front_is ∙ ap (λ (f : List (List T)). f ++ leaf ∷ []) (same_front d e s) in
      let last : last_leaf (front_of old d') ≡ leaf = last_is _ _ _ front in
      let size : length leaf ≡ count = rw is (length-take-le count p enough) in
      let all : concatenated (front_of old d') ≡ concatenated (front_of old d) ++ take count p = rw (front, concatenated-append, append-nil, is) refl in
      record {
        continues = record {
          draft = w.draft;
          text_is = rw (append-nil, all, left, append_assoc, take-append-drop count p) refl;
          place = rw (w.place, same_place d e s) (omega arith);
        };
        pending_is = left;
        last = rw (last, size) (omega arith);
      }

  -- they have become the end of the last leaf
  pub closed_joined : (d m m' d' : Draft T S) (leaf : List T) (count : ℕ) → IsDraft cap total old d → IsWithoutLast cap total old d m → IsWithLeaf cap total old m m' leaf → leaf ≡ last_leaf (front_of old d) ++ take count d.pending.items → count ≤ length d.pending.items → IsSame m' d' → d'.pending.items ≡ drop count m'.pending.items → HasClosed cap total old d d' count
  closed_joined d m m' d' leaf count h o w is enough s pending =
      let p : List T = d.pending.items in
      let x : List T = last_leaf (front_of old d) in
      let left : d'.pending.items ≡ drop count p = pending ∙ ap (λ (t : List T). drop count t) (w.pending_is ∙ o.pending_is) in
      let front : front_of old d' ≡ front_of old m ++ leaf ∷ [] = same_front m' d' s ∙ w.front_is in
      let short : length d'.pending.items ≤ 2 * cap = let a = h.short in rw (left, length-drop) (omega arith) in
      let last : last_leaf (front_of old d') ≡ leaf = last_is _ _ _ front in
      let size : length leaf ≡ length x + count = rw (is, length-append, length-take-le count p enough) refl in
      let all : concatenated (front_of old d') ≡ concatenated (front_of old m) ++ (x ++ take count p) = rw (front, concatenated-append, append-nil, is) refl in
      let before : concatenated (front_of old d) ≡ concatenated (front_of old m) ++ x = ap concatenated o.front_is ∙ rw (concatenated-append, append-nil) refl in
      let place = o.place in
      record {
        continues = record {
          draft = same_draft m' d' s w.draft short;
          text_is = rw (append-nil, all, left, before, append_assoc, append_assoc, append_assoc, take-append-drop count p) refl;
          place = rw (same_place m' d' s, w.place) place;
        };
        pending_is = left;
        last = rw (last, size) (omega arith);
      }

  -- the longer leaf may stand where the shorter one stood
  pub may_join : (d m : Draft T S) (n : ℕ) → IsDraft cap total old d → IsWithoutLast cap total old d m → length (last_leaf (front_of old d)) ≤ n → MayEnd cap (front_of old m) n
  may_join d m n h o l = may_end_more cap (front_of old m) (length (last_leaf (front_of old d))) n l (leaves_end cap (front_of old m) (last_leaf (front_of old d)) [] (rw o.front_is at h.leaves))

  -- what is pending is halved, and flushed
  pub halved : (d d' : Draft T S) (next count left : ℕ) → HasClosed cap total old d d' (count - left) → count ≡ length d.pending.items → cap < count → left ≤ count → left ≤ cap → 0 < left → cap < left + next → HasHalved cap total old d d' next
  halved d d' next count left w e big l small some end =
      let size : length d'.pending.items ≡ left = rw (w.pending_is, length-drop) (omega arith) in
      record {
        continues = w.continues;
        less = omega arith;
        some = λ _. omega arith;
        end = λ _. omega arith;
        none = λ z. absurd (omega arith);
      }

  pub continues_then : (a b e : Draft T S) (s t : List T) → Continues cap total old a b s → Continues cap total old b e t → Continues cap total old a e (s ++ t)
  continues_then a b e s t p q =
      let x = p.place in
      let y = q.place in
      record {
        draft = q.draft;
        text_is = rw (q.text_is, p.text_is, append_assoc) refl;
        place = omega arith;
      }

  pub flushed : (d m d' : Draft T S) (next left : ℕ) → HasHalved cap total old d m next → HasClosed cap total old m d' left → left ≡ length m.pending.items → 0 < left → HasFlushed cap total old d d' next
  flushed d m d' next left h w e some =
      let c = continues_then d m d' [] [] h.continues w.continues in
      let l = w.last in
      record {
        continues = c;
        empty = rw w.pending_is (drop_all left m.pending.items (omega arith));
        end = λ x y. let z = h.end y in may_end_by_last cap (front_of old d') next c.draft.leaves (λ v. omega arith);
        none = λ z. let n = h.none z in absurd (omega (arith, n.1));
      }

  pub continues_same : (d : Draft T S) → IsDraft cap total old d → Continues cap total old d d []
  continues_same d h = record { draft = h; text_is = sym (append-nil (written old d)); place = omega arith }

  -- items are pending behind the others
  pub appended : (d m d' : Draft T S) (text : List T) → Continues cap total old d m [] → IsSame m d' → d'.pending.items ≡ m.pending.items ++ text → length m.pending.items + length text ≤ 2 * cap → Continues cap total old d d' text
  appended d m d' text c s pending short =
      let size : length d'.pending.items ≤ 2 * cap = rw (pending, length-append) short in
      let p = c.place in
      let t : written old m ≡ written old d = c.text_is ∙ append-nil (written old d) in
      record {
        draft = same_draft m d' s c.draft size;
        text_is = rw (same_front m d' s, pending, ← append_assoc (concatenated (front_of old m)) m.pending.items text) (ap (λ (x : List T). x ++ text) t);
        place = rw (same_place m d' s) p;
      }

  -- the items of a text up to a place have been written
  pub record IsWriting (d cur : Draft T S) (text : List T) (at : ℕ) : Type 0 where
    pub continues : Continues cap total old d cur (take at text)
    pub within : at ≤ length text

  pub writing_none : (d : Draft T S) (text : List T) → IsDraft cap total old d → IsWriting d d text 0
  writing_none d text h = record { continues = continues_same d h; within = omega arith }

  pub writing_more : (d cur mid new : Draft T S) (text : List T) (at step : ℕ) → IsWriting d cur text at → Continues cap total old cur mid [] → at + step ≤ length text → IsSame mid new → new.pending.items ≡ mid.pending.items ++ take step (drop at text) → length mid.pending.items + step ≤ 2 * cap → IsWriting d new text (at + step)
  writing_more d cur mid new text at step w c h s pending short =
      let size : length (take step (drop at text)) ≤ step = rw length-take (omega arith) in
      let more = appended cur mid new (take step (drop at text)) c s pending (omega arith) in
      let all = continues_then d cur new (take at text) (take step (drop at text)) w.continues more in
      record {
        continues = rw take-add all;
        within = h;
      }

  pub writing_all : (d cur : Draft T S) (text : List T) (at : ℕ) → IsWriting d cur text at → length text ≤ at → Continues cap total old d cur text
  writing_all d cur text at w h = rw (take_all at text h) at w.continues
