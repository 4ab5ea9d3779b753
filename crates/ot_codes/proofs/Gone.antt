-- A composition where the second operation deletes what the first one makes, and its end.
use Rattle.std.proofs.Common.{◌≡◌, ℕ, zero, suc, ◌+◌, ◌-◌, ◌≤◌, List, [], ◌∷◌, ◌++◌, length, map, take, drop, refl, sym, ap, subst, ◌∙◌, arith, append_assoc, append-nil, length-drop, length-take}
use Rattle.std.proofs.lemmas.List.{map-append, length-map, append_cancel_left, take-append-drop}
use Rattle.std.proofs.lemmas.List.Elements.{filter_map-append}
use Rattle.std.specs.List.{filter_map, slice_get}
use borrow.Author.Tests.{eq-eqb, ne_eqb}
use Rattle.ot_operation.specs.Operation.{Item, New, Operation, olds, with_delete}
use Rattle.ot_operation.specs.Run.{Run, Keep, Add, Skip, base_of, image_from, IsNormal}
use Rattle.ot_operation.proofs.RunLemmas.{length-olds}
use Rattle.ot_operation.specs.Compose.{compose, item_in}
use Rattle.ot_operation.specs.Steps.{target_of, skipped, skipped_made, Covers}
use Rattle.ot_operation.proofs.RunSlots.{StartsOtherwise}
use Rattle.ot_operation.proofs.SkippedLaws.{skipped_delete-whole, skipped_delete-part}
use Rattle.ot_operation.proofs.ComposeProgress.{ComposeProgress, RetainMade, retain_made, composed_kept, picked_here, picked_none, last_keep_within}
use Rattle.ot_codes.proofs.Mapped.{same_parts}

-- the first items are gone: what is picked of the others is what is picked of all behind the first
gone_first :
    {A : Type 0} (xs rest : List (Item A)) (count : ℕ) (runs : List (Run A)) → length xs ≡ count
    → filter_map (item_in (xs ++ rest)) (image_from count runs) ≡ filter_map (item_in rest) (image_from 0 runs)
gone_first {A} xs rest count runs long =
    let here : filter_map (item_in (xs ++ rest)) (olds 0 count) ≡ xs =
    ap (λ n. filter_map (item_in (xs ++ rest)) (olds 0 n)) (sym long)
    ∙ picked_here (xs ++ rest) xs rest 0 (λ j k same. ap (slice_get (xs ++ rest)) (let e : j ≡ k = omega (arith, same) in e)) in
    append_cancel_left xs (filter_map (item_in (xs ++ rest)) (image_from count runs)) (filter_map (item_in rest) (image_from 0 runs))
    (ap (λ front. front ++ filter_map (item_in (xs ++ rest)) (image_from count runs)) (sym here)
    ∙ sym (filter_map-append (item_in (xs ++ rest)) (olds 0 count) (image_from count runs))
    ∙ composed_kept xs rest count runs long)

-- what is left of a deletion

record DeleteLeft {A : Type 0} (count n : ℕ) (ys after : List (Run A)) : Type 0 where
  normal : IsNormal after
  image : image_from 0 (Skip n ∷ ys) ≡ image_from count after
  covers : (made : ℕ) → Covers (made + count) (Skip n ∷ ys) → Covers made after

delete_left : {A : Type 0} (count n m : ℕ) (ys : List (Run A)) → IsNormal (Skip n ∷ ys) → n ≡ count + m → DeleteLeft count n ys (skipped count (Skip n ∷ ys))
delete_left {A} count n zero ys normal e =
    rw (skipped_delete-whole count n ys e)
    (record {
      normal = normal.2;
      image = ap (λ k. image_from k ys) (let same : 0 + n ≡ count = omega (arith, e) in same);
      covers = λ made w. by ys made w;
    })
  where
    by : (ys : List (Run A)) (made : ℕ) → Covers (made + count) (Skip n ∷ ys) → Covers made ys
    by [] made w = (omega (arith, w.0, e), omega (arith, w.1, e))
    by (y ∷ ys) made w = (omega (arith, w.0, e), omega (arith, w.1, e))
delete_left {A} count n (suc m) ys normal e =
    rw (skipped_delete-part count n m ys e)
    (record {
      normal = (omega arith, normal.1, normal.2);
      image = ap (λ k. image_from k ys) (let same : 0 + n ≡ count + suc m = omega (arith, e) in same);
      covers = λ made w. by ys made w;
    })
  where
    by : (ys : List (Run A)) (made : ℕ) → Covers (made + count) (Skip n ∷ ys) → Covers made (Skip (suc m) ∷ ys)
    by [] made w = (omega (arith, w.0, e), omega (arith, w.1, e))
    by (y ∷ ys) made w = (omega (arith, w.0, e), omega (arith, w.1, e))

-- what is left of an insertion

record InsertLeft {A : Type 0} (i count : ℕ) (text : List A) (xs after : List (Run A)) : Type 0 where
  normal : IsNormal after
  base : base_of after ≡ base_of xs
  target : target_of after + count ≡ length text + target_of xs
  image : map New text ++ image_from i xs ≡ map New (take count text) ++ image_from i after

take_all : {X : Type 0} (xs : List X) (count : ℕ) → count ≡ length xs → take count xs ≡ xs
take_all [] zero e = refl
take_all [] (suc count) e = refl
take_all (x ∷ xs) zero e = absurd (omega (arith, e))
take_all (x ∷ xs) (suc count) e = ap (λ rest. x ∷ rest) (take_all xs count (omega (arith, e)))

insert_left :
    {A : Type 0} (i count m : ℕ) (text : List A) (xs : List (Run A)) → IsNormal (Add text ∷ xs) → length text ≡ count + m
    → InsertLeft i count text xs (skipped_made count (Add text ∷ xs))
insert_left i count zero text xs normal e =
    rw (eq-eqb count (length text) (omega (arith, e)))
    (record {
      normal = normal.2;
      base = refl;
      target = omega (arith, e);
      image = ap (λ front. map New front ++ image_from i xs) (sym (take_all text count (omega (arith, e))));
    })
insert_left i count (suc m) text xs normal e =
    let left : length (drop count text) ≡ suc m = omega (arith, e, length-drop count text) in
    let image : map New text ++ image_from i xs ≡ map New (take count text) ++ (map New (drop count text) ++ image_from i xs) =
    ap (λ whole. map New whole ++ image_from i xs) (sym (take-append-drop count text))
    ∙ ap (λ front. front ++ image_from i xs) (map-append New (take count text) (drop count text))
    ∙ append_assoc (map New (take count text)) (map New (drop count text)) (image_from i xs) in
    rw (ne_eqb count (length text) (omega (arith, e)))
    (record {
      normal = (omega (arith, left), normal.1, normal.2);
      base = refl;
      target = omega (arith, e, left);
      image = image;
    })

module _ {A : Type 0} (a b built : Operation A) (count : ℕ) (xs ys : List (Run A)) where
  -- the second deletes what the first keeps
  pub retain_gone :
      (m n : ℕ) → count ≤ m → count ≤ n → ComposeProgress a b built (Keep m ∷ xs) (Skip n ∷ ys)
      → ComposeProgress a b (with_delete built count) (skipped count (Keep m ∷ xs)) (skipped count (Skip n ∷ ys))
  retain_gone m n in_first in_second w =
      let f : RetainMade built.base count (Keep m ∷ xs) (skipped count (Keep m ∷ xs)) = retain_made built.base count m (m - count) xs w.first_normal (omega arith) in
      let g : DeleteLeft count n ys (skipped count (Skip n ∷ ys)) = delete_left count n (n - count) ys w.second_normal (omega arith) in
      let step : filter_map (item_in (image_from built.base (Keep m ∷ xs))) (image_from 0 (Skip n ∷ ys))
      ≡ filter_map (item_in (image_from (built.base + count) (skipped count (Keep m ∷ xs)))) (image_from 0 (skipped count (Skip n ∷ ys))) =
      ap (λ image. filter_map (item_in image) (image_from 0 (Skip n ∷ ys))) f.image
      ∙ ap (filter_map (item_in (olds built.base count ++ image_from (built.base + count) (skipped count (Keep m ∷ xs))))) g.image
      ∙ gone_first (olds built.base count) _ count (skipped count (Skip n ∷ ys)) (length-olds A built.base count) in
      record {
        first_normal = f.normal;
        second_normal = g.normal;
        covers = g.covers (target_of (skipped count (Keep m ∷ xs))) (subst (λ k. Covers k (Skip n ∷ ys)) (sym f.target) w.covers);
        base = omega (arith, f.base, w.base);
        image = ap (λ rest. built.image ++ rest) (sym step) ∙ w.image;
      }

  -- or what the first inserts
  pub insert_gone :
      (text : List A) (n : ℕ) → count ≤ length text → count ≤ n → ComposeProgress a b built (Add text ∷ xs) (Skip n ∷ ys)
      → ComposeProgress a b built (skipped_made count (Add text ∷ xs)) (skipped count (Skip n ∷ ys))
  insert_gone text n in_first in_second w =
      let f : InsertLeft built.base count text xs (skipped_made count (Add text ∷ xs)) = insert_left built.base count (length text - count) text xs w.first_normal (omega arith) in
      let g : DeleteLeft count n ys (skipped count (Skip n ∷ ys)) = delete_left count n (n - count) ys w.second_normal (omega arith) in
      let made : length (map {B = Item A} New (take count text)) ≡ count = omega (arith, length-map (take count text) (λ (x : A). New x), length-take count text, in_first) in
      let step : filter_map (item_in (image_from built.base (Add text ∷ xs))) (image_from 0 (Skip n ∷ ys))
      ≡ filter_map (item_in (image_from built.base (skipped_made count (Add text ∷ xs)))) (image_from 0 (skipped count (Skip n ∷ ys))) =
      ap (λ image. filter_map (item_in image) (image_from 0 (Skip n ∷ ys))) f.image
      ∙ ap (filter_map (item_in (map New (take count text) ++ image_from built.base (skipped_made count (Add text ∷ xs))))) g.image
      ∙ gone_first (map New (take count text)) _ count (skipped count (Skip n ∷ ys)) made in
      record {
        first_normal = f.normal;
        second_normal = g.normal;
        covers = g.covers (target_of (skipped_made count (Add text ∷ xs))) (subst (λ k. Covers k (Skip n ∷ ys)) (sym f.target) w.covers);
        base = omega (arith, f.base, w.base);
        image = ap (λ rest. built.image ++ rest) (sym step) ∙ w.image;
      }

-- the end

over : {A : Type 0} (a b built : Operation A) (n : ℕ) → ComposeProgress a b built [] (Keep n ∷ []) → built ≡ compose a b
over {A} a b built n w =
    let nothing : filter_map (item_in {A = A} []) (olds 0 n ++ []) ≡ [] = rw append-nil (picked_none {A = A} [] 0 n (omega arith)) in
    same_parts _ _ _ _ (omega (arith, w.base)) (sym (append-nil built.image) ∙ ap (λ rest. built.image ++ rest) (sym nothing) ∙ w.image)

pub none_made : {A : Type 0} (a b built : Operation A) (ys : List (Run A)) → StartsOtherwise ys → ComposeProgress a b built [] ys → built ≡ compose a b
none_made a b built [] other w = same_parts _ _ _ _ (omega (arith, w.base)) (sym (append-nil built.image) ∙ w.image)
none_made a b built (Keep n ∷ []) other w = over a b built n w
none_made a b built (Keep n ∷ y ∷ ys) other w = absurd (omega (arith, w.covers.1, last_keep_within (y ∷ ys), w.second_normal.0))
none_made a b built (Add text ∷ ys) other w = absurd other
none_made a b built (Skip n ∷ []) other w = absurd (omega (arith, w.covers.1, w.second_normal.0))
none_made a b built (Skip n ∷ y ∷ ys) other w = absurd (omega (arith, w.covers.1, last_keep_within (y ∷ ys), w.second_normal.0))
