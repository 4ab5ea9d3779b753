-- The invariant of the loop of compose: what is built, and the composition of what is left, make the composition.
use Rattle.std.proofs.Common.{◌≡◌, ℕ, suc, zero, ◌+◌, ◌-◌, ◌≤◌, List, [], ◌∷◌, ◌++◌, length, take, drop, map, refl, sym, ap, Option, Some, None, ◌∙◌, arith, length-append, length-take, length-drop, append_assoc}
use Rattle.std.proofs.lemmas.List.{map-append, length-map}
use Rattle.std.proofs.lemmas.List.Elements.{filter_map-append}
use Rattle.std.proofs.Math.ListN.{take-append-drop}
use Rattle.std.specs.List.{filter_map, slice_get, cons_option}
use borrow.Author.Tests.{eq-eqb, ne_eqb}
use Rattle.ot_operation.specs.Operation.{Item, Operation, Old, New, olds, apply, invert, IsTooLong, empty}
use Rattle.ot_operation.specs.Compose.{compose, item_in}
use Rattle.ot_operation.specs.Run.{Run, base_of, image_from, operation_of, IsNormal, Keep, Add, Skip}
use Rattle.ot_operation.specs.Steps.{appended, target_of, skipped, skipped_made, last_keep, Covers}
use Rattle.ot_operation.proofs.Lists.{StandsAt, StandsAt-tail}
use Rattle.ot_operation.proofs.RunLemmas.{length-olds}
use Rattle.ot_operation.proofs.SkippedLaws.{skipped_retain-whole, skipped_retain-part, skipped_delete-whole, skipped_delete-part}
use Rattle.ot_operation.specs.Merge.{merge, merged, first_after, second_after}

slice_get-past : {X : Type 0} (xs ys : List X) (j k : ℕ) → k ≡ length xs + j → slice_get (xs ++ ys) k ≡ slice_get ys j
slice_get-past [] ys j k e = ap (slice_get ys) (let same : k ≡ j = omega (arith, e) in same)
slice_get-past (x ∷ xs) ys j zero e = absurd (omega (arith, e))
slice_get-past (x ∷ xs) ys j (suc k) e = slice_get-past xs ys j k (omega (arith, e))

pub picked_olds :
    {A : Type 0} (xs rest : List (Item A)) (i j count : ℕ) → j ≡ length xs + i
    → filter_map (item_in (xs ++ rest)) (olds j count) ≡ filter_map (item_in rest) (olds i count)
picked_olds xs rest i j zero e = refl
picked_olds xs rest i j (suc count) e =
    rw (slice_get-past xs rest i j e)
    (ap (cons_option (slice_get rest i)) (picked_olds xs rest (suc i) (suc j) count (omega (arith, e))))

pub picked_news :
    {A : Type 0} (image : List (Item A)) (text : List A) → filter_map (item_in image) (map New text) ≡ map New text
picked_news image [] = refl
picked_news image (x ∷ text) = ap (λ rest. New x ∷ rest) (picked_news image text)

-- past the first items
picked_later :
    {A : Type 0} (xs rest : List (Item A)) (i j : ℕ) (runs : List (Run A)) → j ≡ length xs + i
    → filter_map (item_in (xs ++ rest)) (image_from j runs) ≡ filter_map (item_in rest) (image_from i runs)
picked_later xs rest i j [] e = refl
picked_later xs rest i j (Keep count ∷ runs) e =
    filter_map-append (item_in (xs ++ rest)) (olds j count) (image_from (j + count) runs)
    ∙ rw (picked_olds xs rest i j count e, picked_later xs rest (i + count) (j + count) runs (omega (arith, e)))
    (sym (filter_map-append (item_in rest) (olds i count) (image_from (i + count) runs)))
picked_later xs rest i j (Add text ∷ runs) e =
    filter_map-append (item_in (xs ++ rest)) (map New text) (image_from j runs)
    ∙ rw (picked_news (xs ++ rest) text, picked_later xs rest i j runs e)
    (ap (λ front. front ++ filter_map (item_in rest) (image_from i runs)) (sym (picked_news rest text))
    ∙ sym (filter_map-append (item_in rest) (map New text) (image_from i runs)))
picked_later xs rest i j (Skip count ∷ runs) e = picked_later xs rest (i + count) (j + count) runs (omega (arith, e))

pub picked_here :
    {A : Type 0} (whole xs rest : List (Item A)) (place : ℕ) → StandsAt whole place (xs ++ rest)
    → filter_map (item_in whole) (olds place (length xs)) ≡ xs
picked_here whole [] rest place stands = refl
picked_here whole (x ∷ xs) rest place stands =
    rw (stands place zero (omega arith))
    (ap (λ more. x ∷ more) (picked_here whole xs rest (suc place) (StandsAt-tail whole place x (xs ++ rest) stands)))

-- the first items are kept
pub composed_kept :
    {A : Type 0} (xs rest : List (Item A)) (count : ℕ) (runs : List (Run A)) → length xs ≡ count
    → filter_map (item_in (xs ++ rest)) (olds 0 count ++ image_from count runs) ≡ xs ++ filter_map (item_in rest) (image_from 0 runs)
composed_kept xs rest count runs e =
    filter_map-append (item_in (xs ++ rest)) (olds 0 count) (image_from count runs)
    ∙ rw (
      ← e,
      picked_later xs rest 0 (length xs) runs (omega arith),
      picked_here (xs ++ rest) xs rest 0 (λ j k same. ap (slice_get (xs ++ rest)) (let here : j ≡ k = omega (arith, same) in here)),
    ) refl

-- or gone
composed_gone :
    {A : Type 0} (xs rest : List (Item A)) (count : ℕ) (runs : List (Run A)) → length xs ≡ count
    → filter_map (item_in (xs ++ rest)) (image_from count runs) ≡ filter_map (item_in rest) (image_from 0 runs)
composed_gone xs rest count runs e = picked_later xs rest 0 count runs (omega (arith, e))

-- the image of what is skipped

pub olds-append : {A : Type 0} (i j m n : ℕ) → j ≡ i + m → olds {A = A} i (m + n) ≡ olds i m ++ olds j n
olds-append {A} i j zero n e =
    let start : i ≡ j = omega (arith, e) in let count : 0 + n ≡ n = omega arith in rw (count, start) refl
olds-append {A} i j (suc m) n e =
    let count : suc m + n ≡ suc (m + n) = omega arith in
    rw count (ap (λ rest. Old i ∷ rest) (olds-append {A = A} (suc i) j m n (omega (arith, e))))

pub record RetainMade {A : Type 0} (i count : ℕ) (before after : List (Run A)) : Type 0 where
  pub normal : IsNormal after
  pub base : base_of after + count ≡ base_of before
  pub target : target_of after + count ≡ target_of before
  pub image : image_from i before ≡ olds i count ++ image_from (i + count) after

pub retain_made :
    {A : Type 0} (i count all m : ℕ) (runs : List (Run A)) → IsNormal (Keep all ∷ runs) → all ≡ count + m
    → RetainMade i count (Keep all ∷ runs) (skipped count (Keep all ∷ runs))
retain_made i count all zero runs normal e =
    let same : all ≡ count = omega (arith, e) in
    rw (skipped_retain-whole count all runs e)
    (record {
      normal = normal.2;
      base = omega (arith, e);
      target = omega (arith, e);
      image = ap (λ k. olds i k ++ image_from (i + k) runs) same;
    })
retain_made {A} i count all (suc m) runs normal e =
    let place : i + count + suc m ≡ i + all = omega (arith, e) in
    let image : image_from i (Keep all ∷ runs) ≡ olds i count ++ image_from (i + count) (Keep (suc m) ∷ runs) =
    ap (λ k. olds i k ++ image_from (i + all) runs) e
    ∙ ap (λ front. front ++ image_from (i + all) runs) (olds-append {A = A} i (i + count) count (suc m) refl)
    ∙ append_assoc (olds i count) (olds (i + count) (suc m)) (image_from (i + all) runs)
    ∙ ap (λ k. olds i count ++ (olds (i + count) (suc m) ++ image_from k runs)) (sym place) in
    rw (skipped_retain-part count all m runs e)
    (record {
      normal = (omega arith, normal.1, normal.2);
      base = omega (arith, e);
      target = omega (arith, e);
      image = image;
    })

record DeleteMade {A : Type 0} (i count : ℕ) (before after : List (Run A)) : Type 0 where
  normal : IsNormal after
  base : base_of after + count ≡ base_of before
  image : image_from i before ≡ image_from (i + count) after

delete_made :
    {A : Type 0} (i count all m : ℕ) (runs : List (Run A)) → IsNormal (Skip all ∷ runs) → all ≡ count + m
    → DeleteMade i count (Skip all ∷ runs) (skipped count (Skip all ∷ runs))
delete_made i count all zero runs normal e =
    let same : all ≡ count = omega (arith, e) in
    rw (skipped_delete-whole count all runs e)
    (record { normal = normal.2; base = omega (arith, e); image = ap (λ k. image_from (i + k) runs) same })
delete_made i count all (suc m) runs normal e =
    let place : i + all ≡ i + count + suc m = omega (arith, e) in
    rw (skipped_delete-part count all m runs e)
    (record { normal = (omega arith, normal.1, normal.2); base = omega (arith, e); image = ap (λ k. image_from k runs) place })

record InsertMade {A : Type 0} (i count : ℕ) (text : List A) (before after : List (Run A)) : Type 0 where
  normal : IsNormal after
  base : base_of after ≡ base_of before
  target : target_of after + count ≡ target_of before
  image : image_from i before ≡ map New (take count text) ++ image_from i after

take_whole : {X : Type 0} (xs : List X) (count : ℕ) → count ≡ length xs → take count xs ≡ xs
take_whole [] zero e = refl
take_whole [] (suc count) e = refl
take_whole (x ∷ xs) zero e = absurd (omega (arith, e))
take_whole (x ∷ xs) (suc count) e = ap (λ rest. x ∷ rest) (take_whole xs count (omega (arith, e)))

insert_made :
    {A : Type 0} (i count m : ℕ) (text : List A) (runs : List (Run A)) → IsNormal (Add text ∷ runs) → length text ≡ count + m
    → InsertMade i count text (Add text ∷ runs) (skipped_made count (Add text ∷ runs))
insert_made i count zero text runs normal e =
    rw (eq-eqb count (length text) (omega (arith, e)))
    (record {
      normal = normal.2;
      base = refl;
      target = omega (arith, e);
      image = ap (λ front. map New front ++ image_from i runs) (sym (take_whole text count (omega (arith, e))));
    })
insert_made i count (suc m) text runs normal e =
    let left : length (drop count text) ≡ suc m = simp length-drop (omega (arith, e)) in
    let image : map New text ++ image_from i runs ≡ map New (take count text) ++ (map New (drop count text) ++ image_from i runs) =
    ap (λ whole. map New whole ++ image_from i runs) (sym (take-append-drop count text))
    ∙ ap (λ front. front ++ image_from i runs) (map-append New (take count text) (drop count text))
    ∙ append_assoc (map New (take count text)) (map New (drop count text)) (image_from i runs) in
    rw (ne_eqb count (length text) (omega (arith, e)))
    (record {
      normal = (omega (arith, left), normal.1, normal.2);
      base = refl;
      target = omega (arith, e, left);
      image = image;
    })

-- what is covered falls with what covers it

pub last_keep_within : {A : Type 0} (ys : List (Run A)) → last_keep ys ≤ base_of ys
last_keep_within [] = omega arith
last_keep_within (Keep n ∷ []) = omega arith
last_keep_within (Add text ∷ []) = omega arith
last_keep_within (Skip n ∷ []) = omega arith
last_keep_within (Keep n ∷ y ∷ ys) = omega (arith, last_keep_within (y ∷ ys))
last_keep_within (Add text ∷ y ∷ ys) = last_keep_within (y ∷ ys)
last_keep_within (Skip n ∷ y ∷ ys) = omega (arith, last_keep_within (y ∷ ys))

pub covers_exactly : {A : Type 0} (count : ℕ) (ys : List (Run A)) → count ≡ base_of ys → Covers count ys
covers_exactly count ys e = (omega (arith, e), omega (arith, e))

covers_insert : {A : Type 0} (made : ℕ) (text : List A) (ys : List (Run A)) → Covers made (Add text ∷ ys) → Covers made ys
covers_insert made text [] w = w
covers_insert made text (y ∷ ys) w = w

covers_retain :
    {A : Type 0} (count n made : ℕ) (ys : List (Run A)) → count ≤ n → Covers (made + count) (Keep n ∷ ys) → Covers made (skipped count (Keep n ∷ ys))
covers_retain {A} count n made ys within w = by ys (n - count) (omega (arith, within)) w
  where
    by : (ys : List (Run A)) (m : ℕ) → n ≡ count + m → Covers (made + count) (Keep n ∷ ys) → Covers made (skipped count (Keep n ∷ ys))
    by [] zero e w = rw (skipped_retain-whole count n [] e) (omega (arith, w.0, e), omega arith)
    by [] (suc m) e w = rw (skipped_retain-part count n m [] e) (omega (arith, w.0, e), omega arith)
    by (y ∷ ys) zero e w = rw (skipped_retain-whole count n (y ∷ ys) e) (omega (arith, w.0, e), omega (arith, w.1, e))
    by (y ∷ ys) (suc m) e w = rw (skipped_retain-part count n m (y ∷ ys) e) (omega (arith, w.0, e), omega (arith, w.1, e))

covers_delete :
    {A : Type 0} (count n made : ℕ) (ys : List (Run A)) → count ≤ n → Covers (made + count) (Skip n ∷ ys) → Covers made (skipped count (Skip n ∷ ys))
covers_delete {A} count n made ys within w = by ys (n - count) (omega (arith, within)) w
  where
    by : (ys : List (Run A)) (m : ℕ) → n ≡ count + m → Covers (made + count) (Skip n ∷ ys) → Covers made (skipped count (Skip n ∷ ys))
    by [] zero e w = rw (skipped_delete-whole count n [] e) (omega (arith, w.0, e), omega arith)
    by [] (suc m) e w = rw (skipped_delete-part count n m [] e) (omega (arith, w.0, e), omega (arith, w.1, e))
    by (y ∷ ys) zero e w = rw (skipped_delete-whole count n (y ∷ ys) e) (omega (arith, w.0, e), omega (arith, w.1, e))
    by (y ∷ ys) (suc m) e w = rw (skipped_delete-part count n m (y ∷ ys) e) (omega (arith, w.0, e), omega (arith, w.1, e))

-- `built` is made, `xs` and `ys` are left
pub record ComposeProgress {A : Type 0} (a b : Operation A) (built : Operation A) (xs ys : List (Run A)) : Type 0 where
  pub first_normal : IsNormal xs
  pub second_normal : IsNormal ys
  pub covers : Covers (target_of xs) ys
  pub base : built.base + base_of xs ≡ (compose a b).base
  pub image : built.image ++ filter_map (item_in (image_from built.base xs)) (image_from 0 ys) ≡ (compose a b).image

pub compose_start :
    {A : Type 0} (xs ys : List (Run A)) → IsNormal xs → IsNormal ys → Covers (target_of xs) ys
    → ComposeProgress (operation_of xs) (operation_of ys) empty xs ys
unfolding apply compose invert merge merged first_after second_after
compose_start xs ys first_normal second_normal covers =
    record { first_normal = first_normal; second_normal = second_normal; covers = covers; base = omega arith; image = refl }

-- operations that fit together

-- the first deletes
pub compose_delete :
    {A : Type 0} (a b built : Operation A) (count : ℕ) (xs ys : List (Run A))
    → ComposeProgress a b built (Skip count ∷ xs) ys → ComposeProgress a b (appended built (Skip count)) xs ys
compose_delete a b built count xs ys w =
    record {
      first_normal = w.first_normal.2;
      second_normal = w.second_normal;
      covers = w.covers;
      base = omega (arith, w.base);
      image = w.image;
    }

-- the second inserts
pub compose_insert :
    {A : Type 0} (a b built : Operation A) (text : List A) (xs ys : List (Run A))
    → ComposeProgress a b built xs (Add text ∷ ys) → ComposeProgress a b (appended built (Add text)) xs ys
compose_insert a b built text xs ys w =
    let step : filter_map (item_in (image_from built.base xs)) (map New text ++ image_from 0 ys)
    ≡ map New text ++ filter_map (item_in (image_from built.base xs)) (image_from 0 ys) =
    filter_map-append (item_in (image_from built.base xs)) (map New text) (image_from 0 ys)
    ∙ ap (λ front. front ++ filter_map (item_in (image_from built.base xs)) (image_from 0 ys)) (picked_news (image_from built.base xs) text) in
    record {
      first_normal = w.first_normal;
      second_normal = w.second_normal.2;
      covers = covers_insert (target_of xs) text ys w.covers;
      base = w.base;
      image = append_assoc built.image (map New text) _ ∙ ap (λ rest. built.image ++ rest) (sym step) ∙ w.image;
    }

module _ {A : Type 0} (a b built : Operation A) (count : ℕ) (xs ys : List (Run A)) where
  pub retain_retain :
      (m n : ℕ) → count ≤ m → count ≤ n → ComposeProgress a b built (Keep m ∷ xs) (Keep n ∷ ys)
      → ComposeProgress a b (appended built (Keep count)) (skipped count (Keep m ∷ xs)) (skipped count (Keep n ∷ ys))
  retain_retain m n in_first in_second w =
      let f : RetainMade built.base count (Keep m ∷ xs) (skipped count (Keep m ∷ xs)) =
      retain_made built.base count m (m - count) xs w.first_normal (omega arith) in
      let g : RetainMade 0 count (Keep n ∷ ys) (skipped count (Keep n ∷ ys)) =
      retain_made 0 count n (n - count) ys w.second_normal (omega arith) in
      let here : 0 + count ≡ count = omega arith in
      let step : filter_map (item_in (image_from built.base (Keep m ∷ xs))) (image_from 0 (Keep n ∷ ys))
      ≡ olds built.base count ++ filter_map (item_in (image_from (built.base + count) (skipped count (Keep m ∷ xs)))) (image_from 0 (skipped count (Keep n ∷ ys))) =
      ap (λ image. filter_map (item_in image) (image_from 0 (Keep n ∷ ys))) f.image
      ∙ ap (filter_map (item_in (olds built.base count ++ image_from (built.base + count) (skipped count (Keep m ∷ xs)))))
      (g.image ∙ ap (λ k. olds 0 count ++ image_from k (skipped count (Keep n ∷ ys))) here)
      ∙ composed_kept (olds built.base count) _ count (skipped count (Keep n ∷ ys)) (length-olds A built.base count) in
      record {
        first_normal = f.normal;
        second_normal = g.normal;
        covers = covers_retain count n (target_of (skipped count (Keep m ∷ xs))) ys in_second (rw (sym f.target) at w.covers);
        base = omega (arith, f.base, w.base);
        image = append_assoc built.image (olds built.base count) _ ∙ ap (λ rest. built.image ++ rest) (sym step) ∙ w.image;
      }

  retain_delete :
      (m n : ℕ) → count ≤ m → count ≤ n → ComposeProgress a b built (Keep m ∷ xs) (Skip n ∷ ys)
      → ComposeProgress a b (appended built (Skip count)) (skipped count (Keep m ∷ xs)) (skipped count (Skip n ∷ ys))
  retain_delete m n in_first in_second w =
      let f : RetainMade built.base count (Keep m ∷ xs) (skipped count (Keep m ∷ xs)) =
      retain_made built.base count m (m - count) xs w.first_normal (omega arith) in
      let g : DeleteMade 0 count (Skip n ∷ ys) (skipped count (Skip n ∷ ys)) =
      delete_made 0 count n (n - count) ys w.second_normal (omega arith) in
      let here : 0 + count ≡ count = omega arith in
      let step : filter_map (item_in (image_from built.base (Keep m ∷ xs))) (image_from 0 (Skip n ∷ ys))
      ≡ filter_map (item_in (image_from (built.base + count) (skipped count (Keep m ∷ xs)))) (image_from 0 (skipped count (Skip n ∷ ys))) =
      ap (λ image. filter_map (item_in image) (image_from 0 (Skip n ∷ ys))) f.image
      ∙ ap (filter_map (item_in (olds built.base count ++ image_from (built.base + count) (skipped count (Keep m ∷ xs)))))
      (g.image ∙ ap (λ k. image_from k (skipped count (Skip n ∷ ys))) here)
      ∙ composed_gone (olds built.base count) _ count (skipped count (Skip n ∷ ys)) (length-olds A built.base count) in
      record {
        first_normal = f.normal;
        second_normal = g.normal;
        covers = covers_delete count n (target_of (skipped count (Keep m ∷ xs))) ys in_second (rw (sym f.target) at w.covers);
        base = omega (arith, f.base, w.base);
        image = ap (λ rest. built.image ++ rest) (sym step) ∙ w.image;
      }

  pub insert_retain :
      (text : List A) (n : ℕ) → count ≤ length text → count ≤ n → ComposeProgress a b built (Add text ∷ xs) (Keep n ∷ ys)
      → ComposeProgress a b (appended built (Add (take count text))) (skipped_made count (Add text ∷ xs)) (skipped count (Keep n ∷ ys))
  insert_retain text n in_first in_second w =
      let f : InsertMade built.base count text (Add text ∷ xs) (skipped_made count (Add text ∷ xs)) =
      insert_made built.base count (length text - count) text xs w.first_normal (omega arith) in
      let g : RetainMade 0 count (Keep n ∷ ys) (skipped count (Keep n ∷ ys)) =
      retain_made 0 count n (n - count) ys w.second_normal (omega arith) in
      let here : 0 + count ≡ count = omega arith in
      let made : length (map {B = Item A} New (take count text)) ≡ count = simp (length-map, length-take) (omega arith) in
      let step : filter_map (item_in (image_from built.base (Add text ∷ xs))) (image_from 0 (Keep n ∷ ys))
      ≡ map New (take count text) ++ filter_map (item_in (image_from built.base (skipped_made count (Add text ∷ xs)))) (image_from 0 (skipped count (Keep n ∷ ys))) =
      ap (λ image. filter_map (item_in image) (image_from 0 (Keep n ∷ ys))) f.image
      ∙ ap (filter_map (item_in (map New (take count text) ++ image_from built.base (skipped_made count (Add text ∷ xs)))))
      (g.image ∙ ap (λ k. olds 0 count ++ image_from k (skipped count (Keep n ∷ ys))) here)
      ∙ composed_kept (map New (take count text)) _ count (skipped count (Keep n ∷ ys)) made in
      record {
        first_normal = f.normal;
        second_normal = g.normal;
        covers = covers_retain count n (target_of (skipped_made count (Add text ∷ xs))) ys in_second (rw (sym f.target) at w.covers);
        base = omega (arith, f.base, w.base);
        image = append_assoc built.image (map New (take count text)) _ ∙ ap (λ rest. built.image ++ rest) (sym step) ∙ w.image;
      }

  insert_delete :
      (text : List A) (n : ℕ) → count ≤ length text → count ≤ n → ComposeProgress a b built (Add text ∷ xs) (Skip n ∷ ys)
      → ComposeProgress a b built (skipped_made count (Add text ∷ xs)) (skipped count (Skip n ∷ ys))
  insert_delete text n in_first in_second w =
      let f : InsertMade built.base count text (Add text ∷ xs) (skipped_made count (Add text ∷ xs)) =
      insert_made built.base count (length text - count) text xs w.first_normal (omega arith) in
      let g : DeleteMade 0 count (Skip n ∷ ys) (skipped count (Skip n ∷ ys)) =
      delete_made 0 count n (n - count) ys w.second_normal (omega arith) in
      let here : 0 + count ≡ count = omega arith in
      let made : length (map {B = Item A} New (take count text)) ≡ count = simp (length-map, length-take) (omega arith) in
      let step : filter_map (item_in (image_from built.base (Add text ∷ xs))) (image_from 0 (Skip n ∷ ys))
      ≡ filter_map (item_in (image_from built.base (skipped_made count (Add text ∷ xs)))) (image_from 0 (skipped count (Skip n ∷ ys))) =
      ap (λ image. filter_map (item_in image) (image_from 0 (Skip n ∷ ys))) f.image
      ∙ ap (filter_map (item_in (map New (take count text) ++ image_from built.base (skipped_made count (Add text ∷ xs)))))
      (g.image ∙ ap (λ k. image_from k (skipped count (Skip n ∷ ys))) here)
      ∙ composed_gone (map New (take count text)) _ count (skipped count (Skip n ∷ ys)) made in
      record {
        first_normal = f.normal;
        second_normal = g.normal;
        covers = covers_delete count n (target_of (skipped_made count (Add text ∷ xs))) ys in_second (rw (sym f.target) at w.covers);
        base = omega (arith, f.base, w.base);
        image = ap (λ rest. built.image ++ rest) (sym step) ∙ w.image;
      }

-- the arms of the loop

-- past the end of an image nothing is picked
pub picked_none : {A : Type 0} (image : List (Item A)) (j count : ℕ) → length image ≤ j → filter_map (item_in image) (olds j count) ≡ []
picked_none image j zero past = refl
picked_none image j (suc count) past = rw (none image j past) (picked_none image (suc j) count (omega (arith, past)))
  where
    none : {X : Type 0} (xs : List X) (j : ℕ) → length xs ≤ j → slice_get xs j ≡ None
    none [] j past = refl
    none (x ∷ xs) zero past = absurd (omega (arith, past))
    none (x ∷ xs) (suc j) past = none xs j (omega (arith, past))

-- what is built is never longer than what comes out
pub compose_fits :
    {A : Type 0} (a b built : Operation A) (xs ys : List (Run A)) → ComposeProgress a b built xs ys
    → (length built.image ≤ length (compose a b).image) × (built.base ≤ a.base)
unfolding apply compose invert merge merged first_after second_after
compose_fits a b built xs ys w = (
  omega (arith, ap length w.image, length-append built.image (filter_map (item_in (image_from built.base xs)) (image_from 0 ys))),
  omega (arith, w.base),
)

-- what the arms add is never too long

pub record ComposeBounds {A : Type 0} (a b : Operation A) : Type 0 where
  pub base_fits : a.base ≤ 1000000
  pub target_fits : length (compose a b).image ≤ 1000000

at_most_one : {Y : Type 0} (o : Option Y) (ys : List Y) (n : ℕ) → length ys ≤ n → length (cons_option o ys) ≤ suc n
at_most_one None ys n within = omega (arith, within)
at_most_one (Some y) ys n within = omega (arith, within)

length-filter_map-le : {X Y : Type 0} (h : X → Option Y) (xs : List X) → length (filter_map h xs) ≤ length xs
length-filter_map-le h [] = omega arith
length-filter_map-le h (x ∷ xs) = at_most_one (h x) (filter_map h xs) (length xs) (length-filter_map-le h xs)

pub bounds_of : {A : Type 0} (xs ys : List (Run A)) → base_of xs ≤ 1000000 → length (image_from 0 ys) ≤ 1000000 → ComposeBounds (operation_of xs) (operation_of ys)
unfolding compose
bounds_of xs ys base_fits target_fits =
    record { base_fits = base_fits; target_fits = omega (arith, target_fits, length-filter_map-le (item_in (image_from 0 xs)) (image_from 0 ys)) }

pub small :
    {A : Type 0} (a b built : Operation A) (xs ys : List (Run A)) → ComposeBounds a b → ComposeProgress a b built xs ys
    → IsTooLong built → ⊥
small a b built xs ys bounds w =
    let fits = compose_fits a b built xs ys w in
    let image_fits = fits.0 in
    let base_fits = fits.1 in
    λ long. omega (arith, image_fits, base_fits, long, bounds.base_fits, bounds.target_fits)
