-- The invariant of the loop of transform: what is built, and the merge of what is left, make the transformed operations.
use Rattle.std.proofs.Common.{◌≡◌, ℕ, suc, zero, ◌+◌, ◌-◌, ◌≤◌, List, [], ◌∷◌, ◌++◌, length, map, max, refl, sym, ap, subst, ◌∙◌, arith, length-append, append_assoc, append-nil}
use Rattle.std.proofs.lemmas.List.{length-map}
use Rattle.ot_operation.specs.Operation.{Operation, IsOperation, news, Old, New, olds, apply, invert, empty}
use Rattle.ot_operation.proofs.OrderLaws.{length-merge, length-image}
use Rattle.ot_operation.specs.Merge.{Merged, merge, over_first, over_second, first_after, second_after, merged}
use Rattle.ot_operation.specs.Merge.Merged.{First, Second}
use Rattle.ot_operation.specs.Run.{Run, base_of, operation_of, IsNormal, Keep, Add, Skip}
use Rattle.ot_operation.specs.Steps.{appended, target_of, skipped}
use Rattle.ot_operation.proofs.Slots.{after, placed}
use Rattle.ot_operation.proofs.TransformedLaws.{after-length}
use Rattle.ot_operation.proofs.SlotsMerged.{merge-slots_merged}
use Rattle.ot_operation.proofs.RunSlots.{stays, slots_of_runs, StartsOtherwise, no_front, image-slots_of_runs, length-slots_of_runs}
use Rattle.ot_operation.proofs.RunLengths.{length-image_from}
use Rattle.ot_operation.proofs.MergeSteps.{forms_merged, gone, runs_merged, runs_merged-insert_first, runs_merged-insert_second, boths, both_stay, first_goes, second_goes, both_go}
use Rattle.ot_operation.proofs.SkippedLaws.{RetainSkipped, skipped_retain, DeleteSkipped, skipped_delete, delete_form}
use Rattle.ot_operation.specs.Compose.{compose}

-- the parts of a merge, xs items

placed_new : {A : Type 0} (place : ℕ) (text : List A) (rest : List (Merged A))
    → map over_second (placed First place text ++ rest) ≡ map New text ++ map over_second rest
placed_new place [] rest = refl
placed_new place (x ∷ text) rest = ap (λ more. New x ∷ more) (placed_new (suc place) text rest)

placed_old : {A : Type 0} (place : ℕ) (text : List A) (rest : List (Merged A))
    → map over_first (placed First place text ++ rest) ≡ olds place (length text) ++ map over_first rest
placed_old place [] rest = refl
placed_old place (x ∷ text) rest = ap (λ more. Old place ∷ more) (placed_old (suc place) text rest)

second_new : {A : Type 0} (place : ℕ) (text : List A) (rest : List (Merged A))
    → map over_first (placed Second place text ++ rest) ≡ map New text ++ map over_first rest
second_new place [] rest = refl
second_new place (x ∷ text) rest = ap (λ more. New x ∷ more) (second_new (suc place) text rest)

second_old : {A : Type 0} (place : ℕ) (text : List A) (rest : List (Merged A))
    → map over_second (placed Second place text ++ rest) ≡ olds place (length text) ++ map over_second rest
second_old place [] rest = refl
second_old place (x ∷ text) rest = ap (λ more. Old place ∷ more) (second_old (suc place) text rest)

boths_first : {A : Type 0} (i p q count : ℕ) (rest : List (Merged A))
    → map over_first (boths i p q count ++ rest) ≡ olds p count ++ map over_first rest
boths_first i p q zero rest = refl
boths_first i p q (suc count) rest = ap (λ more. Old p ∷ more) (boths_first (suc i) (suc p) (suc q) count rest)

boths_second : {A : Type 0} (i p q count : ℕ) (rest : List (Merged A))
    → map over_second (boths i p q count ++ rest) ≡ olds q count ++ map over_second rest
boths_second i p q zero rest = refl
boths_second i p q (suc count) rest = ap (λ more. Old q ∷ more) (boths_second (suc i) (suc p) (suc q) count rest)

-- `first` and `second` are built, `xs` and `ys` are left
pub record Progress {A : Type 0} (a b : Operation A) (first second : Operation A) (xs ys : List (Run A)) : Type 0 where
  pub at : ℕ
  pub first_normal : IsNormal xs
  pub second_normal : IsNormal ys
  pub same_base : base_of xs ≡ base_of ys
  pub first_image : first.image ++ map over_second (runs_merged second.base first.base at xs ys) ≡ (first_after a b).image
  pub second_image : second.image ++ map over_first (runs_merged second.base first.base at xs ys) ≡ (second_after a b).image
  pub first_base : first.base + target_of ys ≡ (first_after a b).base
  pub second_base : second.base + target_of xs ≡ (second_after a b).base

pub progress_start :
    {A : Type 0} (xs ys : List (Run A)) → IsNormal xs → IsNormal ys → base_of xs ≡ base_of ys
    → Progress (operation_of xs) (operation_of ys) (operation_of []) (operation_of []) xs ys
unfolding apply compose invert merge merged first_after second_after
progress_start xs ys first_normal second_normal same =
    let whole : runs_merged 0 0 0 xs ys ≡ merge (operation_of xs) (operation_of ys) =
    sym (merge-slots_merged (operation_of xs) (operation_of ys) (slots_of_runs xs).0 (slots_of_runs ys).0 (slots_of_runs xs).1 (slots_of_runs ys).1
    (image-slots_of_runs 0 xs) (image-slots_of_runs 0 ys) (length-slots_of_runs xs) (length-slots_of_runs ys ∙ sym same)) in
    record {
      at = 0;
      first_normal = first_normal;
      second_normal = second_normal;
      same_base = same;
      first_image = ap (map over_second) whole;
      second_image = ap (map over_first) whole;
      first_base = omega (arith, length-image_from 0 ys);
      second_base = omega (arith, length-image_from 0 xs);
    }

pub progress_begin :
    {A : Type 0} (a b : Operation A) (xs ys : List (Run A)) → operation_of xs ≡ a → operation_of ys ≡ b
    → IsNormal xs → IsNormal ys → a.base ≡ b.base → Progress a b empty empty xs ys
progress_begin {A} a b xs ys a_is b_is first_normal second_normal same =
    let same_runs : base_of xs ≡ base_of ys =
    ap (λ (op : Operation A). op.base) a_is ∙ same ∙ sym (ap (λ (op : Operation A). op.base) b_is) in
    rw (← a_is, ← b_is) (progress_start xs ys first_normal second_normal same_runs)

pub progress_insert_first :
    {A : Type 0} (a b first second : Operation A) (text : List A) (xs ys : List (Run A))
    → Progress a b first second (Add text ∷ xs) ys
    → Progress a b (appended first (Add text)) (appended second (Keep (length text))) xs ys
progress_insert_first a b first second text xs ys w =
    let place : after second.base text ≡ second.base + length text = after-length second.base text in
    let step : runs_merged second.base first.base w.at (Add text ∷ xs) ys
    ≡ placed First second.base text ++ runs_merged (second.base + length text) first.base w.at xs ys =
    rw (← place) (runs_merged-insert_first second.base first.base w.at text xs ys) in
    record {
      at = w.at;
      first_normal = w.first_normal.2;
      second_normal = w.second_normal;
      same_base = w.same_base;
      first_image =
          append_assoc first.image (map New text) _
          ∙ ap (λ more. first.image ++ more) (sym (ap (map over_second) step ∙ placed_new second.base text _)) ∙ w.first_image;
      second_image =
          append_assoc second.image (olds second.base (length text)) _
          ∙ ap (λ more. second.image ++ more) (sym (ap (map over_first) step ∙ placed_old second.base text _)) ∙ w.second_image;
      first_base = w.first_base;
      second_base = omega (arith, w.second_base);
    }

pub progress_insert_second :
    {A : Type 0} (a b first second : Operation A) (text : List A) (xs ys : List (Run A)) → StartsOtherwise xs
    → Progress a b first second xs (Add text ∷ ys)
    → Progress a b (appended first (Keep (length text))) (appended second (Add text)) xs ys
progress_insert_second a b first second text xs ys otherwise w =
    let place : after first.base text ≡ first.base + length text = after-length first.base text in
    let step : runs_merged second.base first.base w.at xs (Add text ∷ ys)
    ≡ placed Second first.base text ++ runs_merged second.base (first.base + length text) w.at xs ys =
    rw (← place) (runs_merged-insert_second second.base first.base w.at text xs ys (no_front xs otherwise w.first_normal)) in
    record {
      at = w.at;
      first_normal = w.first_normal;
      second_normal = w.second_normal.2;
      same_base = w.same_base;
      first_image =
          append_assoc first.image (olds first.base (length text)) _
          ∙ ap (λ more. first.image ++ more) (sym (ap (map over_second) step ∙ second_old first.base text _)) ∙ w.first_image;
      second_image =
          append_assoc second.image (map New text) _
          ∙ ap (λ more. second.image ++ more) (sym (ap (map over_first) step ∙ second_new first.base text _)) ∙ w.second_image;
      first_base = omega (arith, w.first_base);
      second_base = w.second_base;
    }

-- `count` of the elements at which both stand
module _ {A : Type 0} (a b first second : Operation A) (count m n : ℕ) (xs ys : List (Run A)) (in_first : count ≤ m) (in_second : count ≤ n) where
  pub progress_both_stay :
      Progress a b first second (Keep m ∷ xs) (Keep n ∷ ys)
      → Progress a b (appended first (Keep count)) (appended second (Keep count)) (skipped count (Keep m ∷ xs)) (skipped count (Keep n ∷ ys))
  progress_both_stay w =
      let em : m ≡ count + (m - count) = omega arith in
      let en : n ≡ count + (n - count) = omega arith in
      let f : RetainSkipped count (m - count) xs (Keep m ∷ xs) (skipped count (Keep m ∷ xs)) = skipped_retain count m (m - count) xs w.first_normal em in
      let g : RetainSkipped count (n - count) ys (Keep n ∷ ys) (skipped count (Keep n ∷ ys)) = skipped_retain count n (n - count) ys w.second_normal en in
      let step : runs_merged second.base first.base w.at (Keep m ∷ xs) (Keep n ∷ ys)
      ≡ boths w.at second.base first.base count
      ++ runs_merged (second.base + count) (first.base + count) (w.at + count) (skipped count (Keep m ∷ xs)) (skipped count (Keep n ∷ ys)) =
      rw (f.form, g.form)
      (ap (λ k. runs_merged second.base first.base w.at (Keep k ∷ xs) (Keep n ∷ ys)) em
      ∙ ap (λ k. runs_merged second.base first.base w.at (Keep (count + (m - count)) ∷ xs) (Keep k ∷ ys)) en
      ∙ both_stay second.base first.base w.at count (m - count) (n - count) (slots_of_runs xs) (slots_of_runs ys)) in
      record {
        at = w.at + count;
        first_normal = f.normal;
        second_normal = g.normal;
        same_base = omega (arith, f.base, g.base, w.same_base);
        first_image =
            append_assoc first.image (olds first.base count) _
            ∙ ap (λ more. first.image ++ more) (sym (ap (map over_second) step ∙ boths_second w.at second.base first.base count _)) ∙ w.first_image;
        second_image =
            append_assoc second.image (olds second.base count) _
            ∙ ap (λ more. second.image ++ more) (sym (ap (map over_first) step ∙ boths_first w.at second.base first.base count _)) ∙ w.second_image;
        first_base = omega (arith, w.first_base, g.target);
        second_base = omega (arith, w.second_base, f.target);
      }

  pub progress_first_goes :
      Progress a b first second (Skip m ∷ xs) (Keep n ∷ ys)
      → Progress a b (appended first (Skip count)) second (skipped count (Skip m ∷ xs)) (skipped count (Keep n ∷ ys))
  progress_first_goes w =
      let em : m ≡ count + (m - count) = omega arith in
      let en : n ≡ count + (n - count) = omega arith in
      let f : DeleteSkipped count (m - count) xs (Skip m ∷ xs) (skipped count (Skip m ∷ xs)) = skipped_delete count m (m - count) xs w.first_normal em in
      let g : RetainSkipped count (n - count) ys (Keep n ∷ ys) (skipped count (Keep n ∷ ys)) = skipped_retain count n (n - count) ys w.second_normal en in
      let step : runs_merged second.base first.base w.at (Skip m ∷ xs) (Keep n ∷ ys)
      ≡ runs_merged second.base (first.base + count) (w.at + count) (skipped count (Skip m ∷ xs)) (skipped count (Keep n ∷ ys)) =
      rw (f.form, g.form)
      (ap (λ form. forms_merged second.base first.base w.at form (stays n (slots_of_runs ys))) (delete_form m xs w.first_normal)
      ∙ ap (λ k. forms_merged second.base first.base w.at (gone k (slots_of_runs xs).1) (stays n (slots_of_runs ys))) em
      ∙ ap (λ k. forms_merged second.base first.base w.at (gone (count + (m - count)) (slots_of_runs xs).1) (stays k (slots_of_runs ys))) en
      ∙ first_goes second.base first.base w.at count (m - count) (n - count) (slots_of_runs xs).1 (slots_of_runs ys)) in
      record {
        at = w.at + count;
        first_normal = f.normal;
        second_normal = g.normal;
        same_base = omega (arith, f.base, g.base, w.same_base);
        first_image = ap (λ more. first.image ++ map over_second more) (sym step) ∙ w.first_image;
        second_image = ap (λ more. second.image ++ map over_first more) (sym step) ∙ w.second_image;
        first_base = omega (arith, w.first_base, g.target);
        second_base = omega (arith, w.second_base, f.target);
      }

  pub progress_second_goes :
      Progress a b first second (Keep m ∷ xs) (Skip n ∷ ys)
      → Progress a b first (appended second (Skip count)) (skipped count (Keep m ∷ xs)) (skipped count (Skip n ∷ ys))
  progress_second_goes w =
      let em : m ≡ count + (m - count) = omega arith in
      let en : n ≡ count + (n - count) = omega arith in
      let f : RetainSkipped count (m - count) xs (Keep m ∷ xs) (skipped count (Keep m ∷ xs)) = skipped_retain count m (m - count) xs w.first_normal em in
      let g : DeleteSkipped count (n - count) ys (Skip n ∷ ys) (skipped count (Skip n ∷ ys)) = skipped_delete count n (n - count) ys w.second_normal en in
      let step : runs_merged second.base first.base w.at (Keep m ∷ xs) (Skip n ∷ ys)
      ≡ runs_merged (second.base + count) first.base (w.at + count) (skipped count (Keep m ∷ xs)) (skipped count (Skip n ∷ ys)) =
      rw (f.form, g.form)
      (ap (λ form. forms_merged second.base first.base w.at (stays m (slots_of_runs xs)) form) (delete_form n ys w.second_normal)
      ∙ ap (λ k. forms_merged second.base first.base w.at (stays k (slots_of_runs xs)) (gone n (slots_of_runs ys).1)) em
      ∙ ap (λ k. forms_merged second.base first.base w.at (stays (count + (m - count)) (slots_of_runs xs)) (gone k (slots_of_runs ys).1)) en
      ∙ second_goes second.base first.base w.at count (m - count) (n - count) (slots_of_runs xs) (slots_of_runs ys).1) in
      record {
        at = w.at + count;
        first_normal = f.normal;
        second_normal = g.normal;
        same_base = omega (arith, f.base, g.base, w.same_base);
        first_image = ap (λ more. first.image ++ map over_second more) (sym step) ∙ w.first_image;
        second_image = ap (λ more. second.image ++ map over_first more) (sym step) ∙ w.second_image;
        first_base = omega (arith, w.first_base, g.target);
        second_base = omega (arith, w.second_base, f.target);
      }

  pub progress_both_go :
      Progress a b first second (Skip m ∷ xs) (Skip n ∷ ys)
      → Progress a b first second (skipped count (Skip m ∷ xs)) (skipped count (Skip n ∷ ys))
  progress_both_go w =
      let em : m ≡ count + (m - count) = omega arith in
      let en : n ≡ count + (n - count) = omega arith in
      let f : DeleteSkipped count (m - count) xs (Skip m ∷ xs) (skipped count (Skip m ∷ xs)) = skipped_delete count m (m - count) xs w.first_normal em in
      let g : DeleteSkipped count (n - count) ys (Skip n ∷ ys) (skipped count (Skip n ∷ ys)) = skipped_delete count n (n - count) ys w.second_normal en in
      let step : runs_merged second.base first.base w.at (Skip m ∷ xs) (Skip n ∷ ys)
      ≡ runs_merged second.base first.base (w.at + count) (skipped count (Skip m ∷ xs)) (skipped count (Skip n ∷ ys)) =
      rw (f.form, g.form)
      (ap (λ form. forms_merged second.base first.base w.at form (slots_of_runs (Skip n ∷ ys))) (delete_form m xs w.first_normal)
      ∙ ap (λ form. forms_merged second.base first.base w.at (gone m (slots_of_runs xs).1) form) (delete_form n ys w.second_normal)
      ∙ ap (λ k. forms_merged second.base first.base w.at (gone k (slots_of_runs xs).1) (gone n (slots_of_runs ys).1)) em
      ∙ ap (λ k. forms_merged second.base first.base w.at (gone (count + (m - count)) (slots_of_runs xs).1) (gone k (slots_of_runs ys).1)) en
      ∙ both_go second.base first.base w.at count (m - count) (n - count) (slots_of_runs xs).1 (slots_of_runs ys).1) in
      record {
        at = w.at + count;
        first_normal = f.normal;
        second_normal = g.normal;
        same_base = omega (arith, f.base, g.base, w.same_base);
        first_image = ap (λ more. first.image ++ map over_second more) (sym step) ∙ w.first_image;
        second_image = ap (λ more. second.image ++ map over_first more) (sym step) ∙ w.second_image;
        first_base = omega (arith, w.first_base, g.target);
        second_base = omega (arith, w.second_base, f.target);
      }

-- the end: one side is used up, and the other does not insert

none_left : {A : Type 0} (runs : List (Run A)) → IsNormal runs → StartsOtherwise runs → base_of runs ≡ 0 → runs ≡ []
none_left [] normal otherwise empty = refl
none_left (Keep count ∷ runs) normal otherwise empty = absurd (omega (arith, normal.0, empty))
none_left (Add text ∷ runs) normal otherwise empty = absurd otherwise
none_left (Skip count ∷ runs) normal otherwise empty = absurd (omega (arith, normal.0, empty))

progress_done :
    {A : Type 0} (a b first second : Operation A) → Progress a b first second [] []
    → (first ≡ first_after a b) × (second ≡ second_after a b)
progress_done a b first second w =
    let first_base : first.base ≡ (first_after a b).base = omega (arith, w.first_base) in
    let second_base : second.base ≡ (second_after a b).base = omega (arith, w.second_base) in
    let first_image : first.image ≡ (first_after a b).image = sym (append-nil first.image) ∙ w.first_image in
    let second_image : second.image ≡ (second_after a b).image = sym (append-nil second.image) ∙ w.second_image in
    (λ i. record { base = first_base i; image = first_image i }, λ i. record { base = second_base i; image = second_image i })

pub progress_end_first :
    {A : Type 0} (a b first second : Operation A) (ys : List (Run A)) → StartsOtherwise ys → Progress a b first second [] ys
    → (first ≡ first_after a b) × (second ≡ second_after a b)
progress_end_first a b first second ys otherwise w =
    let none : ys ≡ [] = none_left ys w.second_normal otherwise (sym w.same_base) in
    progress_done a b first second (subst (Progress a b first second []) none w)

pub progress_end_second :
    {A : Type 0} (a b first second : Operation A) (xs : List (Run A)) → StartsOtherwise xs → Progress a b first second xs []
    → (first ≡ first_after a b) × (second ≡ second_after a b)
progress_end_second a b first second xs otherwise w =
    let none : xs ≡ [] = none_left xs w.first_normal otherwise w.same_base in
    progress_done a b first second (subst (λ left. Progress a b first second left []) none w)

-- what is built is never longer than what comes out
pub progress_fits :
    {A : Type 0} (a b first second : Operation A) (xs ys : List (Run A)) → Progress a b first second xs ys
    → (length first.image ≤ length (merge a b)) × (first.base ≤ length b.image)
    × (length second.image ≤ length (merge a b)) × (second.base ≤ length a.image)
unfolding apply compose invert merge merged first_after second_after
progress_fits a b first second xs ys w =
    let f = ap length w.first_image in
    let g = ap length w.second_image in
    let first_length = length-append first.image (map over_second (runs_merged second.base first.base w.at xs ys)) in
    let second_length = length-append second.image (map over_first (runs_merged second.base first.base w.at xs ys)) in (
      omega (arith, f, first_length, length-map (merge a b) over_second),
      omega (arith, w.first_base),
      omega (arith, g, second_length, length-map (merge a b) over_first),
      omega (arith, w.second_base),
    )

-- so that nothing that is built passes a limit that the document and all insertions together keep
pub progress_small :
    {A : Type 0} (limit : ℕ) (a b first second : Operation A) (xs ys : List (Run A)) → Progress a b first second xs ys
    → IsOperation a → IsOperation b → a.base ≡ b.base → a.base + length (news a.image) + length (news b.image) ≤ limit
    → (max first.base (length first.image) ≤ limit) × (max second.base (length second.image) ≤ limit)
progress_small limit a b first second xs ys w a_rises b_rises same fits =
    let bounds = progress_fits a b first second xs ys w in
    let merge_length = length-merge a b a_rises b_rises same in
    let a_length = length-image a a_rises in
    let b_length = length-image b b_rises in
    (omega (arith, bounds.0, bounds.1, merge_length, b_length), omega (arith, bounds.2, bounds.3, merge_length, a_length))
