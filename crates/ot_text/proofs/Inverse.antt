-- Runs of an operation inverted, one after the other.
use Rattle.std.proofs.Common.{◌≡◌, ℕ, suc, ◌+◌, ◌<◌, ◌≤◌, List, [], ◌∷◌, ◌++◌, map, length, take, drop, refl, sym, ap, ◌∙◌, arith, append_assoc, append-nil, length-append, Option, Some, None}
use Rattle.std.proofs.lemmas.List.{length-map, length-take, length-drop, take-append-drop, drop-drop}
use Rattle.ot_operation.proofs.Lists.{past_end}
use Rattle.ot_operation.proofs.RunLemmas.{same_operation, length-olds, longest_retain, longest_insert}
use Rattle.ot_operation.proofs.Inverted.{further, further_further, none_in, place-news, place_past, place_within, restored_from-append, restored_kept, restored_gone}
use Rattle.ot_operation.specs.Operation.{Item, New, olds, Operation, IsTooLong, empty, place_of, restored_from, invert, with_retain, with_insert, with_delete}
use Rattle.ot_operation.specs.Run.{Run, Keep, Add, Skip, base_of, image_from, operation_of}

further_zero : (o : Option ℕ) → o ≡ further 0 o
further_zero None = refl
further_zero (Some p) = let e : 0 + p ≡ p = omega arith in rw e refl

length-restored : {A : Type 0} (image : List (Item A)) (from : ℕ) (xs : List A) → length (restored_from image from xs) ≡ length xs
length-restored image from [] = refl
length-restored image from (x ∷ xs) = ap suc (length-restored image (suc from) xs)

split_back :
    {A : Type 0} (whole : List (Item A)) (at n : ℕ) (d : List A) (made mid : List (Item A)) {all : List (Item A)}
    → length (take n (drop at d)) ≡ n → restored_from whole at (take n (drop at d)) ≡ mid → made ++ restored_from whole at (drop at d) ≡ all
    → (made ++ mid) ++ restored_from whole (at + n) (drop (at + n) d) ≡ all
split_back {A} whole at n d made mid long is all =
    let two : restored_from whole at (drop at d) ≡ restored_from whole at (take n (drop at d)) ++ restored_from whole (at + n) (drop (at + n) d) =
    ap (λ (t : List A). restored_from whole at t) (sym (take-append-drop n (drop at d)))
    ∙ restored_from-append whole at (take n (drop at d)) (drop n (drop at d))
    ∙ rw (long, drop-drop) refl in
    append_assoc made mid _ ∙ rw (← is, ← two) all

-- of all runs these are left, from a place of the document on; the operation is the inverse of the others
pub record TakesBack {A : Type 0} (all left : List (Run A)) (d : List A) (at : ℕ) (op : Operation A) : Type 0 where
  pub base : op.base + length (image_from at left) ≡ length (image_from 0 all)
  pub image : op.image ++ restored_from (image_from 0 all) at (drop at d) ≡ restored_from (image_from 0 all) 0 d
  pub fits : at + base_of left ≡ length d
  pub places : (j : ℕ) → at ≤ j → place_of (image_from 0 all) j ≡ further op.base (place_of (image_from at left) j)

pub none_back : {A : Type 0} (all : List (Run A)) (d : List A) → base_of all ≡ length d → TakesBack all all d 0 empty
none_back all d h = record {
  base = omega arith;
  image = refl;
  fits = omega (arith, h);
  places = λ j le. further_zero (place_of (image_from 0 all) j);
}

pub all_back : {A : Type 0} (all left : List (Run A)) (d : List A) (at : ℕ) (op : Operation A) → left ≡ [] → TakesBack all left d at op → op ≡ invert (operation_of all) d
unfolding invert
all_back all left d at op none a =
    let b : op.base + 0 ≡ length (image_from 0 all) = rw none at a.base in
    let f : at + 0 ≡ length d = rw none at a.fits in
    let rest : drop at d ≡ [] = past_end d at (omega arith) in
    let m = rw (rest, append-nil) at a.image in
    same_operation op.base (length (image_from 0 all)) op.image (restored_from (image_from 0 all) 0 d) (omega (arith, b)) m

module _ {A : Type 0} (all left next : List (Run A)) (d : List A) (at : ℕ) (op : Operation A) (before : TakesBack all left d at op) where
  whole : List (Item A)
  whole = image_from 0 all

  length_so_far : length op.image ≡ at
  length_so_far =
      let both : length (op.image ++ restored_from (image_from 0 all) at (drop at d)) ≡ length (restored_from (image_from 0 all) 0 d) = ap (λ (t : List (Item A)). length t) before.image in
      omega (arith, both, before.fits, length-append op.image (restored_from (image_from 0 all) at (drop at d)), length-restored (image_from 0 all) at (drop at d), length-restored (image_from 0 all) 0 d, length-drop at d)

  -- a retain

  module _ (n : ℕ) (is : left ≡ Keep n ∷ next) where
    pub keep_within : at + n ≤ length d
    keep_within = let f = rw is at before.fits in omega (arith, f)

    pub keep_back : TakesBack all next d (at + n) (with_retain op n)
    keep_back =
        let rest : List (Item A) = image_from (at + n) next in
        let f = rw is at before.fits in
        let b = rw is at before.base in
        let p : (j : ℕ) → at ≤ j → place_of (image_from 0 all) j ≡ further op.base (place_of (olds at n ++ rest) j) = λ j le. rw is at (before.places j le) in
        let long : length (take n (drop at d)) ≡ n = omega (arith, f, length-take n (drop at d), length-drop at d) in
        let kept : (k : ℕ) → k < length (take n (drop at d)) → place_of (image_from 0 all) (at + k) ≡ Some (op.base + k) = λ k lt. p (at + k) (omega arith) ∙ rw (place_within k at n rest (omega arith)) refl in
        let mid : restored_from (image_from 0 all) at (take n (drop at d)) ≡ olds op.base n = restored_kept (image_from 0 all) at op.base (take n (drop at d)) kept ∙ rw long refl in
        record {
          base = omega (arith, b, length-append (olds at n) rest, length-olds A at n);
          image = split_back (image_from 0 all) at n d op.image (olds op.base n) long mid before.image;
          fits = omega (arith, f);
          places = λ j le. p j (omega arith) ∙ rw (place_past j at n rest le) (further_further op.base n _);
        }

    pub keep_short : length (image_from 0 all) ≤ 1000000 → length d ≤ 1000000 → IsTooLong (with_retain op n) → ⊥
    keep_short target_fits base_fits long =
        let rest : List (Item A) = image_from (at + n) next in
        let f = rw is at before.fits in
        let b = rw is at before.base in
        let l = rw (longest_retain op n) at long in
        omega (arith, l, f, b, length_so_far, length-append (olds at n) rest, length-olds A at n)

  -- an insertion

  module _ (text : List A) (is : left ≡ Add text ∷ next) where
    pub add_back : TakesBack all next d at (with_delete op (length text))
    add_back =
        let f = rw is at before.fits in
        let b = rw is at before.base in
        let p : (j : ℕ) → at ≤ j → place_of (image_from 0 all) j ≡ further op.base (place_of (map New text ++ image_from at next) j) = λ j le. rw is at (before.places j le) in
        record {
          base = omega (arith, b, length-append (map New text) (image_from at next), length-map text (λ (x : A). New x));
          image = before.image;
          fits = omega (arith, f);
          places = λ j le. p j le ∙ rw (place-news j text (image_from at next)) (further_further op.base (length text) _);
        }

    pub add_short : length (image_from 0 all) ≤ 1000000 → length d ≤ 1000000 → IsTooLong (with_delete op (length text)) → ⊥
    add_short target_fits base_fits long =
        let f = rw is at before.fits in
        let b = rw is at before.base in
        omega (arith, long, f, b, length_so_far, length-append (map New text) (image_from at next), length-map text (λ (x : A). New x))

  -- a deletion

  module _ (n : ℕ) (is : left ≡ Skip n ∷ next) where
    pub skip_within : at + n ≤ length d
    skip_within = let f = rw is at before.fits in omega (arith, f)

    pub skip_back : TakesBack all next d (at + n) (with_insert op (take n (drop at d)))
    skip_back =
        let rest : List (Item A) = image_from (at + n) next in
        let f = rw is at before.fits in
        let b = rw is at before.base in
        let p : (j : ℕ) → at ≤ j → place_of (image_from 0 all) j ≡ further op.base (place_of rest j) = λ j le. rw is at (before.places j le) in
        let long : length (take n (drop at d)) ≡ n = omega (arith, f, length-take n (drop at d), length-drop at d) in
        let gone : (k : ℕ) → k < length (take n (drop at d)) → place_of (image_from 0 all) (at + k) ≡ None = λ k lt. p (at + k) (omega arith) ∙ rw (none_in (at + k) (at + n) 0 next (omega arith)) refl in
        let mid : restored_from (image_from 0 all) at (take n (drop at d)) ≡ map New (take n (drop at d)) = restored_gone (image_from 0 all) at (take n (drop at d)) gone in
        record {
          base = omega (arith, b);
          image = split_back (image_from 0 all) at n d op.image (map New (take n (drop at d))) long mid before.image;
          fits = omega (arith, f);
          places = λ j le. p j (omega arith);
        }

    pub skip_short : length (image_from 0 all) ≤ 1000000 → length d ≤ 1000000 → IsTooLong (with_insert op (take n (drop at d))) → ⊥
    skip_short target_fits base_fits long =
        let rest : List (Item A) = image_from (at + n) next in
        let f = rw is at before.fits in
        let b = rw is at before.base in
        let l = rw (longest_insert op (take n (drop at d))) at long in
        omega (arith, l, f, b, length_so_far, length-take n (drop at d), length-drop at d)
