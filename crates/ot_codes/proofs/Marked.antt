-- Codes whose insertions are filled with the places of their own text.
use Rattle.std.proofs.Common.{◌≡◌, ℕ, zero, suc, ◌+◌, ◌-◌, ◌<◌, ◌≤◌, List, [], ◌∷◌, ◌++◌, length, map, take, drop, nat_eq, if◌then◌else◌, Bool, true, false, None, refl, sym, ap, ◌∙◌, arith}
use borrow.Author.Tests.{eq-eqb, ne_eqb}
use Rattle.ot_operation.specs.Operation.{Item, Old, New, olds, news}
use Rattle.ot_operation.specs.Run.{Run, Keep, Add, Skip, base_of, image_from, operation_of, MayLead, IsNormal}
use Rattle.ot_operation.proofs.RunLemmas.{length-news-append, length-news-olds, length-news-news}
use Rattle.ot_operation.specs.Steps.{skipped, skipped_made, target_of}
use Rattle.ot_operation.proofs.RunSlots.{StartsOtherwise}
use Rattle.ot_codes.specs.declared.code.Code.{Code}
use Rattle.ot_codes.specs.declared.code.Code.TheVariants.{Retain, Insert, Delete}
use Rattle.ot_codes.specs.Codes.{blanks, runs_of, spelled, length_of, insertion_of, inserted_in, without}
use Rattle.ot_codes.specs.Shape.{blank, filled_image}
use Rattle.ot_codes.specs.Cuts.{Source, places, placed}
use Rattle.ot_codes.proofs.Put.{length-blanks}
use Rattle.ot_codes.proofs.Mapped.{same_parts}

-- places

pub length-places : (mark : ℕ → Source) (at n : ℕ) → length (places mark at n) ≡ n
length-places mark at zero = refl
length-places mark at (suc n) = ap suc (length-places mark (suc at) n)

pub places-add : (mark : ℕ → Source) (at m n : ℕ) → places mark at (m + n) ≡ places mark at m ++ places mark (at + m) n
places-add mark at zero n =
    let e : zero + n ≡ n = omega arith in
    let f : at + zero ≡ at = omega arith in rw (e, f) refl
places-add mark at (suc m) n =
    let e : suc m + n ≡ suc (m + n) = omega arith in
    let f : at + suc m ≡ suc at + m = omega arith in
    rw (e, f) (ap (λ rest. mark at ∷ rest) (places-add mark (suc at) m n))

pub take-places : (mark : ℕ → Source) (at k n : ℕ) → k ≤ n → take k (places mark at n) ≡ places mark at k
take-places mark at zero n within = refl
take-places mark at (suc k) zero within = absurd (omega (arith, within))
take-places mark at (suc k) (suc n) within = ap (λ rest. mark at ∷ rest) (take-places mark (suc at) k n (omega (arith, within)))

pub drop-places : (mark : ℕ → Source) (at k n : ℕ) → k ≤ n → drop k (places mark at n) ≡ places mark (at + k) (n - k)
drop-places mark at zero n within =
    let e : at + zero ≡ at = omega arith in
    let f : n - zero ≡ n = omega arith in rw (e, f) refl
drop-places mark at (suc k) zero within = absurd (omega (arith, within))
drop-places mark at (suc k) (suc n) within =
    let e : at + suc k ≡ suc at + k = omega arith in
    let f : suc n - suc k ≡ n - k = omega arith in rw (e, f) (drop-places mark (suc at) k n (omega (arith, within)))

pub blanks-places : (mark : ℕ → Source) (at n : ℕ) → map blank (places mark at n) ≡ blanks n
blanks-places mark at zero = refl
blanks-places mark at (suc n) = ap (λ (rest : List (Unit {0})). tt ∷ rest) (blanks-places mark (suc at) n)

-- codes with places

abbrev pub marked : (ℕ → Source) → ℕ → List Code → List (Run Source)
marked mark at [] = []
marked mark at (Retain n ∷ codes) = Keep n ∷ marked mark at codes
marked mark at (Insert n ∷ codes) = Add (places mark at n) ∷ marked mark (at + n) codes
marked mark at (Delete n ∷ codes) = Skip n ∷ marked mark at codes

pub marked-base : (mark : ℕ → Source) (at : ℕ) (codes : List Code) → base_of (marked mark at codes) ≡ base_of (runs_of codes)
marked-base mark at [] = refl
marked-base mark at (Retain n ∷ codes) = ap (λ k. n + k) (marked-base mark at codes)
marked-base mark at (Insert n ∷ codes) = marked-base mark (at + n) codes
marked-base mark at (Delete n ∷ codes) = ap (λ k. n + k) (marked-base mark at codes)

pub marked-target : (mark : ℕ → Source) (at : ℕ) (codes : List Code) → target_of (marked mark at codes) ≡ target_of (runs_of codes)
marked-target mark at [] = refl
marked-target mark at (Retain n ∷ codes) = ap (λ k. n + k) (marked-target mark at codes)
marked-target mark at (Insert n ∷ codes) = omega (arith, length-places mark at n, length-blanks n, marked-target mark (at + n) codes)
marked-target mark at (Delete n ∷ codes) = marked-target mark at codes

lead_keep : (mark : ℕ → Source) (at m : ℕ) (codes : List Code) → MayLead (Keep m) (runs_of codes) → MayLead (Keep m) (marked mark at codes)
lead_keep mark at m [] may = tt
lead_keep mark at m (Retain n ∷ codes) may = may
lead_keep mark at m (Insert n ∷ codes) may = tt
lead_keep mark at m (Delete n ∷ codes) may = tt

lead_skip : (mark : ℕ → Source) (at m : ℕ) (codes : List Code) → MayLead (Skip m) (runs_of codes) → MayLead (Skip m) (marked mark at codes)
lead_skip mark at m [] may = tt
lead_skip mark at m (Retain n ∷ codes) may = tt
lead_skip mark at m (Insert n ∷ codes) may = may
lead_skip mark at m (Delete n ∷ codes) may = may

lead_add : (mark : ℕ → Source) (at : ℕ) (s : List (Unit {0})) (t : List Source) (codes : List Code) → MayLead (Add s) (runs_of codes) → MayLead (Add t) (marked mark at codes)
lead_add mark at s t [] may = tt
lead_add mark at s t (Retain n ∷ codes) may = tt
lead_add mark at s t (Insert n ∷ codes) may = may
lead_add mark at s t (Delete n ∷ codes) may = tt

pub marked-normal : (mark : ℕ → Source) (at : ℕ) (codes : List Code) → IsNormal (runs_of codes) → IsNormal (marked mark at codes)
marked-normal mark at [] normal = tt
marked-normal mark at (Retain n ∷ codes) normal = (normal.0, lead_keep mark at n codes normal.1, marked-normal mark at codes normal.2)
marked-normal mark at (Insert n ∷ codes) normal =
    (omega (arith, normal.0, length-blanks n, length-places mark at n), lead_add mark (at + n) (blanks n) (places mark at n) codes normal.1, marked-normal mark (at + n) codes normal.2)
marked-normal mark at (Delete n ∷ codes) normal = (normal.0, lead_skip mark at n codes normal.1, marked-normal mark at codes normal.2)

-- and back

back_keep : (mark : ℕ → Source) (at m : ℕ) (codes : List Code) → MayLead (Keep m) (marked mark at codes) → MayLead (Keep m) (runs_of codes)
back_keep mark at m [] may = tt
back_keep mark at m (Retain n ∷ codes) may = may
back_keep mark at m (Insert n ∷ codes) may = tt
back_keep mark at m (Delete n ∷ codes) may = tt

back_skip : (mark : ℕ → Source) (at m : ℕ) (codes : List Code) → MayLead (Skip m) (marked mark at codes) → MayLead (Skip m) (runs_of codes)
back_skip mark at m [] may = tt
back_skip mark at m (Retain n ∷ codes) may = tt
back_skip mark at m (Insert n ∷ codes) may = may
back_skip mark at m (Delete n ∷ codes) may = may

back_add : (mark : ℕ → Source) (at : ℕ) (s : List (Unit {0})) (t : List Source) (codes : List Code) → MayLead (Add t) (marked mark at codes) → MayLead (Add s) (runs_of codes)
back_add mark at s t [] may = tt
back_add mark at s t (Retain n ∷ codes) may = tt
back_add mark at s t (Insert n ∷ codes) may = may
back_add mark at s t (Delete n ∷ codes) may = tt

pub normal-marked : (mark : ℕ → Source) (at : ℕ) (codes : List Code) → IsNormal (marked mark at codes) → IsNormal (runs_of codes)
normal-marked mark at [] normal = tt
normal-marked mark at (Retain n ∷ codes) normal = (normal.0, back_keep mark at n codes normal.1, normal-marked mark at codes normal.2)
normal-marked mark at (Insert n ∷ codes) normal =
    (omega (arith, normal.0, length-blanks n, length-places mark at n), back_add mark (at + n) (blanks n) (places mark at n) codes normal.1, normal-marked mark (at + n) codes normal.2)
normal-marked mark at (Delete n ∷ codes) normal = (normal.0, back_skip mark at n codes normal.1, normal-marked mark at codes normal.2)

pub filled_marked : (mark : ℕ → Source) (at : ℕ) (code : Code) (codes : List Code) → IsNormal (marked mark at (code ∷ codes)) → 0 < length_of code
filled_marked mark at (Retain n) codes normal = normal.0
filled_marked mark at (Insert n) codes normal = omega (arith, normal.0, length-places mark at n)
filled_marked mark at (Delete n) codes normal = normal.0

-- they spell the shape, filled with its places

pub size-spelled : (i : ℕ) (codes : List Code) → length (news (image_from i (runs_of codes))) ≡ inserted_in codes
size-spelled i [] = refl
size-spelled i (Retain n ∷ codes) =
    omega (arith, size-spelled (i + n) codes, length-news-append (olds {A = Unit {0}} i n) (image_from (i + n) (runs_of codes)), length-news-olds (Unit {0}) i n)
size-spelled i (Insert n ∷ codes) =
    omega (arith, size-spelled i codes, length-news-append (map New (blanks n)) (image_from i (runs_of codes)), length-news-news (blanks n), length-blanks n)
size-spelled i (Delete n ∷ codes) = size-spelled (i + n) codes

fill_olds : {A : Type 0} (i n : ℕ) (image : List (Item (Unit {0}))) (text : List A) → filled_image (olds i n ++ image) text ≡ olds i n ++ filled_image image text
fill_olds i zero image text = refl
fill_olds i (suc n) image text = ap (λ rest. Old i ∷ rest) (fill_olds (suc i) n image text)

fill_news :
    (mark : ℕ → Source) (at n : ℕ) (image : List (Item (Unit {0}))) (text : List Source)
    → filled_image (map New (blanks n) ++ image) (places mark at n ++ text) ≡ map New (places mark at n) ++ filled_image image text
fill_news mark at zero image text = refl
fill_news mark at (suc n) image text = ap (λ rest. New (mark at) ∷ rest) (fill_news mark (suc at) n image text)

fill_image :
    (mark : ℕ → Source) (at i : ℕ) (codes : List Code)
    → filled_image (image_from i (runs_of codes)) (places mark at (inserted_in codes)) ≡ image_from i (marked mark at codes)
fill_image mark at i [] = refl
fill_image mark at i (Retain n ∷ codes) =
    fill_olds i n (image_from (i + n) (runs_of codes)) (places mark at (inserted_in codes)) ∙ ap (λ rest. olds i n ++ rest) (fill_image mark at (i + n) codes)
fill_image mark at i (Insert n ∷ codes) =
    ap (filled_image (map New (blanks n) ++ image_from i (runs_of codes))) (places-add mark at n (inserted_in codes))
    ∙ fill_news mark at n (image_from i (runs_of codes)) (places mark (at + n) (inserted_in codes))
    ∙ ap (λ rest. map New (places mark at n) ++ rest) (fill_image mark (at + n) i codes)
fill_image mark at i (Delete n ∷ codes) = fill_image mark at (i + n) codes

pub placed-spelled : (mark : ℕ → Source) (codes : List Code) → placed mark (spelled codes) ≡ operation_of (marked mark 0 codes)
placed-spelled mark codes =
    same_parts _ _ _ _ (sym (marked-base mark 0 codes))
    (ap (λ n. filled_image (image_from 0 (runs_of codes)) (places mark 0 n)) (size-spelled 0 codes) ∙ fill_image mark 0 0 codes)

-- without the first elements

marked_if :
    (mark : ℕ → Source) (at : ℕ) (b : Bool) (code : Code) (codes : List Code)
    → marked mark at (if b then codes else code ∷ codes) ≡ (if b then marked mark at codes else marked mark at (code ∷ codes))
marked_if mark at true code codes = refl
marked_if mark at false code codes = refl

pub marked-without_keep :
    (mark : ℕ → Source) (at count n : ℕ) (codes : List Code) → marked mark at (without count (Retain n ∷ codes)) ≡ skipped count (Keep n ∷ marked mark at codes)
marked-without_keep mark at count n codes = marked_if mark at (nat_eq count n) (Retain (n - count)) codes

pub marked-without_skip :
    (mark : ℕ → Source) (at count n : ℕ) (codes : List Code) → marked mark at (without count (Delete n ∷ codes)) ≡ skipped count (Skip n ∷ marked mark at codes)
marked-without_skip mark at count n codes = marked_if mark at (nat_eq count n) (Delete (n - count)) codes

pub marked-without_add :
    (mark : ℕ → Source) (at count n : ℕ) (codes : List Code) → count ≤ n
    → marked mark (at + count) (without count (Insert n ∷ codes)) ≡ skipped_made count (Add (places mark at n) ∷ marked mark (at + n) codes)
marked-without_add mark at count n codes within =
    by (n - count) (omega (arith, within))
  where
    by : (m : ℕ) → n ≡ count + m → marked mark (at + count) (without count (Insert n ∷ codes)) ≡ skipped_made count (Add (places mark at n) ∷ marked mark (at + n) codes)
    by zero e =
        let same : at + count ≡ at + n = omega (arith, e) in
        rw (eq-eqb count n (omega (arith, e)), eq-eqb count (length (places mark at n)) (omega (arith, e, length-places mark at n)))
        (ap (λ k. marked mark k codes) same)
    by (suc m) e =
        let place : at + count + (n - count) ≡ at + n = omega (arith, within) in
        rw (ne_eqb count n (omega (arith, e)), ne_eqb count (length (places mark at n)) (omega (arith, e, length-places mark at n)), drop-places mark at count n within)
        (ap (λ k. Add (places mark (at + count) (n - count)) ∷ marked mark k codes) place)

pub marked-otherwise : (mark : ℕ → Source) (at : ℕ) (codes : List Code) → insertion_of codes ≡ None → StartsOtherwise (marked mark at codes)
marked-otherwise mark at [] other = tt
marked-otherwise mark at (Retain n ∷ codes) other = tt
marked-otherwise mark at (Insert n ∷ codes) other = cc
marked-otherwise mark at (Delete n ∷ codes) other = tt
