-- Reading a list in leaves: what stands at a place, and what is left there.
use Rattle.std.proofs.Common.{◌≡◌, add-mul, ◌/◌, ℕ, zero, suc, ◌+◌, ◌-◌, ◌*◌, ◌<◌, ◌≤◌, List, [], ◌∷◌, ◌++◌, length, take, drop, get_or, refl, sym, ap, ◌∙◌, arith, append_assoc, length-append}
use Rattle.std.specs.Prelude.{◌↔◌}
use Rattle.std.proofs.lemmas.List.{drop-append-le, length-drop, drop-drop, take-take, length-take, append-nil, take-append-drop, nil_from_length}
use Rattle.std.proofs.Math.Nat.{mul-suc}
use Rattle.std.proofs.Math.Seq.{drop-nil, take-add}
use Rattle.ot_list.specs.Leaves.{concatenated, AreLeaves}
use Rattle.ot_text.specs.Places.{rest_at, left_at, IsInside}

-- how many leaves there are

pairs_more : (n m size two items all : ℕ) → n ≡ 2 + m → size ≤ two → all ≡ two + items → m / 2 * size ≤ items → n / 2 * size ≤ all
pairs_more n m size two items all e s a h =
    let half : n / 2 ≡ 1 + m / 2 = omega (arith, e) in
    let d : (1 + m / 2) * size ≡ 1 * size + m / 2 * size = add-mul 1 (m / 2) size in
    rw half (omega arith)

-- more than `cap` items for each two leaves
pub leaves_paired : {A : Type 0} (cap : ℕ) (cs : List (List A)) → AreLeaves cap cs → length cs / 2 * (cap + 1) ≤ length (concatenated cs)
leaves_paired cap [] p = omega arith
leaves_paired cap (c ∷ []) p = omega arith
leaves_paired cap (c ∷ d ∷ cs) p =
    let h = leaves_paired cap cs p.3.3 in
    let pair : cap < length c + length d = p.2 in
    let size : cap + 1 ≤ length c + length d = omega arith in
    let items : length (c ++ (d ++ concatenated cs)) ≡ length c + length d + length (concatenated cs) = rw (length-append, length-append) (omega arith) in
    pairs_more (length (c ∷ d ∷ cs)) (length cs) (cap + 1) (length c + length d) (length (concatenated cs)) _ (omega arith) size items h

pub leaves_filled : {A : Type 0} (cap : ℕ) (cs : List (List A)) → AreLeaves cap cs → length cs ≤ length (concatenated cs)
leaves_filled cap [] p = omega arith
leaves_filled cap (c ∷ cs) p = let h = leaves_filled cap cs p.3 in let f = p.0 in omega (arith, length-append c (concatenated cs))

one_more : (cap n m items all : ℕ) → items ≤ cap * n → m ≡ suc n → all ≤ cap + items → all ≤ cap * m
one_more cap n m items all h e f = rw e (omega (arith, mul-suc cap n))

pub leaves_enough : {A : Type 0} (cap : ℕ) (cs : List (List A)) → AreLeaves cap cs → length (concatenated cs) ≤ cap * length cs
leaves_enough cap [] p = omega arith
leaves_enough cap (c ∷ cs) p =
    let h = leaves_enough cap cs p.3 in
    let s = p.1 in
    one_more cap (length cs) (length (c ∷ cs)) (length (concatenated cs)) (length (c ++ concatenated cs)) h refl (omega (arith, length-append c (concatenated cs)))

-- what is left is what is left of the leaf, and the leaves after it
pub left_split : {A : Type 0} (cs : List (List A)) (k o : ℕ) → k < length cs → o ≤ length (get_or cs k []) → left_at cs k o ≡ rest_at cs k o ++ concatenated (drop (suc k) cs)
left_split [] k o h i = absurd (omega arith)
left_split (c ∷ cs) zero o h i = drop-append-le o c (concatenated cs) i
left_split (c ∷ cs) (suc k) o h i = left_split cs k o (omega arith) i

pub in_range : {A : Type 0} (cs : List (List A)) (k o : ℕ) → 0 < length (left_at cs k o) → k < length cs
in_range {A} [] zero o h = let n = rw (drop-nil {A = A} o) at h in absurd (omega (arith, n))
in_range {A} [] (suc k) o h = let n = rw (drop-nil {A = A} o) at h in absurd (omega (arith, n))
in_range (c ∷ cs) zero o h = omega arith
in_range (c ∷ cs) (suc k) o h = let q = in_range cs k o h in omega arith

-- a part at the front of what is left
pub front_part : {A : Type 0} (left rest : List A) (n : ℕ) → take (length rest) left ≡ rest → n ≤ length rest → take n left ≡ take n rest
front_part left rest n e h = rw (← e) (sym (take-take n (length rest) left h))

pub front_short : {A : Type 0} (left rest : List A) → take (length rest) left ≡ rest → length rest ≤ length left
front_short left rest e = let size : length (take (length rest) left) ≡ length rest = ap length e in omega (arith, size, length-take (length rest) left)

-- items have been read, and what is left begins with the others of `whole`, and then is `rest`
pub record IsReading {A : Type 0} (cs : List (List A)) (leaf offset ahead : ℕ) (items whole rest : List A) : Type 0 where
  pub inside : IsInside cs leaf offset
  pub within : ahead ≤ length (left_at cs leaf offset)
  pub read : items ++ take ahead (left_at cs leaf offset) ≡ whole
  pub rest_is : drop ahead (left_at cs leaf offset) ≡ rest

pub reading_none : {A : Type 0} (cs : List (List A)) (leaf offset ahead : ℕ) (items : List A) → IsInside cs leaf offset → ahead ≤ length (left_at cs leaf offset) → IsReading cs leaf offset ahead items (items ++ take ahead (left_at cs leaf offset)) (drop ahead (left_at cs leaf offset))
reading_none cs leaf offset ahead items i h = record { inside = i; within = h; read = refl; rest_is = refl }

pub reading_more : {A : Type 0} (cs : List (List A)) (leaf offset leaf' offset' ahead step : ℕ) (items more whole rest : List A) → IsReading cs leaf offset ahead items whole rest → step ≤ ahead → IsInside cs leaf' offset' → left_at cs leaf' offset' ≡ drop step (left_at cs leaf offset) → more ≡ take step (left_at cs leaf offset) → IsReading cs leaf' offset' (ahead - step) (items ++ more) whole rest
reading_more {A} cs leaf offset leaf' offset' ahead step items more whole rest w h i e m =
    let n = w.within in
    let left : List A = left_at cs leaf offset in
    let sum : step + (ahead - step) ≡ ahead = omega arith in
    let parts : take step left ++ take (ahead - step) (drop step left) ≡ take ahead left = sym (take-add step (ahead - step) left) ∙ rw sum refl in
    record {
      inside = i;
      within = rw e (omega (arith, length-drop step left));
      read = rw (e, m, append_assoc, parts) w.read;
      rest_is = rw (e, drop-drop (ahead - step) step left, sum) w.rest_is;
    }

pub reading_all : {A : Type 0} (cs : List (List A)) (leaf offset ahead : ℕ) (items whole rest : List A) → IsReading cs leaf offset ahead items whole rest → ahead ≤ 0 → items ≡ whole
reading_all {A} cs leaf offset ahead items whole rest w h =
    let none : ahead ≡ 0 = omega arith in
    sym (append-nil items) ∙ rw none at w.read

pub reading_rest : {A : Type 0} (cs : List (List A)) (leaf offset ahead : ℕ) (items whole rest : List A) → IsReading cs leaf offset ahead items whole rest → ahead ≤ 0 → left_at cs leaf offset ≡ rest
reading_rest cs leaf offset ahead items whole rest w h =
    let none : ahead ≡ 0 = omega arith in
    rw none at w.rest_is

-- two walks over lists of one length, equal so far
pub record IsComparing {A : Type 0} (cs : List (List A)) (a_leaf a_offset : ℕ) (ds : List (List A)) (b_leaf b_offset : ℕ) (ahead : ℕ) : Type 0 where
  pub a_inside : IsInside cs a_leaf a_offset
  pub b_inside : IsInside ds b_leaf b_offset
  pub a_ahead : length (left_at cs a_leaf a_offset) ≡ ahead
  pub b_ahead : length (left_at ds b_leaf b_offset) ≡ ahead
  pub same : (concatenated cs ≡ concatenated ds) ↔ (left_at cs a_leaf a_offset ≡ left_at ds b_leaf b_offset)

rest_same : {A : Type 0} (l m : List A) (n : ℕ) → take n l ≡ take n m → drop n l ≡ drop n m → l ≡ m
rest_same l m n e f = sym (take-append-drop n l) ∙ (rw (e, f) (take-append-drop n m))

pub comparing_more : {A : Type 0} (cs : List (List A)) (ac ao ac' ao' : ℕ) (ds : List (List A)) (bc bo bc' bo' : ℕ) (ahead step : ℕ) → IsComparing cs ac ao ds bc bo ahead → IsInside cs ac' ao' → IsInside ds bc' bo' → left_at cs ac' ao' ≡ drop step (left_at cs ac ao) → left_at ds bc' bo' ≡ drop step (left_at ds bc bo) → take step (left_at cs ac ao) ≡ take step (left_at ds bc bo) → IsComparing cs ac' ao' ds bc' bo' (ahead - step)
comparing_more {A} cs ac ao ac' ao' ds bc bo bc' bo' ahead step w ia ib ea eb same =
    let a = w.a_ahead in
    let b = w.b_ahead in
    let s = w.same in
    record {
      a_inside = ia;
      b_inside = ib;
      a_ahead = rw ea (omega (arith, length-drop step (left_at cs ac ao)));
      b_ahead = rw eb (omega (arith, length-drop step (left_at ds bc bo)));
      same = rw (ea, eb) (
        (λ e. ap (λ (t : List A). drop step t) (s.0 e)),
        λ e. s.1 (rest_same (left_at cs ac ao) (left_at ds bc bo) step same e),
      );
    }

pub comparing_all : {A : Type 0} (cs : List (List A)) (ac ao : ℕ) (ds : List (List A)) (bc bo : ℕ) (ahead : ℕ) → IsComparing cs ac ao ds bc bo ahead → ahead ≤ 0 → concatenated cs ≡ concatenated ds
comparing_all cs ac ao ds bc bo ahead w h =
    let a = w.a_ahead in
    let b = w.b_ahead in
    w.same.1 (nil_from_length (left_at cs ac ao) (omega arith) ∙ sym (nil_from_length (left_at ds bc bo) (omega arith)))
