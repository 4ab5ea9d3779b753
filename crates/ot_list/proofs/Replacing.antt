-- Whole leaves that are walked over, and a leaf that is changed where it lies.
use Rattle.std.proofs.Common.{◌≡◌, ℕ, zero, suc, ◌+◌, ◌-◌, ◌<◌, ◌≤◌, List, [], ◌∷◌, ◌++◌, map, length, take, drop, set, get_or, refl, sym, ap, ◌∙◌, arith, append_assoc, length-append, get_or-set_same, get_or-set_other, take-add}
use Rattle.std.specs.Prelude.{Vec, Result, Ok, Err, OnErr}
use Rattle.std.specs.declared.alloc.Global.{Global}
use Rattle.std.proofs.lemmas.List.{append-nil, length-map, map-set, take_more, length-drop, length-take-le, get_or-drop, drop-drop, length-set, take-append-le, drop-append-le}
use Rattle.std.proofs.Math.Seq.{take-append-add, drop-append-add, map-set_same}
use Rattle.ot_list.specs.Leaves.{concatenated, AreLeaves, MayHave, with_run, replaced}
use Rattle.ot_list.proofs.Leaved.{concatenated-append, leaf_small}
use Rattle.ot_list.proofs.Drafted.{item_at, sum_at}
use Rattle.ot_list.proofs.Keeping.{pair_at}

-- more leaves
pub walked_more :
    {A : Type 0} (cs : List (List A)) (from place width : ℕ) → from ≤ place
    → length (concatenated (take ((place + width) - from) (drop from cs))) ≡ length (concatenated (take (place - from) (drop from cs))) + length (concatenated (take width (drop place cs)))
walked_more {A} cs from place width order =
    let k : (place + width) - from ≡ (place - from) + width = omega arith in
    let at : from + (place - from) ≡ place = omega arith in
    rw (k, take-add, drop-drop, at, concatenated-append, length-append) refl

-- one more
pub leaf_more :
    {A : Type 0} (cs : List (List A)) (from place n : ℕ) → from ≤ place → place < length cs → n ≡ length (get_or cs place [])
    → length (concatenated (take ((place + 1) - from) (drop from cs))) ≡ length (concatenated (take (place - from) (drop from cs))) + n
leaf_more {A} cs from place n order within is =
    let here : place + 0 ≡ place = omega arith in
    let one : length (concatenated (take 1 (drop place cs))) ≡ n = rw (take_more (drop place cs) 0 [] (omega (arith, length-drop place cs)), get_or-drop, here, append-nil, is) refl in
    walked_more cs from place 1 order ∙ ap (λ (m : ℕ). length (concatenated (take (place - from) (drop from cs))) + m) one

pub found_more :
    {A : Type 0} (cs : List (List A)) (from place left count n : ℕ) → from ≤ place → place < length cs → n ≡ length (get_or cs place []) → n ≤ left
    → length (concatenated (take (place - from) (drop from cs))) + left ≡ count → length (concatenated (take ((place + 1) - from) (drop from cs))) + (left - n) ≡ count
found_more {A} cs from place left count n order within is fits before = omega (arith, before, fits, leaf_more cs from place n order within is)

-- a leaf in the place of another, where its neighbours let it
pub leaves_set :
    {A : Type 0} (cap : ℕ) (cs : List (List A)) (k : ℕ) (l : List A) → AreLeaves cap cs → k < length cs → 0 < length l → length l ≤ cap
    → ((j : ℕ) → k ≡ suc j → cap < length (get_or cs j []) + length l) → (suc k < length cs → cap < length (get_or cs (suc k) []) + length l) → AreLeaves cap (set cs k l)
leaves_set cap [] k l p h some small before behind = absurd (omega arith)
leaves_set cap (c ∷ []) zero l p h some small before behind = (some, small, tt, tt)
leaves_set cap (c ∷ d ∷ cs) zero l p h some small before behind = (some, small, omega (arith, behind (omega arith)), p.3)
leaves_set cap (c ∷ []) (suc k) l p h some small before behind = absurd (omega arith)
leaves_set cap (c ∷ d ∷ cs) (suc zero) l p h some small before behind =
    (p.0, p.1, before 0 refl, leaves_set cap (d ∷ cs) zero l p.3 (omega arith) some small (λ j e. absurd (omega arith)) (λ f. behind (omega arith)))
leaves_set cap (c ∷ d ∷ cs) (suc (suc k)) l p h some small before behind =
    (p.0, p.1, p.2, leaves_set cap (d ∷ cs) (suc k) l p.3 (omega arith) some small (λ j e. before (suc j) (ap suc e)) (λ f. behind (omega arith)))

pub have_set : {A : Type 0} (cap : ℕ) (cs : List (List A)) (k n : ℕ) (l : List A) → AreLeaves cap cs → k < length cs → n ≡ length l → n ≤ cap → MayHave cap cs k n → AreLeaves cap (set cs k l)
have_set cap cs k n l p h e small m =
    let some = m.some in
    leaves_set cap cs k l p h (omega arith) (omega arith)
    (λ j f. let b = m.before (omega arith) in let same : k - 1 ≡ j = omega arith in let b' = rw same at b in omega arith)
    (λ f. let b = m.behind (omega arith) in let same : k + 1 ≡ suc k = omega arith in let b' = rw same at b in omega arith)

-- and only there
pub set_small : {A : Type 0} (cap : ℕ) (cs : List (List A)) (k : ℕ) (l : List A) → AreLeaves cap (set cs k l) → k < length cs → (0 < length l) × (length l ≤ cap)
set_small cap [] k l p h = absurd (omega arith)
set_small cap (c ∷ cs) zero l p h = (p.0, p.1)
set_small cap (c ∷ cs) (suc k) l p h = set_small cap cs k l p.3 (omega arith)

pub set_have : {A : Type 0} (cap : ℕ) (cs : List (List A)) (k n : ℕ) (l : List A) → AreLeaves cap (set cs k l) → k < length cs → n ≡ length l → MayHave cap cs k n
set_have {A} cap cs k n l p h e = record {
  some = let s = set_small cap cs k l p h in omega (arith, s.0);
  before =
      λ f.
      let next : suc (k - 1) ≡ k = omega arith in
      let size : length (set cs k l) ≡ length cs = length-set cs k l in
      let b0 = pair_at cap (set cs k l) (k - 1) p (omega arith) in
      let b = rw next at b0 in
      let here : get_or (set cs k l) k [] ≡ l = get_or-set_same cs k l [] h in
      let there : get_or (set cs k l) (k - 1) [] ≡ get_or cs (k - 1) [] = get_or-set_other cs k (k - 1) l [] (omega arith) in
      omega (arith, b, ap length here, ap length there);
  behind =
      λ f.
      let size : length (set cs k l) ≡ length cs = length-set cs k l in
      let b = pair_at cap (set cs k l) k p (omega arith) in
      let here : get_or (set cs k l) k [] ≡ l = get_or-set_same cs k l [] h in
      let there : get_or (set cs k l) (suc k) [] ≡ get_or cs (suc k) [] = get_or-set_other cs k (suc k) l [] (omega arith) in
      let next : k + 1 ≡ suc k = omega arith in
      rw next (omega (arith, b, ap length here, ap length there));
}

pub length-with_run : {A : Type 0} (items : List A) (at gone : ℕ) (come : List A) → at + gone ≤ length items → length (with_run items at gone come) ≡ (length items - gone) + length come
length-with_run items at gone come h = rw (length-append, length-append, length-take-le at items (omega arith), length-drop) (omega arith)

-- how many items a leaf has, by its sum
pub leaf_size :
    {T S : Type 0} (cap : ℕ) (total : List T → S) (count_of : S → ℕ) → ((items : List T) → length items ≤ cap → count_of (total items) ≡ length items)
    → (cs : List (List T)) → AreLeaves cap cs → (sums : List S) → sums ≡ map total cs → (k : ℕ) → k < length cs → (s : S) → s ≡ get_or sums k s → (n : ℕ) → n ≡ count_of s
    → n ≡ length (get_or cs k [])
leaf_size cap total count_of counts cs whole sums all k h s is n e =
    e ∙ rw (sum_at total cs k s h (rw all at is)) (counts (get_or cs k []) (leaf_small cap cs k whole))

-- what the leaves make together then
pub concatenated-replaced :
    {A : Type 0} (cs : List (List A)) (k o gone : ℕ) (come : List A) → k < length cs → o + gone ≤ length (get_or cs k [])
    → concatenated (replaced cs k o gone come) ≡ with_run (concatenated cs) (length (concatenated (take k cs)) + o) gone come
concatenated-replaced [] k o gone come h within = absurd (omega arith)
concatenated-replaced {A} (c ∷ cs) zero o gone come h within =
    let at : 0 + o ≡ o = omega arith in
    rw (at, take-append-le o c (concatenated cs) (omega arith), drop-append-le (o + gone) c (concatenated cs) within)
    (append_assoc (take o c ++ come) (drop (o + gone) c) (concatenated cs))
concatenated-replaced {A} (c ∷ cs) (suc k) o gone come h within =
    let rest = concatenated-replaced cs k o gone come (omega arith) within in
    let n : ℕ = length (concatenated (take k cs)) + o in
    let at : length (c ++ concatenated (take k cs)) + o ≡ length c + n = omega (arith, length-append c (concatenated (take k cs))) in
    let to : length c + n + gone ≡ length c + (n + gone) = omega arith in
    rw (at, to, rest, take-append-add c (concatenated cs) n, drop-append-add c (concatenated cs) (n + gone))
    (sym (ap (λ (t : List A). t ++ drop (n + gone) (concatenated cs)) (append_assoc c (take n (concatenated cs)) come) ∙ append_assoc c (take n (concatenated cs) ++ come) (drop (n + gone) (concatenated cs))))

-- the leaf of the program at that place, and another in its place
module _ {T : Type 0} (vs : List (Vec T Global)) (now : List (List T)) (view : map (λ (u : Vec T Global). u.items) vs ≡ now) (k : ℕ) (h : k < length now) (v w : Vec T Global) (value : v ≡ get_or vs k v) where
  pub is_there : k < length vs
  is_there = omega (arith, ap length view, length-map vs (λ (u : Vec T Global). u.items))

  pub leaf_is : get_or now k [] ≡ v.items
  leaf_is = rw (← view) (item_at vs k v is_there value)

  pub put_back : w.items ≡ v.items → map (λ (u : Vec T Global). u.items) (set vs k w) ≡ map (λ (u : Vec T Global). u.items) vs
  put_back same = map-set_same (λ (u : Vec T Global). u.items) vs k w v (same ∙ ap (λ (u : Vec T Global). u.items) value)

  pub put_other : (l : List T) → w.items ≡ l → map (λ (u : Vec T Global). u.items) (set vs k w) ≡ set now k l
  put_other l is = map-set (λ (u : Vec T Global). u.items) vs k w ∙ rw view (ap (λ (l : List T). set now k l) is)

  pub put_replaced : (at gone : ℕ) (come : List T) → w.items ≡ with_run v.items at gone come → map (λ (u : Vec T Global). u.items) (set vs k w) ≡ replaced now k at gone come
  put_replaced at gone come is = put_other (with_run v.items at gone come) is ∙ rw leaf_is refl

  pub put_sums : {S : Type 0} (total : List T → S) (sums : List S) (s : S) → sums ≡ map total (map (λ (u : Vec T Global). u.items) vs) → s ≡ total w.items → set sums k s ≡ map total (map (λ (u : Vec T Global). u.items) (set vs k w))
  put_sums total sums s all is =
      rw (map-set (λ (u : Vec T Global). u.items) vs k w, map-set total (map (λ (u : Vec T Global). u.items) vs) k w.items, all, is) refl

pub given_err : {T E P : Type 0} (r : Result T E) → P → OnErr r P
given_err (Ok x) p = tt
given_err (Err e) p = p
