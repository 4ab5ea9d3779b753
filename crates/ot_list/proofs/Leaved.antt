-- Lists in leaves: the rule on neighbours, the last leaf, and what the leaves make together.
use Rattle.std.proofs.Common.{◌≡◌, add-mul, ℕ, zero, suc, ◌+◌, ◌*◌, ◌<◌, ◌≤◌, List, [], ◌∷◌, ◌++◌, length, take, drop, get_or, refl, arith, append_assoc, length-append}
use Rattle.ot_list.specs.Leaves.{concatenated, AreLeaves, MayEnd, last_leaf}

pub concatenated-append : {A : Type 0} (cs ds : List (List A)) → concatenated (cs ++ ds) ≡ concatenated cs ++ concatenated ds
concatenated-append [] ds = refl
concatenated-append (c ∷ cs) ds = rw (concatenated-append cs ds, append_assoc) refl

pub leaf_filled : {A : Type 0} (cap : ℕ) (cs : List (List A)) (k : ℕ) → AreLeaves cap cs → k < length cs → 0 < length (get_or cs k [])
leaf_filled cap [] k p h = absurd (omega arith)
leaf_filled cap (c ∷ cs) zero p h = p.0
leaf_filled cap (c ∷ cs) (suc k) p h = leaf_filled cap cs k p.3 (omega arith)

pub leaf_small : {A : Type 0} (cap : ℕ) (cs : List (List A)) (k : ℕ) → AreLeaves cap cs → length (get_or cs k []) ≤ cap
leaf_small cap [] zero p = omega arith
leaf_small cap [] (suc k) p = omega arith
leaf_small cap (c ∷ cs) zero p = p.1
leaf_small cap (c ∷ cs) (suc k) p = leaf_small cap cs k p.3

pub leaves_push : {A : Type 0} (cap : ℕ) (cs : List (List A)) (c : List A) → AreLeaves cap cs → 0 < length c → length c ≤ cap → MayEnd cap cs (length c) → AreLeaves cap (cs ++ c ∷ [])
leaves_push cap [] c p f s e = (f, s, tt, tt)
leaves_push cap (b ∷ []) c p f s e = (p.0, p.1, e, (f, s, tt, tt))
leaves_push cap (b ∷ d ∷ cs) c p f s e = (p.0, p.1, p.2, leaves_push cap (d ∷ cs) c p.3 f s e)

pub leaves_append : {A : Type 0} (cap : ℕ) (cs : List (List A)) (d : List A) (ds : List (List A)) → AreLeaves cap cs → AreLeaves cap (d ∷ ds) → MayEnd cap cs (length d) → AreLeaves cap (cs ++ d ∷ ds)
leaves_append cap [] d ds p q e = q
leaves_append cap (b ∷ []) d ds p q e = (p.0, p.1, e, q)
leaves_append cap (b ∷ c ∷ cs) d ds p q e = (p.0, p.1, p.2, leaves_append cap (c ∷ cs) d ds p.3 q e)

pub leaves_front : {A : Type 0} (cap : ℕ) (cs ds : List (List A)) → AreLeaves cap (cs ++ ds) → AreLeaves cap cs
leaves_front cap [] ds p = tt
leaves_front cap (b ∷ []) ds p = (p.0, p.1, tt, tt)
leaves_front cap (b ∷ c ∷ cs) ds p = (p.0, p.1, p.2, leaves_front cap (c ∷ cs) ds p.3)

pub leaves_end : {A : Type 0} (cap : ℕ) (cs : List (List A)) (d : List A) (ds : List (List A)) → AreLeaves cap (cs ++ d ∷ ds) → MayEnd cap cs (length d)
leaves_end cap [] d ds p = tt
leaves_end cap (b ∷ []) d ds p = p.2
leaves_end cap (b ∷ c ∷ cs) d ds p = leaves_end cap (c ∷ cs) d ds p.3

pub leaves_drop : {A : Type 0} (cap k : ℕ) (cs : List (List A)) → AreLeaves cap cs → AreLeaves cap (drop k cs)
leaves_drop cap zero cs p = p
leaves_drop cap (suc k) [] p = tt
leaves_drop cap (suc k) (c ∷ cs) p = leaves_drop cap k cs p.3

pub leaves_take : {A : Type 0} (cap k : ℕ) (cs : List (List A)) → AreLeaves cap cs → AreLeaves cap (take k cs)
leaves_take cap zero cs p = tt
leaves_take cap (suc k) [] p = tt
leaves_take cap (suc zero) (c ∷ cs) p = (p.0, p.1, tt, tt)
leaves_take cap (suc (suc k)) (c ∷ []) p = p
leaves_take cap (suc (suc k)) (c ∷ d ∷ cs) p = (p.0, p.1, p.2, leaves_take cap (suc k) (d ∷ cs) p.3)

pub may_end_more : {A : Type 0} (cap : ℕ) (cs : List (List A)) (n m : ℕ) → n ≤ m → MayEnd cap cs n → MayEnd cap cs m
may_end_more cap [] n m h e = tt
may_end_more cap (b ∷ []) n m h e = omega arith
may_end_more cap (b ∷ c ∷ cs) n m h e = may_end_more cap (c ∷ cs) n m h e

-- the last leaf decides
pub may_end_by_last : {A : Type 0} (cap : ℕ) (cs : List (List A)) (n : ℕ) → AreLeaves cap cs → (0 < length (last_leaf cs) → cap < length (last_leaf cs) + n) → MayEnd cap cs n
may_end_by_last cap [] n p h = tt
may_end_by_last cap (b ∷ []) n p h = h p.0
may_end_by_last cap (b ∷ c ∷ cs) n p h = may_end_by_last cap (c ∷ cs) n p.3 h

pub last-push : {A : Type 0} (cs : List (List A)) (c : List A) → last_leaf (cs ++ c ∷ []) ≡ c
last-push [] c = refl
last-push (b ∷ []) c = refl
last-push (b ∷ d ∷ cs) c = last-push (d ∷ cs) c

pub last_small : {A : Type 0} (cap : ℕ) (cs : List (List A)) → AreLeaves cap cs → length (last_leaf cs) ≤ cap
last_small cap [] p = omega arith
last_small cap (b ∷ []) p = p.1
last_small cap (b ∷ c ∷ cs) p = last_small cap (c ∷ cs) p.3

few_more : (n leaves size two items all : ℕ) → n ≡ 2 + leaves → all ≡ two + items → size ≤ two → leaves * size ≤ 2 * items + size → n * size ≤ 2 * all + size
few_more n leaves size two items all m e l h = let d : (2 + leaves) * size ≡ 2 * size + leaves * size = add-mul 2 leaves size in rw m (omega arith)

-- two leaves for every `cap + 1` items, and one more: with an even number of leaves, and with one before these
pub leaves_few : {A : Type 0} (cap : ℕ) (cs : List (List A)) → AreLeaves cap cs → length cs * (cap + 1) ≤ 2 * length (concatenated cs) + (cap + 1)
leaves_few cap [] p = omega arith
leaves_few cap (c ∷ []) p = omega arith
leaves_few cap (c ∷ d ∷ cs) p =
    let h = leaves_few cap cs p.3.3 in
    let pair : cap < length c + length d = p.2 in
    let n : cap + 1 ≤ length c + length d = omega arith in
    let items : length (c ++ (d ++ concatenated cs)) ≡ length c + length d + length (concatenated cs) = rw (length-append, length-append) (omega arith) in
    few_more (length (c ∷ d ∷ cs)) (length cs) (cap + 1) (length c + length d) (length (concatenated cs)) _ (omega arith) items n h
