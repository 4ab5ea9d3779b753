-- Runs in normal form are determined by the operation that they spell, and each operation has them.
use Rattle.std.proofs.Common.{◌≡◌, ℕ, zero, suc, ◌+◌, ◌-◌, ◌≤◌, List, [], ◌∷◌, ◌++◌, map, refl, sym, ap, ◌∙◌, arith}
use Rattle.ot_operation.proofs.RunLemmas.{same_operation}
use Rattle.ot_operation.specs.Operation.{Item, Old, New, olds, Operation, RisesFrom, IsOperation}
use Rattle.ot_operation.specs.Run.{Run, Keep, Add, Skip, base_of, image_from, operation_of, MayLead, IsNormal, with_keep, with_new, with_skip, normal_runs_from, normal_runs}

abbrev with_keeps : {A : Type 0} → ℕ → List (Run A) → List (Run A)
with_keeps zero rs = rs
with_keeps (suc n) rs = with_keep (with_keeps n rs)

abbrev with_news : {A : Type 0} → List A → List (Run A) → List (Run A)
with_news [] rs = rs
with_news (x ∷ s) rs = with_new x (with_news s rs)

keeps : {A : Type 0} (from n : ℕ) (items : List (Item A)) (end : ℕ) → normal_runs_from from (olds from n ++ items) end ≡ with_keeps n (normal_runs_from (from + n) items end)
keeps from zero items end = let e : from + zero ≡ from = omega arith in rw e refl
keeps from (suc n) items end =
    let z : from - from ≡ zero = omega arith in
    let e : from + suc n ≡ suc from + n = omega arith in
    rw (z, keeps (suc from) n items end, e) refl

news : {A : Type 0} (from : ℕ) (s : List A) (items : List (Item A)) (end : ℕ) → normal_runs_from from (map New s ++ items) end ≡ with_news s (normal_runs_from from items end)
news from [] items end = refl
news from (x ∷ s) items end = ap (λ t. with_new x t) (news from s items end)

one_keep : {A : Type 0} (n : ℕ) (rs : List (Run A)) → MayLead (Keep n) rs → with_keep rs ≡ Keep 1 ∷ rs
one_keep n [] l = refl
one_keep n (Keep m ∷ rs) l = absurd l
one_keep n (Add s ∷ rs) l = refl
one_keep n (Skip m ∷ rs) l = refl

lead_any : {A : Type 0} (m n : ℕ) (rs : List (Run A)) → MayLead (Keep m) rs → MayLead (Keep n) rs
lead_any m n [] l = tt
lead_any m n (Keep k ∷ rs) l = l
lead_any m n (Add s ∷ rs) l = l
lead_any m n (Skip k ∷ rs) l = l

all_keeps : {A : Type 0} (n : ℕ) (rs : List (Run A)) → MayLead (Keep n) rs → with_keeps (suc n) rs ≡ Keep (suc n) ∷ rs
all_keeps zero rs l = one_keep zero rs l
all_keeps (suc n) rs l = let e : 1 + suc n ≡ suc (suc n) = omega arith in rw (all_keeps n rs (lead_any (suc n) n rs l), e) refl

one_new : {A : Type 0} (x : A) (s : List A) (rs : List (Run A)) → MayLead (Add s) rs → with_new x rs ≡ Add (x ∷ []) ∷ rs
one_new x s [] l = refl
one_new x s (Keep m ∷ rs) l = refl
one_new x s (Add t ∷ rs) l = absurd l
one_new x s (Skip m ∷ rs) l = refl

lead_any_add : {A : Type 0} (s t : List A) (rs : List (Run A)) → MayLead (Add s) rs → MayLead (Add t) rs
lead_any_add s t [] l = tt
lead_any_add s t (Keep k ∷ rs) l = l
lead_any_add s t (Add u ∷ rs) l = l
lead_any_add s t (Skip k ∷ rs) l = l

all_news : {A : Type 0} (x : A) (s : List A) (rs : List (Run A)) → MayLead (Add s) rs → with_news (x ∷ s) rs ≡ Add (x ∷ s) ∷ rs
all_news x [] rs l = one_new x [] rs l
all_news x (y ∷ s) rs l = rw (all_news y s rs (lead_any_add (y ∷ s) s rs l)) refl

-- the normal runs of what normal runs spell are these runs
normal_runs_from_back : {A : Type 0} (from end : ℕ) (rs : List (Run A)) → IsNormal rs → from + base_of rs ≡ end → normal_runs_from from (image_from from rs) end ≡ rs
normal_runs_from_back from end [] n e = let z : end - from ≡ zero = omega arith in rw z refl
normal_runs_from_back from end (Keep zero ∷ rs) n e = absurd (omega (arith, n.0))
normal_runs_from_back from end (Keep (suc k) ∷ rs) n e =
    rw (keeps from (suc k) (image_from (from + suc k) rs) end, normal_runs_from_back (from + suc k) end rs n.2 (omega arith))
    (all_keeps k rs (lead_any (suc k) k rs n.1))
normal_runs_from_back from end (Add [] ∷ rs) n e = absurd (omega (arith, n.0))
normal_runs_from_back from end (Add (x ∷ s) ∷ rs) n e =
    rw (news from s (image_from from rs) end, normal_runs_from_back from end rs n.2 (omega arith))
    (all_news x s rs (lead_any_add (x ∷ s) s rs n.1))
normal_runs_from_back from end (Skip zero ∷ rs) n e = absurd (omega (arith, n.0))
normal_runs_from_back from end (Skip (suc d) ∷ []) n e = let z : end - from ≡ suc d = omega arith in rw z refl
normal_runs_from_back from end (Skip (suc d) ∷ Keep zero ∷ rs) n e = absurd (omega (arith, n.2.0))
normal_runs_from_back from end (Skip (suc d) ∷ Keep (suc k) ∷ rs) n e =
    let z : (from + suc d) - from ≡ suc d = omega arith in
    let w : (from + suc d) - (from + suc d) ≡ zero = omega arith in
    let back = normal_runs_from_back (from + suc d) end (Keep (suc k) ∷ rs) n.2 (omega arith) in
    let back' = rw w at back in
    rw z (ap (λ t. Skip (suc d) ∷ t) back')
normal_runs_from_back from end (Skip (suc d) ∷ Add s ∷ rs) n e = absurd n.1
normal_runs_from_back from end (Skip (suc d) ∷ Skip c ∷ rs) n e = absurd n.1

-- the normal runs of what normal runs spell are these runs
pub normal_runs_back : {A : Type 0} (rs : List (Run A)) → IsNormal rs → normal_runs (operation_of rs) ≡ rs
normal_runs_back rs n = normal_runs_from_back 0 (base_of rs) rs n (omega arith)

-- the normal runs of an operation are its components
pub runs_are : {A : Type 0} (rs : List (Run A)) (op : Operation A) → IsNormal rs → operation_of rs ≡ op → rs ≡ normal_runs op
runs_are rs op n e = sym (normal_runs_back rs n) ∙ ap normal_runs e

-- a normal operation is determined by its base and its image
pub normal_unique : {A : Type 0} (rs ss : List (Run A)) → IsNormal rs → IsNormal ss → operation_of rs ≡ operation_of ss → rs ≡ ss
normal_unique {A} rs ss n m e =
    let b : base_of rs ≡ base_of ss = ap (λ (op : Operation A). op.base) e in
    let i : image_from 0 rs ≡ image_from 0 ss = ap (λ (op : Operation A). op.image) e in
    sym (normal_runs_from_back 0 (base_of rs) rs n (omega arith))
    ∙ rw i (normal_runs_from_back 0 (base_of rs) ss m (omega arith))

record Spelt {A : Type 0} (from : ℕ) (items : List (Item A)) (end : ℕ) (rs : List (Run A)) : Type 0 where
  normal : IsNormal rs
  base : from + base_of rs ≡ end
  image : image_from from rs ≡ items

keep_first : {A : Type 0} (rs : List (Run A)) (n : ℕ) → MayLead (Skip n) (with_keep rs)
keep_first [] n = tt
keep_first (Keep k ∷ rs) n = tt
keep_first (Add s ∷ rs) n = tt
keep_first (Skip k ∷ rs) n = tt

lead_longer : {A : Type 0} (k : ℕ) (rs : List (Run A)) → MayLead (Keep k) rs → MayLead (Keep (1 + k)) rs
lead_longer k [] l = tt
lead_longer k (Keep m ∷ rs) l = l
lead_longer k (Add s ∷ rs) l = l
lead_longer k (Skip m ∷ rs) l = l

lead_other : {A : Type 0} (s t : List A) (rs : List (Run A)) → MayLead (Add s) rs → MayLead (Add t) rs
lead_other s t [] l = tt
lead_other s t (Keep m ∷ rs) l = l
lead_other s t (Add u ∷ rs) l = l
lead_other s t (Skip m ∷ rs) l = l

keep_normal : {A : Type 0} (rs : List (Run A)) → IsNormal rs → IsNormal (with_keep rs)
keep_normal [] n = (omega arith, tt, tt)
keep_normal (Keep k ∷ rs) n = (omega arith, lead_longer k rs n.1, n.2)
keep_normal (Add s ∷ rs) n = (omega arith, tt, n)
keep_normal (Skip k ∷ rs) n = (omega arith, tt, n)

keep_base : {A : Type 0} (rs : List (Run A)) → base_of (with_keep rs) ≡ 1 + base_of rs
keep_base [] = refl
keep_base (Keep k ∷ rs) = omega arith
keep_base (Add s ∷ rs) = refl
keep_base (Skip k ∷ rs) = refl

keep_image : {A : Type 0} (from : ℕ) (rs : List (Run A)) → image_from from (with_keep rs) ≡ Old from ∷ image_from (suc from) rs
keep_image from [] = refl
keep_image from (Keep k ∷ rs) =
    let e : 1 + k ≡ suc k = omega arith in
    let f : from + (1 + k) ≡ (suc from) + k = omega arith in rw (f, e) refl
keep_image from (Add s ∷ rs) = let e : from + 1 ≡ suc from = omega arith in rw e refl
keep_image from (Skip k ∷ rs) = let e : from + 1 ≡ suc from = omega arith in rw e refl

new_normal : {A : Type 0} (x : A) (rs : List (Run A)) → IsNormal rs → IsNormal (with_new x rs)
new_normal x [] n = (omega arith, tt, tt)
new_normal x (Keep k ∷ rs) n = (omega arith, tt, n)
new_normal x (Add s ∷ rs) n = (omega arith, lead_other s (x ∷ s) rs n.1, n.2)
new_normal x (Skip k ∷ rs) n = (omega arith, tt, n)

new_base : {A : Type 0} (x : A) (rs : List (Run A)) → base_of (with_new x rs) ≡ base_of rs
new_base x [] = refl
new_base x (Keep k ∷ rs) = omega arith
new_base x (Add s ∷ rs) = refl
new_base x (Skip k ∷ rs) = omega arith

new_image : {A : Type 0} (from : ℕ) (x : A) (rs : List (Run A)) → image_from from (with_new x rs) ≡ New x ∷ image_from from rs
new_image from x [] = refl
new_image from x (Keep k ∷ rs) = refl
new_image from x (Add s ∷ rs) = refl
new_image from x (Skip k ∷ rs) = refl

skip_normal : {A : Type 0} (n : ℕ) (rs : List (Run A)) → IsNormal rs → ((k : ℕ) → MayLead (Skip k) rs) → IsNormal (with_skip n rs)
skip_normal zero rs n l = n
skip_normal (suc k) rs n l = (omega arith, l (suc k), n)

skip_base : {A : Type 0} (n : ℕ) (rs : List (Run A)) → base_of (with_skip n rs) ≡ n + base_of rs
skip_base zero rs = omega arith
skip_base (suc k) rs = refl

skip_image : {A : Type 0} (from n : ℕ) (rs : List (Run A)) → image_from from (with_skip n rs) ≡ image_from (from + n) rs
skip_image from zero rs = let e : from + zero ≡ from = omega arith in rw e refl
skip_image from (suc k) rs = refl

spelt : {A : Type 0} (from : ℕ) (items : List (Item A)) (end : ℕ) → from ≤ end → RisesFrom from end items → Spelt from items end (normal_runs_from from items end)
spelt {A} from [] end le rising = record {
  normal = skip_normal (end - from) [] tt (λ k. tt);
  base = omega (arith, skip_base {A = A} (end - from) [], le);
  image = skip_image from (end - from) [];
}
spelt {A} from (New x ∷ items) end le rising =
    let k = spelt from items end le rising in
    record {
      normal = new_normal x _ k.normal;
      base = omega (arith, new_base x (normal_runs_from from items end), k.base);
      image = new_image from x (normal_runs_from from items end) ∙ ap (λ (is : List (Item A)). New x ∷ is) k.image;
    }
spelt {A} from (Old i ∷ items) end le rising =
    let k = spelt (suc i) items end (omega (arith, rising.1)) rising.2 in
    let rs = normal_runs_from (suc i) items end in
    let place : from + (i - from) ≡ i = omega (arith, rising.0) in
    record {
      normal = skip_normal (i - from) (with_keep rs) (keep_normal rs k.normal) (keep_first rs);
      base = omega (arith, skip_base (i - from) (with_keep rs), keep_base rs, k.base, rising.0);
      image = skip_image from (i - from) (with_keep rs) ∙ ap (λ (p : ℕ). image_from p (with_keep rs)) place ∙ keep_image i rs ∙ ap (λ (is : List (Item A)). Old i ∷ is) k.image;
    }

-- every operation is spelled by its normal runs
pub runs_normal : {A : Type 0} (op : Operation A) → IsOperation op → IsNormal (normal_runs op) × (operation_of (normal_runs op) ≡ op)
runs_normal {A} op is =
    let k = spelt 0 op.image op.base (omega arith) is in
    (k.normal, same_operation _ _ _ _ (omega (arith, k.base)) k.image)
