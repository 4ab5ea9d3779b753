-- Members of lists, and lists of which each two elements are related.
use Rattle.std.proofs.Common.{◌≡◌, ℕ, zero, suc, ◌+◌, ◌<◌, ◌≤◌, List, [], ◌∷◌, ◌++◌, map, refl, sym, ap, ◌∙◌, subst, arith, inl, inr, Bool, true, false}
use Rattle.std.specs.Prelude.{◌⊎◌}
use Rattle.std.specs.List.{filter, flat_map, Contains, All, AllPairs, range_with_len}
use Rattle.std.proofs.lemmas.List.Kept.{AllPairs-cons}

abbrev pub IsIn : {A : Type 0} → A → List A → Type 0
IsIn x [] = ⊥
IsIn x (y ∷ ys) = (x ≡ y) ⊎ IsIn x ys

pub in_left : {A : Type 0} (x : A) (xs ys : List A) → IsIn x xs → IsIn x (xs ++ ys)
in_left x [] ys h = absurd h
in_left x (z ∷ xs) ys (inl e) = inl e
in_left x (z ∷ xs) ys (inr h) = inr (in_left x xs ys h)

pub in_right : {A : Type 0} (x : A) (xs ys : List A) → IsIn x ys → IsIn x (xs ++ ys)
in_right x [] ys h = h
in_right x (z ∷ xs) ys h = inr (in_right x xs ys h)

pub in_cases : {A : Type 0} (x : A) (xs ys : List A) → IsIn x (xs ++ ys) → IsIn x xs ⊎ IsIn x ys
in_cases x [] ys h = inr h
in_cases x (z ∷ xs) ys (inl e) = inl (inl e)
in_cases x (z ∷ xs) ys (inr h) = elim (in_cases x xs ys h) [ inl a ↦ inl (inr a) | inr b ↦ inr b ]

pub in_map : {A B : Type 0} (f : A → B) (x : A) (xs : List A) → IsIn x xs → IsIn (f x) (map f xs)
in_map f x [] h = absurd h
in_map f x (z ∷ xs) (inl e) = inl (ap f e)
in_map f x (z ∷ xs) (inr h) = inr (in_map f x xs h)

pub map_cases : {A B : Type 0} (f : A → B) (y : B) (xs : List A) → IsIn y (map f xs) → (x : A) × IsIn x xs × (y ≡ f x)
map_cases f y [] h = absurd h
map_cases f y (z ∷ xs) (inl e) = (z, inl refl, e)
map_cases f y (z ∷ xs) (inr h) = let r = map_cases f y xs h in (r.0, inr r.1, r.2)

pub in_flat : {A B : Type 0} (f : A → List B) (x : A) (y : B) (xs : List A) → IsIn x xs → IsIn y (f x) → IsIn y (flat_map f xs)
in_flat f x y [] h k = absurd h
in_flat {A = A} {B = B} f x y (z ∷ xs) (inl e) k = in_left y (f z) (flat_map f xs) (subst (λ (w : A). IsIn y (f w)) e k)
in_flat f x y (z ∷ xs) (inr h) k = in_right y (f z) (flat_map f xs) (in_flat f x y xs h k)

pub flat_cases : {A B : Type 0} (f : A → List B) (y : B) (xs : List A) → IsIn y (flat_map f xs) → (x : A) × IsIn x xs × IsIn y (f x)
flat_cases f y [] h = absurd h
flat_cases f y (z ∷ xs) h = elim (in_cases y (f z) (flat_map f xs) h) [
  | inl a ↦ (z, inl refl, a)
  | inr b ↦ let r = flat_cases f y xs b in (r.0, inr r.1, r.2)
]

pub in_filter : {A : Type 0} (p : A → Bool) (x : A) (xs : List A) → IsIn x xs → p x ≡ true → IsIn x (filter p xs)
in_filter p x [] h e = absurd h
in_filter p x (z ∷ xs) (inl same) e = rw (ap p (sym same) ∙ e) (inl same)
in_filter p x (z ∷ xs) (inr h) e = go (in_filter p x xs h e) (p z) refl
  where
    go : IsIn x (filter p xs) → (b : Bool) → p z ≡ b → IsIn x (filter p (z ∷ xs))
    go rest true is = rw is (inr rest)
    go rest false is = rw is rest

pub filter_cases : {A : Type 0} (p : A → Bool) (x : A) (xs : List A) → IsIn x (filter p xs) → IsIn x xs × (p x ≡ true)
filter_cases p x [] h = absurd h
filter_cases p x (z ∷ xs) h = go (filter_cases p x xs) (p z) refl h
  where
    go : (IsIn x (filter p xs) → IsIn x xs × (p x ≡ true)) → (b : Bool) → p z ≡ b → IsIn x (filter p (z ∷ xs)) → IsIn x (z ∷ xs) × (p x ≡ true)
    go rest true is k = elim (rw is at k) [
      | inl e ↦ (inl e, ap p e ∙ is)
      | inr later ↦ let r = rest later in (inr r.0, r.1)
    ]
    go rest false is k = let r = rest (rw is at k) in (inr r.0, r.1)

in_range : (a n k : ℕ) → k < n → IsIn (a + k) (range_with_len a n)
in_range a zero k h = absurd (omega (arith, h))
in_range a (suc n) zero h = inl (omega arith)
in_range a (suc n) (suc k) h = inr (subst (λ (m : ℕ). IsIn m (range_with_len (a + 1) n)) (omega arith) (in_range (a + 1) n k (omega (arith, h))))

pub in_first : (n k : ℕ) → k < n → IsIn k (range_with_len 0 n)
in_first n k h = let e : 0 + k ≡ k = omega arith in subst (λ (m : ℕ). IsIn m (range_with_len 0 n)) e (in_range 0 n k h)

pub range_cases : (a n k : ℕ) → IsIn k (range_with_len a n) → (a ≤ k) × (k < a + n)
range_cases a zero k h = absurd h
range_cases a (suc n) k (inl e) = (omega (arith, e), omega (arith, e))
range_cases a (suc n) k (inr h) = let r = range_cases (a + 1) n k h in (omega (arith, r.0), omega (arith, r.1))

pub contains : {A : Type 0} (x : A) (xs : List A) → IsIn x xs → Contains xs x
contains x [] h = absurd h
contains x (z ∷ xs) (inl e) = (0, omega arith, sym e)
contains x (z ∷ xs) (inr h) = let r = contains x xs h in (suc r.0, omega (arith, r.1), r.2)

-- each element and each later one
abbrev pub Pairwise : {A : Type 0} → (A → A → Type 0) → List A → Type 0
Pairwise R [] = Unit {0}
Pairwise {A} R (x ∷ xs) = ((y : A) → IsIn y xs → R x y) × Pairwise R xs

pub pairwise_append : {A : Type 0} (R : A → A → Type 0) (xs ys : List A) → Pairwise R xs → Pairwise R ys → ((x y : A) → IsIn x xs → IsIn y ys → R x y) → Pairwise R (xs ++ ys)
pairwise_append R [] ys p q r = q
pairwise_append R (x ∷ xs) ys p q r = (
  λ y h. elim (in_cases y xs ys h) [ inl a ↦ p.0 y a | inr b ↦ r x y (inl refl) b ],
  pairwise_append R xs ys p.1 q (λ z y a b. r z y (inr a) b),
)

pub pairwise_map : {A B : Type 0} (R : B → B → Type 0) (f : A → B) (xs : List A) → Pairwise (λ x y. R (f x) (f y)) xs → Pairwise R (map f xs)
pairwise_map R f [] p = tt
pairwise_map {B = B} R f (x ∷ xs) p = (
  λ y h. (let r = map_cases f y xs h in subst (λ (w : B). R (f x) w) (sym r.2) (p.0 r.0 r.1)),
  pairwise_map R f xs p.1,
)

pub pairwise_weaker : {A : Type 0} (R S : A → A → Type 0) (xs : List A) → ((x y : A) → IsIn x xs → IsIn y xs → R x y → S x y) → Pairwise R xs → Pairwise S xs
pairwise_weaker R S [] f p = tt
pairwise_weaker R S (x ∷ xs) f p = (λ y h. f x y (inl refl) (inr h) (p.0 y h), pairwise_weaker R S xs (λ y z a b. f y z (inr a) (inr b)) p.1)

pub pairwise_filter : {A : Type 0} (R : A → A → Type 0) (q : A → Bool) (xs : List A) → Pairwise R xs → Pairwise R (filter q xs)
pairwise_filter R q [] p = tt
pairwise_filter R q (x ∷ xs) p = go (pairwise_filter R q xs p.1) (q x) refl
  where
    go : Pairwise R (filter q xs) → (b : Bool) → q x ≡ b → Pairwise R (filter q (x ∷ xs))
    go rest true is = rw is (λ y h. p.0 y (filter_cases q y xs h).0, rest)
    go rest false is = rw is rest

pub pairwise_flat : {A B : Type 0} (Q : A → A → Type 0) (R : B → B → Type 0) (f : A → List B) (xs : List A) → Pairwise Q xs → ((x : A) → IsIn x xs → Pairwise R (f x))
    → ((x y : A) → IsIn x xs → IsIn y xs → Q x y → (a b : B) → IsIn a (f x) → IsIn b (f y) → R a b) → Pairwise R (flat_map f xs)
pairwise_flat Q R f [] p inner across = tt
pairwise_flat Q R f (x ∷ xs) p inner across =
    pairwise_append R (f x) (flat_map f xs) (inner x (inl refl)) (pairwise_flat Q R f xs p.1 (λ y h. inner y (inr h)) (λ y z a b. across y z (inr a) (inr b)))
    (λ a b h k. (let r = flat_cases f b xs k in across x r.0 (inl refl) (inr r.1) (p.0 r.0 r.1) a b h r.2))

pub pairwise_range : (a n : ℕ) → Pairwise (λ x y. x < y) (range_with_len a n)
pairwise_range a zero = tt
pairwise_range a (suc n) = (λ y h. (let r = range_cases (a + 1) n y h in omega (arith, r.0)), pairwise_range (a + 1) n)

pub all_in : {A : Type 0} (P : A → Type 0) (xs : List A) → ((x : A) → IsIn x xs → P x) → All P xs
all_in P [] f k d h = absurd (omega (arith, h))
all_in P (x ∷ xs) f zero d h = f x (inl refl)
all_in P (x ∷ xs) f (suc k) d h = all_in P xs (λ y i. f y (inr i)) k d (omega (arith, h))

pub all_pairs : {A : Type 0} (R : A → A → Type 0) (xs : List A) → Pairwise R xs → AllPairs R xs
all_pairs R [] p = λ i j d h k. absurd (omega (arith, k))
all_pairs R (x ∷ xs) p = AllPairs-cons R x xs (all_in (R x) xs p.0) (all_pairs R xs p.1)
