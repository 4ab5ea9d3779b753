-- What codes come to, one after the other.
use Rattle.std.proofs.Common.{◌≡◌, ℕ, suc, zero, ◌+◌, ◌<◌, List, [], ◌∷◌, ◌++◌, take, drop, get_or, length, refl, sym, ap, subst, ◌∙◌, arith}
use Rattle.std.proofs.Math.Seq.{take-length, drop-cons}
use Rattle.ot_codes.specs.declared.code.Code.{Code}
use Rattle.ot_codes.specs.declared.code.Code.TheVariants.{Retain, Insert, Delete}
use Rattle.ot_codes.specs.declared.code.Sum.{Sum}
use Rattle.ot_codes.specs.Codes.{HasPart, added, counted, lessened, kept_in, deleted_in, inserted_in, sum_of, total_of}

pub same_sum : (k l m n p q : ℕ) → k ≡ l → m ≡ n → p ≡ q → ◌≡◌ {A = Sum} (record { kept = k; deleted = m; inserted = p }) (record { kept = l; deleted = n; inserted = q })
same_sum k l m n p q kept deleted inserted = rw (kept, deleted, inserted) refl

pub kept-append : (xs ys : List Code) → kept_in (xs ++ ys) ≡ kept_in xs + kept_in ys
kept-append [] ys = omega arith
kept-append (Retain n ∷ xs) ys = omega (arith, kept-append xs ys)
kept-append (Insert n ∷ xs) ys = kept-append xs ys
kept-append (Delete n ∷ xs) ys = kept-append xs ys

pub deleted-append : (xs ys : List Code) → deleted_in (xs ++ ys) ≡ deleted_in xs + deleted_in ys
deleted-append [] ys = omega arith
deleted-append (Retain n ∷ xs) ys = deleted-append xs ys
deleted-append (Insert n ∷ xs) ys = deleted-append xs ys
deleted-append (Delete n ∷ xs) ys = omega (arith, deleted-append xs ys)

pub inserted-append : (xs ys : List Code) → inserted_in (xs ++ ys) ≡ inserted_in xs + inserted_in ys
inserted-append [] ys = omega arith
inserted-append (Retain n ∷ xs) ys = inserted-append xs ys
inserted-append (Insert n ∷ xs) ys = omega (arith, inserted-append xs ys)
inserted-append (Delete n ∷ xs) ys = inserted-append xs ys

pub total-append : (xs ys : List Code) → total_of (xs ++ ys) ≡ total_of xs + total_of ys
total-append [] ys = omega arith
total-append (x ∷ xs) ys = omega (arith, total-append xs ys)

pub total_in : (codes : List Code) → total_of codes ≡ kept_in codes + deleted_in codes + inserted_in codes
total_in [] = refl
total_in (Retain n ∷ codes) = omega (arith, total_in codes)
total_in (Insert n ∷ codes) = omega (arith, total_in codes)
total_in (Delete n ∷ codes) = omega (arith, total_in codes)

-- one more
pub counted_more : (xs : List Code) (x : Code) → counted (sum_of xs) x ≡ sum_of (xs ++ x ∷ [])
counted_more xs (Retain n) =
    same_sum _ _ _ _ _ _ (omega (arith, kept-append xs (Retain n ∷ []))) (omega (arith, deleted-append xs (Retain n ∷ []))) (omega (arith, inserted-append xs (Retain n ∷ [])))
counted_more xs (Insert n) =
    same_sum _ _ _ _ _ _ (omega (arith, kept-append xs (Insert n ∷ []))) (omega (arith, deleted-append xs (Insert n ∷ []))) (omega (arith, inserted-append xs (Insert n ∷ [])))
counted_more xs (Delete n) =
    same_sum _ _ _ _ _ _ (omega (arith, kept-append xs (Delete n ∷ []))) (omega (arith, deleted-append xs (Delete n ∷ []))) (omega (arith, inserted-append xs (Delete n ∷ [])))

pub take_more : {X : Type 0} (xs : List X) (i : ℕ) (d : X) → i < length xs → take (suc i) xs ≡ take i xs ++ get_or xs i d ∷ []
take_more [] i d h = absurd (omega (arith, h))
take_more (x ∷ xs) zero d h = refl
take_more {X} (x ∷ xs) (suc i) d h = ap (λ (rest : List X). x ∷ rest) (take_more xs i d (omega (arith, h)))

-- codes behind codes
pub sum-append : (xs ys : List Code) → added (sum_of xs) (sum_of ys) ≡ sum_of (xs ++ ys)
sum-append xs ys = same_sum _ _ _ _ _ _ (sym (kept-append xs ys)) (sym (deleted-append xs ys)) (sym (inserted-append xs ys))

-- a sum without one of its codes

pub front_last : (codes : List Code) (i : ℕ) (d : Code) → i + 1 ≡ length codes → codes ≡ take i codes ++ get_or codes i d ∷ []
front_last codes i d h =
    let all : length codes ≡ suc i = omega (arith, h) in
    sym (take-length codes) ∙ ap (λ (k : ℕ). take k codes) all ∙ take_more codes i d (omega (arith, h))

pub has_first : (code : Code) (codes : List Code) → HasPart (sum_of (code ∷ codes)) code
has_first (Retain n) codes = omega arith
has_first (Insert n) codes = omega arith
has_first (Delete n) codes = omega arith

pub less_first : (code : Code) (codes : List Code) → lessened (sum_of (code ∷ codes)) code ≡ sum_of codes
less_first (Retain n) codes = same_sum _ _ _ _ _ _ (omega arith) refl refl
less_first (Insert n) codes = same_sum _ _ _ _ _ _ refl refl (omega arith)
less_first (Delete n) codes = same_sum _ _ _ _ _ _ refl (omega arith) refl

next_first : (codes : List Code) (i : ℕ) (d code : Code) → i < length codes → code ≡ get_or codes i d → drop i codes ≡ code ∷ drop (suc i) codes
next_first codes i d code h is = drop-cons codes i d h ∙ ap (λ (c : Code). c ∷ drop (suc i) codes) (sym is)

pub has_next : (codes : List Code) (i : ℕ) (d code : Code) → i < length codes → code ≡ get_or codes i d → HasPart (sum_of (drop i codes)) code
has_next codes i d code h is = subst (λ (cs : List Code). HasPart (sum_of cs) code) (sym (next_first codes i d code h is)) (has_first code (drop (suc i) codes))

pub less_next : (codes : List Code) (i : ℕ) (d code : Code) → i < length codes → code ≡ get_or codes i d → lessened (sum_of (drop i codes)) code ≡ sum_of (drop (suc i) codes)
less_next codes i d code h is = ap (λ (cs : List Code). lessened (sum_of cs) code) (next_first codes i d code h is) ∙ less_first code (drop (suc i) codes)

pub has_last : (codes : List Code) (code : Code) → HasPart (sum_of (codes ++ code ∷ [])) code
has_last codes (Retain n) = omega (arith, kept-append codes (Retain n ∷ []))
has_last codes (Insert n) = omega (arith, inserted-append codes (Insert n ∷ []))
has_last codes (Delete n) = omega (arith, deleted-append codes (Delete n ∷ []))

pub less_last : (codes : List Code) (code : Code) → lessened (sum_of (codes ++ code ∷ [])) code ≡ sum_of codes
less_last codes (Retain n) =
    same_sum _ _ _ _ _ _ (omega (arith, kept-append codes (Retain n ∷ []))) (omega (arith, deleted-append codes (Retain n ∷ []))) (omega (arith, inserted-append codes (Retain n ∷ [])))
less_last codes (Insert n) =
    same_sum _ _ _ _ _ _ (omega (arith, kept-append codes (Insert n ∷ []))) (omega (arith, deleted-append codes (Insert n ∷ []))) (omega (arith, inserted-append codes (Insert n ∷ [])))
less_last codes (Delete n) =
    same_sum _ _ _ _ _ _ (omega (arith, kept-append codes (Delete n ∷ []))) (omega (arith, deleted-append codes (Delete n ∷ []))) (omega (arith, inserted-append codes (Delete n ∷ [])))
