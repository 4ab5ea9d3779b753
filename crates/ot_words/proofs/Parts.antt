-- The part of a text.
use Rattle.std.proofs.Common.{◌≡◌, ◌+◌, ◌==◌, ◌∙◌, ℕ, zero, suc, List, [], ◌∷◌, Bool, Option, Some, None, length, drop, refl, sym, ap, ap₂, arith}
use Rattle.std.specs.List.{after_first, before_first, position_or_len}
use Rattle.ot_asm.specs.Numbers.{number}
use Rattle.ot_every.specs.Parts.{PartView}
use Rattle.ot_words.specs.Requests.{part_of_numbers, part_of_text}

behind : {X : Type 0} (xs : List X) → drop (suc (length xs)) xs ≡ []
behind [] = refl
behind (x ∷ xs) = behind xs

behind_all : {X : Type 0} (xs : List X) → drop (length xs + 1) xs ≡ []
behind_all xs = let n : length xs + 1 ≡ suc (length xs) = omega arith in ap (λ (k : ℕ). drop k xs) n ∙ behind xs

no_second : (n : Option ℕ) → part_of_numbers n None ≡ None
no_second None = refl
no_second (Some n) = refl

-- a text without a slash
pub no_slash : (t : List ℕ) → position_or_len (λ b. b == 47) t ≡ length t → part_of_text t ≡ None
no_slash t none =
    let rest : after_first (λ b. b == 47) t ≡ [] = ap (λ (n : ℕ). drop (n + 1) t) none ∙ behind_all t in
    ap (λ (bs : List ℕ). part_of_numbers (number (before_first (λ b. b == 47) t)) (number bs)) rest ∙ no_second (number (before_first (λ b. b == 47) t))

-- and one with one
pub slash : (t front back : List ℕ) (part : Option PartView) → front ≡ before_first (λ b. b == 47) t → back ≡ after_first (λ b. b == 47) t → part ≡ part_of_numbers (number front) (number back)
    → part ≡ part_of_text t
slash t front back part one two is = is ∙ ap₂ (λ (a b : List ℕ). part_of_numbers (number a) (number b)) one two
