-- Texts that are written part by part.
use Rattle.std.proofs.Common.{◌≡◌, ℕ, List, ◌++◌, ap, ◌∙◌, append_assoc}

-- two parts, one behind the other
pub two : (old one more first second : List ℕ) → one ≡ old ++ first → more ≡ one ++ second → more ≡ old ++ (first ++ second)
two old one more first second is_one is_more = is_more ∙ ap (λ (t : List ℕ). t ++ second) is_one ∙ append_assoc old first second

pub three : (old one more all first second third : List ℕ) → one ≡ old ++ first → more ≡ one ++ second → all ≡ more ++ third → all ≡ old ++ (first ++ (second ++ third))
three old one more all first second third is_one is_more is_all =
    is_all ∙ ap (λ (t : List ℕ). t ++ third) (two old one more first second is_one is_more)
    ∙ append_assoc old (first ++ second) third
    ∙ ap (λ (t : List ℕ). old ++ t) (append_assoc first second third)
