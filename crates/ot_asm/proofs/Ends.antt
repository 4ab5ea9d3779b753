-- What the end of a line is without its last byte.
use Rattle.std.proofs.Common.{◌≡◌, ◌==◌, ℕ, List, [], ◌∷◌, ◌++◌, true, false, refl, ap, ◌∙◌}
use Rattle.ot_asm.specs.Words.{is_blank, before_blanks, cut_blanks, without_return}

before_some : (c b : ℕ) (front : List ℕ) → before_blanks c (front ++ b ∷ []) ≡ c ∷ (front ++ b ∷ [])
before_some c b [] = refl
before_some c b (d ∷ front) = refl

pub cut_blank : (front : List ℕ) (b : ℕ) → is_blank b ≡ true → cut_blanks (front ++ b ∷ []) ≡ cut_blanks front
cut_blank [] b e = rw e refl
cut_blank (c ∷ front) b e = ap (before_blanks c) (cut_blank front b e)

pub cut_other : (front : List ℕ) (b : ℕ) → is_blank b ≡ false → cut_blanks (front ++ b ∷ []) ≡ front ++ b ∷ []
cut_other [] b e = rw e refl
cut_other (c ∷ front) b e = ap (before_blanks c) (cut_other front b e) ∙ before_some c b front

pub return_last : (front : List ℕ) (b : ℕ) → (b == 13) ≡ true → without_return (front ++ b ∷ []) ≡ front
return_last [] b e = rw e refl
return_last (c ∷ []) b e = rw e refl
return_last (c ∷ d ∷ front) b e = ap (λ t. c ∷ t) (return_last (d ∷ front) b e)

pub other_last : (front : List ℕ) (b : ℕ) → (b == 13) ≡ false → without_return (front ++ b ∷ []) ≡ front ++ b ∷ []
other_last [] b e = rw e refl
other_last (c ∷ []) b e = rw e refl
other_last (c ∷ d ∷ front) b e = ap (λ t. c ∷ t) (other_last (d ∷ front) b e)
