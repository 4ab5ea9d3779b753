-- Texts that are written part by part.
use Rattle.std.proofs.Common.{◌≡◌, ℕ, List, ◌++◌, ap, ◌∙◌, append_assoc, if◌then◌else◌}
use Rattle.std.specs.Prelude.{Result, Ok, Err, OnOk, is_ok}

-- what the last call added, if it was not out of memory
pub pushed : {A E : Type 0} (r : Result A E) (new more same : List ℕ) → new ≡ (if is_ok r then more else same) → OnOk r (new ≡ more)
pushed (Ok x) new more same is = is
pushed (Err e) new more same is = tt

pub two : {b c : List ℕ} (a x y : List ℕ) → b ≡ a ++ x → c ≡ b ++ y → c ≡ a ++ (x ++ y)
two {b} {c} a x y e f = f ∙ ap (λ (t : List ℕ). t ++ y) e ∙ append_assoc a x y

pub three : {b c d : List ℕ} (a x y z : List ℕ) → b ≡ a ++ x → c ≡ b ++ y → d ≡ c ++ z → d ≡ a ++ (x ++ (y ++ z))
three {b} {c} {d} a x y z e f g = two a x (y ++ z) e (two b y z f g)

pub four : {b c d e : List ℕ} (a x y z w : List ℕ) → b ≡ a ++ x → c ≡ b ++ y → d ≡ c ++ z → e ≡ d ++ w → e ≡ a ++ (x ++ (y ++ (z ++ w)))
four {b} {c} {d} {e} a x y z w f g h i = two a x (y ++ (z ++ w)) f (three b y z w g h i)

pub five : {b c d e g : List ℕ} (a x y z w v : List ℕ) → b ≡ a ++ x → c ≡ b ++ y → d ≡ c ++ z → e ≡ d ++ w → g ≡ e ++ v → g ≡ a ++ (x ++ (y ++ (z ++ (w ++ v))))
five {b} {c} {d} {e} {g} a x y z w v p q r s t = two a x (y ++ (z ++ (w ++ v))) p (four b y z w v q r s t)
