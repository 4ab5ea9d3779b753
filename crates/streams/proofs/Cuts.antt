-- A text is cut at its first LF.
use Rattle.std.proofs.Common.{◌≡◌, ◌<◌, ◌≤◌, ◌+◌, ◌-◌, ◌==◌, ℕ, zero, suc, List, [], ◌∷◌, ◌++◌, length, take, drop, true, false, Bool, not, ◌&&◌, get_or, refl, ap, sym, ◌∙◌, drop-drop, arith}
use Rattle.std.proofs.lemmas.Bool.{eqb-true}
use Rattle.std.proofs.Math.Seq.{take-nil}
use Rattle.streams.specs.Lines.{lacks}

-- no LF stands at a place below `end`
abbrev pub HasNoEndBefore : List ℕ → ℕ → Type 0
HasNoEndBefore text end = (k : ℕ) → 0 ≤ k → k < end → (get_or text k 0 == 10) ≡ true → ⊥

lacks_cons : (b : ℕ) (bs : List ℕ) → ((b == 10) ≡ true → ⊥) → lacks bs ≡ true → lacks (b ∷ bs) ≡ true
unfolding lacks
lacks_cons b bs h g = by (b == 10) refl
  where
    by : (t : Bool) → (b == 10) ≡ t → (not (b == 10) && lacks bs) ≡ true
    by true e = absurd (h e)
    by false e = rw e g

pub lacks_front : (text : List ℕ) (end : ℕ) → end ≤ length text → HasNoEndBefore text end → lacks (take end text) ≡ true
unfolding lacks
lacks_front text zero le h = refl
lacks_front [] (suc end) le h = absurd (omega (arith, le))
lacks_front (b ∷ bs) (suc end) le h =
    lacks_cons b (take end bs) (h 0 (omega arith) (omega arith)) (lacks_front bs end (omega (arith, le)) (λ k z l. h (suc k) (omega arith) (omega (arith, l))))

pub cut : (text : List ℕ) (at : ℕ) → at < length text → (get_or text at 0 == 10) ≡ true → text ≡ take at text ++ 10 ∷ drop 1 (drop at text)
cut [] at h e = absurd (omega (arith, h))
cut (b ∷ bs) zero h e = let is : b ≡ 10 = eqb-true b 10 e in ap (λ c. c ∷ bs) is
cut (b ∷ bs) (suc at) h e = ap (λ t. b ∷ t) (cut bs at (omega (arith, h)) e)

drop_front : (n m : ℕ) (xs : List ℕ) → drop n (take m xs) ≡ take (m - n) (drop n xs)
drop_front zero m xs = let e : m ≡ m - 0 = omega arith in ap (λ k. take k xs) e
drop_front (suc n) zero xs = let e : 0 ≡ 0 - suc n = omega arith in ap (λ k. take k (drop (suc n) xs)) e
drop_front (suc n) (suc m) [] = sym (take-nil (suc m - suc n))
drop_front (suc n) (suc m) (x ∷ xs) = let e : m - n ≡ suc m - suc n = omega arith in drop_front n m xs ∙ ap (λ k. take k (drop n xs)) e

-- what stands between two places, without its first bytes
pub middle_behind : (from to n : ℕ) (xs : List ℕ) → drop n (take (to - from) (drop from xs)) ≡ take (to - (from + n)) (drop (from + n) xs)
middle_behind from to n xs =
    let length : to - from - n ≡ to - (from + n) = omega arith in
    drop_front n (to - from) (drop from xs) ∙ ap (λ k. take k (drop n (drop from xs))) length ∙ ap (take (to - (from + n))) (drop-drop n from xs)
