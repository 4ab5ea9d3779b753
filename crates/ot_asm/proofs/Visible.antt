-- A line without control bytes, the last byte of which is no space, is read back as it stands.
use Rattle.std.proofs.Common.{◌≡◌, ◌<◌, ◌==◌, ◌&&◌, ℕ, List, [], ◌∷◌, ◌++◌, length, Bool, true, false, nat_lt, decimal, refl, ap, arith, ◌^◌}
use Rattle.std.proofs.lemmas.Bool.{and_parts, and_from, ltb-true, lt-ltb, ne_eqb}
use Rattle.std.proofs.lemmas.Fmt.{decimal_is_IsNumeral, IsAscii-decimal}
use Rattle.std.proofs.lemmas.Str.{IsUtf8-from_ascii}
use Rattle.std.specs.Str.{IsUtf8}
use Rattle.std.specs.Str.Parse.{AllDigits}
use Rattle.std.proofs.lemmas.Str.Parse.{digit_from_value}
use Rattle.streams.specs.Lines.{lacks}
use Rattle.ot_asm.specs.Words.{before_blanks, cut_blanks, without_return}

-- no control byte
abbrev pub visible : List ℕ → Bool
visible [] = true
visible (b ∷ bs) = nat_lt 31 b && visible bs

-- the same, and the last byte is no space
abbrev pub solid : List ℕ → Bool
solid [] = false
solid (b ∷ []) = nat_lt 32 b
solid (b ∷ c ∷ bs) = nat_lt 31 b && solid (c ∷ bs)

pub visible_both : (xs ys : List ℕ) → visible xs ≡ true → visible ys ≡ true → visible (xs ++ ys) ≡ true
visible_both [] ys h g = g
visible_both (x ∷ xs) ys h g = let p = and_parts _ _ h in and_from _ _ p.0 (visible_both xs ys p.1 g)

pub solid_end : (xs ys : List ℕ) → visible xs ≡ true → solid ys ≡ true → solid (xs ++ ys) ≡ true
solid_end [] ys h g = g
solid_end (x ∷ []) [] h g = absurd (cc g)
solid_end (x ∷ []) (y ∷ ys) h g = let p = and_parts _ _ h in and_from _ _ p.0 g
solid_end (x ∷ z ∷ xs) ys h g = let p = and_parts _ _ h in and_from _ _ p.0 (solid_end (z ∷ xs) ys p.1 g)

pub other_byte : (b k : ℕ) → nat_lt 31 b ≡ true → k < 32 → (b == k) ≡ false
other_byte b k h l = ne_eqb b k (λ e. omega (arith, ltb-true 31 b h))

last_byte : (b k : ℕ) → nat_lt 32 b ≡ true → k < 33 → (b == k) ≡ false
last_byte b k h l = ne_eqb b k (λ e. omega (arith, ltb-true 32 b h))

pub kept_return : (l : List ℕ) → solid l ≡ true → without_return l ≡ l
kept_return [] h = refl
kept_return (b ∷ []) h = rw (last_byte b 13 h (omega arith)) refl
kept_return (b ∷ c ∷ bs) h = let p = and_parts _ _ h in ap (λ t. b ∷ t) (kept_return (c ∷ bs) p.1)

pub kept_blanks : (l : List ℕ) → solid l ≡ true → cut_blanks l ≡ l
kept_blanks [] h = refl
kept_blanks (b ∷ []) h = rw (last_byte b 32 h (omega arith), last_byte b 9 h (omega arith)) refl
kept_blanks (b ∷ c ∷ bs) h = let p = and_parts _ _ h in ap (before_blanks b) (kept_blanks (c ∷ bs) p.1)

above : (b : ℕ) → nat_lt 32 b ≡ true → nat_lt 31 b ≡ true
above b h = lt-ltb 31 b (omega (arith, ltb-true 32 b h))

pub no_end : (l : List ℕ) → solid l ≡ true → lacks l ≡ true
unfolding lacks
no_end [] h = refl
no_end (b ∷ []) h = rw (last_byte b 10 h (omega arith)) refl
no_end (b ∷ c ∷ bs) h = let p = and_parts _ _ h in rw (other_byte b 10 p.0 (omega arith)) (no_end (c ∷ bs) p.1)

digits_visible : (ds : List ℕ) → AllDigits 10 ds → visible ds ≡ true
digits_visible [] h = refl
digits_visible (d ∷ ds) h = and_from _ _ (lt-ltb 31 d (omega (arith, digit_from_value d h.0))) (digits_visible ds h.1)

digits_solid : (ds : List ℕ) → 0 < length ds → AllDigits 10 ds → solid ds ≡ true
digits_solid [] some h = absurd (omega (arith, some))
digits_solid (d ∷ []) some h = lt-ltb 32 d (omega (arith, digit_from_value d h.0))
digits_solid (d ∷ e ∷ ds) some h = and_from _ _ (lt-ltb 31 d (omega (arith, digit_from_value d h.0))) (digits_solid (e ∷ ds) (omega arith) h.1)

pub decimal_visible : (n : ℕ) → n < 2 ^ 64 → visible (decimal n) ≡ true
decimal_visible n h = digits_visible (decimal n) (decimal_is_IsNumeral n h).0.1

pub decimal_solid : (n : ℕ) → n < 2 ^ 64 → solid (decimal n) ≡ true
decimal_solid n h = digits_solid (decimal n) (decimal_is_IsNumeral n h).0.0 (decimal_is_IsNumeral n h).0.1

pub decimal_text : (n : ℕ) → n < 2 ^ 64 → IsUtf8 (decimal n)
decimal_text n h = IsUtf8-from_ascii (decimal n) (IsAscii-decimal n h)
