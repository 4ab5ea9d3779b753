-- A keyword and a client's number as words.
use Rattle.std.proofs.Common.{◌≡◌, ◌<◌, ◌≤◌, ◌==◌, ℕ, zero, suc, List, [], ◌∷◌, ◌++◌, length, true, false, Bool, not, ◌&&◌, Option, Some, None, refl, ap, ◌∙◌, arith, decimal}
use Rattle.std.proofs.lemmas.Bool.{eqb-true, eqb-false}
use Rattle.std.specs.Fmt.{digits}
use Rattle.ot_asm.specs.Words.{is_blank, first_word, after_word, skip_blanks, keyword_of}
use Rattle.ot_asm.specs.Spelling.{Says}
use Rattle.ot_asm.specs.Canonical.{numbered}
use Rattle.ot_asm.specs.declared.keyword.Keyword.{Keyword}
use Rattle.ot_asm.specs.Numbers.{number}

-- the word has no blank
abbrev pub no_blank : List ℕ → Bool
no_blank [] = true
no_blank (b ∷ bs) = not (is_blank b) && no_blank bs

both : (b : ℕ) (bs : List ℕ) → no_blank (b ∷ bs) ≡ true → (is_blank b ≡ false) × (no_blank bs ≡ true)
both b bs h = by (is_blank b) refl h
  where
    by : (t : Bool) → is_blank b ≡ t → (not t && no_blank bs) ≡ true → (is_blank b ≡ false) × (no_blank bs ≡ true)
    by true e g = absurd (cc g)
    by false e g = (e, g)

pub word_first : (w rest : List ℕ) → no_blank w ≡ true → first_word (w ++ 32 ∷ rest) ≡ w
word_first [] rest h = refl
word_first (b ∷ w) rest h = let p = both b w h in rw p.0 (ap (λ t. b ∷ t) (word_first w rest p.1))

pub word_after : (w rest : List ℕ) → no_blank w ≡ true → after_word (w ++ 32 ∷ rest) ≡ skip_blanks rest
word_after [] rest h = refl
word_after (b ∷ w) rest h = let p = both b w h in rw p.0 (word_after w rest p.1)

pub word_only : (w : List ℕ) → no_blank w ≡ true → first_word w ≡ w
word_only [] h = refl
word_only (b ∷ w) h = let p = both b w h in rw p.0 (ap (λ t. b ∷ t) (word_only w p.1))

pub none_after : (w : List ℕ) → no_blank w ≡ true → after_word w ≡ []
none_after [] h = refl
none_after (b ∷ w) h = let p = both b w h in rw p.0 (none_after w p.1)

-- a client's number is a word that reads back
abbrev reads_as : ℕ → Option ℕ → Bool
reads_as n None = false
reads_as n (Some m) = m == n

abbrev is_good : ℕ → Bool
is_good n = no_blank (decimal n) && reads_as n (number (decimal n))

abbrev good_below : ℕ → Bool
good_below zero = true
good_below (suc k) = is_good k && good_below k

all_good : good_below 65 ≡ true
unfolding digits
all_good = refl

split : (a b : Bool) → (a && b) ≡ true → (a ≡ true) × (b ≡ true)
split true b h = (refl, h)
split false b h = absurd (cc h)

good : (k n : ℕ) → good_below k ≡ true → n < k → is_good n ≡ true
good zero n h l = absurd (omega (arith, l))
good (suc k) n h l = by (λ m. good k n (split (is_good k) (good_below k) h).1 m) (n == k) refl
  where
    parts : (is_good k ≡ true) × (good_below k ≡ true)
    parts = split (is_good k) (good_below k) h

    by : (n < k → is_good n ≡ true) → (b : Bool) → (n == k) ≡ b → is_good n ≡ true
    by again true e = let same : n ≡ k = eqb-true n k e in rw same parts.0
    by again false e = again (omega (arith, eqb-false n k e))

value_of : (n : ℕ) (o : Option ℕ) → reads_as n o ≡ true → o ≡ Some n
value_of n None h = absurd (cc h)
value_of n (Some m) h = ap (λ x. Some x) (eqb-true m n h)

pub number_back : (n : ℕ) → n ≤ 64 → number (decimal n) ≡ Some n
number_back n l = value_of n (number (decimal n)) (split (no_blank (decimal n)) (reads_as n (number (decimal n))) (good 65 n all_good (omega (arith, l)))).1

pub number_word : (n : ℕ) → n ≤ 64 → no_blank (decimal n) ≡ true
number_word n l = (split (no_blank (decimal n)) (reads_as n (number (decimal n))) (good 65 n all_good (omega (arith, l)))).0

skip_word : (w : List ℕ) → no_blank w ≡ true → skip_blanks w ≡ w
skip_word [] h = refl
skip_word (b ∷ w) h = let p = both b w h in rw p.0 refl

pub skip_more : (w rest : List ℕ) → no_blank w ≡ true → 0 < length w → skip_blanks (w ++ rest) ≡ w ++ rest
skip_more [] rest h some = absurd (omega (arith, some))
skip_more (b ∷ w) rest h some = let p = both b w h in rw p.0 refl

pub says_number : (w : List ℕ) (k : Keyword) (n : ℕ) → no_blank w ≡ true → keyword_of w ≡ k → n ≤ 64 → Says (numbered w n) k n []
says_number w k n plain is small =
    let digits_plain = number_word n small in
    let rest : after_word (numbered w n) ≡ decimal n = word_after w (decimal n) plain ∙ skip_word (decimal n) digits_plain in (
      ap keyword_of (word_first w (decimal n) plain) ∙ is,
      ap (λ t. number (first_word t)) rest ∙ ap number (word_only (decimal n) digits_plain) ∙ number_back n small,
      ap after_word rest ∙ none_after (decimal n) digits_plain,
    )
