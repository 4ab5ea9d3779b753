-- Short items, put into bytes.
use Rattle.std.proofs.Common.{◌≡◌, ℕ, zero, suc, ◌+◌, ◌-◌, ◌<◌, ◌≤◌, List, [], ◌∷◌, ◌++◌, length, set, take, sym, ap, ◌∙◌, subst, arith, append_assoc, length-set, Option, Some, None}
use Rattle.std.specs.Prelude.{IfSome, ◌/◌, ◌%◌, decimal}
use Rattle.std.specs.Char.{encode_utf8}
use Rattle.std.specs.Str.{IsAscii}
use Rattle.std.proofs.lemmas.Fmt.{decimal_digit, decimal_step}
use Rattle.std.proofs.lemmas.Grind.{take-set_at}
use Rattle.std.proofs.lemmas.Str.{encode_ascii}
use Rattle.std.proofs.lemmas.Str.Ascii.{IsAscii-nil, IsAscii-cons}
use Rattle.json.specs.Print.{quoted}
use Rattle.json.proofs.Printed.Strings.{escape_byte_plain}
use Rattle.serde_json.specs.Written.{compact_text}
use Rattle.ot_operation.specs.Run.{Run, Keep, Skip, IsFilled}
use Rattle.ot_json.specs.Writing.{data_of}
use Rattle.ot_steps.specs.Lettered.{item_text}

-- ---- bytes put one behind the other

pub put_two : (bytes : List ℕ) (at a b : ℕ) → at + 2 ≤ length bytes → take (at + 2) (set (set bytes at a) (at + 1) b) ≡ take at bytes ++ a ∷ b ∷ []
put_two bytes at a b room =
    take-set_at (set bytes at a) (at + 1) (at + 2) b (omega arith) (omega (arith, room, length-set bytes at a))
    ∙ ap (λ (t : List ℕ). t ++ b ∷ []) (take-set_at bytes at (at + 1) a (omega arith) (omega (arith, room)))
    ∙ append_assoc (take at bytes) (a ∷ []) (b ∷ [])

pub put_three : (bytes : List ℕ) (at a b c : ℕ) → at + 3 ≤ length bytes → take (at + 3) (set (set (set bytes at a) (at + 1) b) (at + 2) c) ≡ take at bytes ++ a ∷ b ∷ c ∷ []
put_three bytes at a b c room =
    let two = set (set bytes at a) (at + 1) b in
    let long : length two ≡ length bytes = length-set (set bytes at a) (at + 1) b ∙ length-set bytes at a in
    take-set_at two (at + 2) (at + 3) c (omega arith) (omega (arith, room, long))
    ∙ ap (λ (t : List ℕ). t ++ c ∷ []) (put_two bytes at a b (omega (arith, room)))
    ∙ append_assoc (take at bytes) (a ∷ b ∷ []) (c ∷ [])

-- ---- the text of a short component

-- the digits of a number of two
pub two_digits : (n : ℕ) → 10 ≤ n → n < 100 → decimal n ≡ (48 + n / 10) ∷ (48 + n % 10) ∷ []
two_digits n ten low =
    decimal_step n ten (omega (arith, low)) ∙ ap (λ (t : List ℕ). t ++ (48 + n % 10) ∷ []) (decimal_digit (n / 10) (omega (arith, low)))

skipped : (n : ℕ) → 0 < n → compact_text (data_of (Skip n)) ≡ 45 ∷ decimal n
skipped zero some = absurd (omega (arith, some))
skipped (suc n) some =
    let less : suc n - 1 ≡ n = omega arith in
    ap (λ (m : ℕ). 45 ∷ decimal (suc m)) less

-- the letter between quotes
pub letter_quoted : (c : ℕ) → 32 ≤ c → c < 128 → (c ≡ 34 → ⊥) → (c ≡ 92 → ⊥) → quoted (encode_utf8 c) ≡ 34 ∷ c ∷ 34 ∷ []
letter_quoted c printable ascii unquoted unescaped =
    ap quoted (encode_ascii c ascii) ∙ ap (λ (t : List ℕ). 34 ∷ ((t ++ []) ++ 34 ∷ [])) (escape_byte_plain c unquoted unescaped printable)

pub letter_ascii : (c : ℕ) → 32 ≤ c → c < 128 → (c ≡ 34 → ⊥) → (c ≡ 92 → ⊥) → IsAscii (quoted (encode_utf8 c))
letter_ascii c printable ascii unquoted unescaped =
    subst IsAscii (sym (letter_quoted c printable ascii unquoted unescaped)) (IsAscii-cons 34 (c ∷ 34 ∷ []) (omega arith) (IsAscii-cons c (34 ∷ []) ascii (IsAscii-cons 34 [] (omega arith) IsAscii-nil)))

pub retained_ascii : {A : Type 0} (code : A → ℕ) (r : Run A) (n : ℕ) → r ≡ Keep n → IsAscii (decimal n) → IsAscii (item_text code r)
retained_ascii code r n is ascii = subst (λ s. IsAscii (item_text code s)) (sym is) ascii

pub skipped_ascii : {A : Type 0} (code : A → ℕ) (r : Run A) (n : ℕ) → r ≡ Skip n → IsFilled r → IsAscii (decimal n) → IsAscii (item_text code r)
skipped_ascii code r n is filled ascii =
    subst (λ s. IsAscii (item_text code s)) (sym is) (subst IsAscii (sym (skipped n (subst IsFilled is filled))) (IsAscii-cons 45 (decimal n) (omega arith) ascii))

-- what is so is so where something is answered
pub ascii_if : (r : Option ℕ) (bytes : List ℕ) → IsAscii bytes → IfSome r (λ end. IsAscii bytes)
ascii_if (Some end) bytes ascii = ascii
ascii_if None bytes ascii = tt
