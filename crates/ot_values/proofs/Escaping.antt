-- Letters as JSON writes them.
use Rattle.std.proofs.Common.{◌≡◌, ℕ, suc, ◌+◌, ◌<◌, ◌≤◌, List, [], ◌∷◌, ◌++◌, length, map, take, get_or, refl, sym, ap, ◌∙◌, arith, inl, inr}
use Rattle.std.specs.Prelude.{◌⊎◌}
use Rattle.std.specs.Char.{encode_utf8}
use Rattle.std.specs.Str.{encode_utf8_all}
use Rattle.std.proofs.lemmas.Bool.{cases_lt}
use Rattle.std.proofs.lemmas.Grind.{flat_map-append}
use Rattle.std.proofs.lemmas.List.{append-nil, map_more}
use Rattle.std.proofs.lemmas.Str.{encodes-append, inside_one}
use Rattle.json.specs.Print.{escape, escape_byte}
use Rattle.json.proofs.Printed.Strings.{escape_byte_plain}

-- a byte that JSON writes as it is
record IsFree (x : ℕ) : Type 0 where
  pub printable : 32 ≤ x
  pub unquoted : x ≡ 34 → ⊥
  pub unescaped : x ≡ 92 → ⊥

free_bytes : (bytes : List ℕ) → ((k : ℕ) → k < length bytes → IsFree (get_or bytes k 0)) → escape bytes ≡ bytes
free_bytes [] free = refl
free_bytes (x ∷ bytes) free =
    let first = free 0 (omega arith) in
    let rest = free_bytes bytes (λ k inside. free (suc k) (omega (arith, inside))) in
    λ i. escape_byte_plain x first.unquoted first.unescaped first.printable i ++ rest i

-- a letter that needs no escape
pub plain_letter : (c : ℕ) → 32 ≤ c → (c ≡ 34 → ⊥) → (c ≡ 92 → ⊥) → escape (encode_utf8 c) ≡ encode_utf8 c
plain_letter c printable unquoted unescaped = free_bytes (encode_utf8 c) free
  where
    free : (k : ℕ) → k < length (encode_utf8 c) → IsFree (get_or (encode_utf8 c) k 0)
    free k inside = by_size (cases_lt (get_or (encode_utf8 c) k 0) 128)
      where
        by_size : (get_or (encode_utf8 c) k 0 < 128) ⊎ (128 ≤ get_or (encode_utf8 c) k 0) → IsFree (get_or (encode_utf8 c) k 0)
        by_size (inl low) =
            let same : c ≡ get_or (encode_utf8 c) k 0 = inside_one c [] (encode_utf8 c) k (sym (append-nil (encode_utf8 c))) inside low in
            record { printable = omega (arith, same, printable); unquoted = λ e. unquoted (same ∙ e); unescaped = λ e. unescaped (same ∙ e) }
        by_size (inr high) = record { printable = omega (arith, high); unquoted = λ e. absurd (omega (arith, high, e)); unescaped = λ e. absurd (omega (arith, high, e)) }

-- the first letters, and one more
abbrev front : {A : Type 0} → (A → ℕ) → List A → ℕ → List ℕ
front code letters i = encode_utf8_all (map code (take i letters))

pub front_more : {A : Type 0} (code : A → ℕ) (letters : List A) (i : ℕ) (x : A) → i < length letters → x ≡ get_or letters i x
    → front code letters (i + 1) ≡ front code letters i ++ encode_utf8 (code x)
front_more code letters i x inside at =
    ap encode_utf8_all (map_more code letters i x inside)
    ∙ encodes-append (map code (take i letters)) (code (get_or letters i x) ∷ [])
    ∙ ap (λ (bytes : List ℕ). front code letters i ++ bytes) (append-nil (encode_utf8 (code (get_or letters i x))) ∙ ap (λ y. encode_utf8 (code y)) (sym at))

-- the first letters are plain
pub record IsPlainTo {A : Type 0} (code : A → ℕ) (letters : List A) (i : ℕ) : Type 0 where
  pub plain : escape (front code letters i) ≡ front code letters i

pub one_more_plain : {A : Type 0} (code : A → ℕ) (letters : List A) (i : ℕ) (x : A) → i < length letters → x ≡ get_or letters i x → 32 ≤ code x → (code x ≡ 34 → ⊥) → (code x ≡ 92 → ⊥)
    → IsPlainTo code letters i → IsPlainTo code letters (i + 1)
one_more_plain code letters i x inside at printable unquoted unescaped so_far =
    let more = front_more code letters i x inside at in
    record {
      plain = ap escape more
          ∙ flat_map-append escape_byte (front code letters i) (encode_utf8 (code x))
          ∙ (λ j. so_far.plain j ++ plain_letter (code x) printable unquoted unescaped j)
          ∙ sym more;
    }
