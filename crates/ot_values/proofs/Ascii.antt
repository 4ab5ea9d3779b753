-- Letters of one byte.
use Rattle.std.proofs.Common.{◌≡◌, ℕ, ◌+◌, ◌<◌, ◌≤◌, List, [], ◌∷◌, ◌++◌, length, map, set, take, get_or, refl, sym, ap, ◌∙◌, arith}
use Rattle.std.specs.Char.{encode_utf8}
use Rattle.std.specs.Str.{encode_utf8_all, IsAscii}
use Rattle.std.proofs.lemmas.Grind.{flat_map-append}
use Rattle.std.proofs.lemmas.List.{append-nil, take_all, take_more, take_more_set}
use Rattle.std.proofs.lemmas.Str.{encode_ascii, IsAscii-append}
use Rattle.std.proofs.lemmas.Str.Ascii.{IsAscii-nil, IsAscii-cons}
use Rattle.json.specs.Print.{escape, escape_byte}
use Rattle.json.proofs.Printed.Strings.{escape_byte_plain}
use Rattle.ot_values.proofs.Escaping.{front_more}

-- the first letters are ASCII, and stand at the front of the bytes
pub record IsPutTo {A : Type 0} (code : A → ℕ) (letters : List A) (i : ℕ) (bytes : List ℕ) : Type 0 where
  pub put : take i bytes ≡ encode_utf8_all (map code (take i letters))
  pub ascii : IsAscii (take i bytes)

pub put_none : {A : Type 0} (code : A → ℕ) (letters : List A) (bytes : List ℕ) → IsPutTo code letters 0 bytes
put_none code letters bytes = record { put = refl; ascii = IsAscii-nil }

-- with the letter's lowest byte
pub put_byte :
    {A : Type 0} (code : A → ℕ) (letters : List A) (i : ℕ) (x : A) (c b : ℕ) (bytes : List ℕ) → i < length letters → x ≡ get_or letters i x → c ≡ code x → i < length bytes
    → c < 128 → b ≡ c → IsPutTo code letters i bytes → IsPutTo code letters (i + 1) (set bytes i b)
put_byte code letters i x c b bytes inside at is room ascii low so_far =
    let more = take_more_set bytes i b room in
    record {
      put = more
          ∙ ap (λ (t : List ℕ). t ++ b ∷ []) so_far.put
          ∙ ap (λ (t : List ℕ). encode_utf8_all (map code (take i letters)) ++ t) (ap (λ (y : ℕ). y ∷ []) low ∙ sym (encode_ascii c ascii) ∙ ap encode_utf8 is)
          ∙ sym (front_more code letters i x inside at);
      ascii = rw more (IsAscii-append (take i bytes) (b ∷ []) so_far.ascii (IsAscii-cons b [] (omega (arith, ascii, low)) IsAscii-nil));
    }

pub put_all : {A : Type 0} (code : A → ℕ) (letters : List A) (i : ℕ) (bytes : List ℕ) → IsPutTo code letters i bytes → length letters ≤ i → i ≤ length letters
    → take (length letters) bytes ≡ encode_utf8_all (map code letters)
put_all code letters i bytes put le ge =
    let same : length letters ≡ i = omega (arith, le, ge) in
    ap (λ (n : ℕ). take n bytes) same ∙ put.put ∙ ap (λ xs. encode_utf8_all (map code xs)) (take_all i letters le)

pub all_ascii : {A : Type 0} (code : A → ℕ) (letters : List A) (i : ℕ) (bytes : List ℕ) → IsPutTo code letters i bytes → length letters ≤ i → i ≤ length letters → IsAscii (take (length letters) bytes)
all_ascii code letters i bytes put le ge =
    let same : length letters ≡ i = omega (arith, le, ge) in
    rw same put.ascii

-- the first bytes are written as they are
pub record AreFreeTo (bytes : List ℕ) (i : ℕ) : Type 0 where
  pub free : escape (take i bytes) ≡ take i bytes

pub free_none : (bytes : List ℕ) → AreFreeTo bytes 0
free_none bytes = record { free = refl }

pub free_more : (bytes : List ℕ) (i : ℕ) → i < length bytes → 32 ≤ get_or bytes i 0 → (get_or bytes i 0 ≡ 34 → ⊥) → (get_or bytes i 0 ≡ 92 → ⊥) → AreFreeTo bytes i → AreFreeTo bytes (i + 1)
free_more bytes i inside printable unquoted unescaped so_far =
    let x : ℕ = get_or bytes i 0 in
    let more : take (i + 1) bytes ≡ take i bytes ++ x ∷ [] = take_more bytes i 0 inside in
    record {
      free = ap escape more
          ∙ flat_map-append escape_byte (take i bytes) (x ∷ [])
          ∙ (λ j. so_far.free j ++ (append-nil (escape_byte x) ∙ escape_byte_plain x unquoted unescaped printable) j)
          ∙ sym more;
    }

pub free_all : (bytes : List ℕ) (i : ℕ) → AreFreeTo bytes i → length bytes ≤ i → escape bytes ≡ bytes
free_all bytes i so_far le =
    let all = take_all i bytes le in
    ap escape (sym all) ∙ so_far.free ∙ all
