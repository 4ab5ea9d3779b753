-- Letters that are looked at piece by piece.
use Rattle.std.proofs.Common.{◌≡◌, ℕ, ◌<◌, List, [], ◌++◌, length, map, sym, ap, ◌∙◌, arith, append_assoc, length-append}
use Rattle.std.specs.Str.{encode_utf8_all}
use Rattle.std.proofs.lemmas.Grind.{flat_map-append}
use Rattle.std.proofs.lemmas.List.{append-nil, map-append}
use Rattle.std.proofs.lemmas.Str.{encodes-append}
use Rattle.json.specs.Print.{escape, escape_byte}
use Rattle.ot_values.specs.Values.{Continues}

-- the bytes of the letters
abbrev bytes_of : {A : Type 0} → (A → ℕ) → List A → List ℕ
bytes_of code letters = encode_utf8_all (map code letters)

bytes_append : {A : Type 0} (code : A → ℕ) (xs ys : List A) → bytes_of code (xs ++ ys) ≡ bytes_of code xs ++ bytes_of code ys
bytes_append code xs ys = ap encode_utf8_all (map-append code xs ys) ∙ encodes-append (map code xs) (map code ys)

-- what is left is shorter
pub shorter : {A : Type 0} (ahead piece later : List A) → ahead ≡ piece ++ later → 0 < length piece → length later < length ahead
shorter ahead piece later next some = let size = ap length next in omega (arith, size, some, length-append piece later)

-- the letters before what is left are plain, and stand in the text behind what stood there
pub record IsPushedBefore {A : Type 0} (code : A → ℕ) (list ahead : List A) (old text : List ℕ) : Type 0 where
  pub seen : List A
  pub split : list ≡ seen ++ ahead
  pub plain : escape (bytes_of code seen) ≡ bytes_of code seen
  pub text_is : text ≡ old ++ bytes_of code seen

pub pushed_piece : {A : Type 0} (code : A → ℕ) (list ahead piece later : List A) (old text more : List ℕ) → IsPushedBefore code list ahead old text → ahead ≡ piece ++ later
    → escape (encode_utf8_all (map code piece)) ≡ encode_utf8_all (map code piece) → more ≡ text ++ encode_utf8_all (map code piece) → IsPushedBefore code list later old more
pushed_piece code list ahead piece later old text more before next plain pushed =
    let both = bytes_append code before.seen piece in
    record {
      seen = before.seen ++ piece;
      split = before.split ∙ ap (λ t. before.seen ++ t) next ∙ sym (append_assoc before.seen piece later);
      plain = ap escape both
          ∙ flat_map-append escape_byte (bytes_of code before.seen) (bytes_of code piece)
          ∙ (λ j. before.plain j ++ plain j)
          ∙ sym both;
      text_is = pushed
          ∙ ap (λ (t : List ℕ). t ++ bytes_of code piece) before.text_is
          ∙ append_assoc old (bytes_of code before.seen) (bytes_of code piece)
          ∙ ap (λ (t : List ℕ). old ++ t) (sym both);
    }

pub pushed_all : {A : Type 0} (code : A → ℕ) (list ahead : List A) (old text : List ℕ) → IsPushedBefore code list ahead old text → ahead ≡ [] → text ≡ old ++ escape (encode_utf8_all (map code list))
pushed_all code list ahead old text before none =
    let all : list ≡ before.seen = before.split ∙ ap (λ t. before.seen ++ t) none ∙ append-nil before.seen in
    before.text_is ∙ ap (λ (t : List ℕ). old ++ t) (sym before.plain) ∙ ap (λ xs. old ++ escape (encode_utf8_all (map code xs))) (sym all)

-- the text goes on from what stood there
pub continued : {A : Type 0} (code : A → ℕ) (list ahead : List A) (old text new : List ℕ) → IsPushedBefore code list ahead old text → new ≡ text → Continues old new
continued code list ahead old text new before same = (bytes_of code before.seen, same ∙ before.text_is)

-- the letters before what is left stand in the text behind what stood there
pub record IsTextBefore {A : Type 0} (code : A → ℕ) (list ahead : List A) (old text : List ℕ) : Type 0 where
  pub seen : List A
  pub split : list ≡ seen ++ ahead
  pub text_is : text ≡ old ++ bytes_of code seen

pub text_piece : {A : Type 0} (code : A → ℕ) (list ahead piece later : List A) (old text more : List ℕ) → IsTextBefore code list ahead old text → ahead ≡ piece ++ later
    → more ≡ text ++ encode_utf8_all (map code piece) → IsTextBefore code list later old more
text_piece code list ahead piece later old text more before next pushed =
    record {
      seen = before.seen ++ piece;
      split = before.split ∙ ap (λ t. before.seen ++ t) next ∙ sym (append_assoc before.seen piece later);
      text_is = pushed
          ∙ ap (λ (t : List ℕ). t ++ bytes_of code piece) before.text_is
          ∙ append_assoc old (bytes_of code before.seen) (bytes_of code piece)
          ∙ ap (λ (t : List ℕ). old ++ t) (sym (bytes_append code before.seen piece));
    }
