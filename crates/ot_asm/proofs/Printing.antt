-- The JSON texts of a schedule's lines: no control byte stands in them, and they are UTF-8.
use Rattle.std.proofs.Common.{◌≡◌, ◌<◌, ◌-◌, ◌&&◌, ℕ, zero, suc, List, [], ◌∷◌, ◌++◌, map, Bool, true, false, inl, inr, refl, arith}
use Rattle.std.specs.List.{AllByRecursion}
use Rattle.std.specs.Str.{IsUtf8, encode_utf8_all, all_scalars}
use Rattle.std.proofs.lemmas.Bool.{and_parts, and_from, lt-ltb, cases_eq, cases_lt}
use Rattle.std.proofs.lemmas.Str.{IsUtf8-append}
use Rattle.json.specs.Print.{escape_byte, escape, quoted}
use Rattle.json.proofs.Printed.Strings.{escape_byte_plain}
use Rattle.json.proofs.Printed.Utf8.{IsUtf8-are_ascii, IsUtf8-quoted}
use Rattle.serde_json.specs.View.{items_of}
use Rattle.serde_json.specs.Written.{compact_text, items_text, comma_if}
use Rattle.ot_operation.specs.Run.{Run, Keep, Add, Skip}
use Rattle.ot_json.specs.Writing.{HasForm, data_of, array_of}
use Rattle.ot_asm.proofs.Visible.{visible, solid, visible_both, solid_end, decimal_visible, decimal_text}

-- the escapes of the bytes below n
abbrev escapes_below : ℕ → Bool
escapes_below zero = true
escapes_below (suc n) = visible (escape_byte n) && escapes_below n

all_low : escapes_below 128 ≡ true
unfolding escape_byte
all_low = refl

escape_below : (n : ℕ) → escapes_below n ≡ true → (x : ℕ) → x < n → visible (escape_byte x) ≡ true
escape_below zero e x h = absurd (omega (arith, h))
escape_below (suc n) e x h =
    let p = and_parts _ _ e in
    elim (cases_eq x n) [ inl same ↦ rw same p.0 | inr other ↦ escape_below n p.1 x (omega arith) ]

byte_visible : (x : ℕ) → visible (escape_byte x) ≡ true
byte_visible x = elim (cases_lt x 128) [
  | inl low ↦ escape_below 128 all_low x low
  | inr high ↦ rw (escape_byte_plain x (λ e. omega arith) (λ e. omega arith) (omega arith)) (and_from _ _ (lt-ltb 31 x (omega arith)) refl)
]

escape_visible : (s : List ℕ) → visible (escape s) ≡ true
escape_visible [] = refl
escape_visible (x ∷ s) = visible_both (escape_byte x) (escape s) (byte_visible x) (escape_visible s)

quoted_visible : (s : List ℕ) → visible (quoted s) ≡ true
quoted_visible s = visible_both (34 ∷ []) (escape s ++ 34 ∷ []) refl (visible_both (escape s) (34 ∷ []) (escape_visible s) refl)

pub quoted_solid : (s : List ℕ) → solid (quoted s) ≡ true
quoted_solid s = solid_end (34 ∷ []) (escape s ++ 34 ∷ []) refl (solid_end (escape s) (34 ∷ []) (escape_visible s) refl)

pub quoted_text : (cs : List ℕ) → all_scalars cs ≡ true → IsUtf8 (quoted (encode_utf8_all cs))
quoted_text cs h = IsUtf8-quoted (encode_utf8_all cs) (cs, (h, refl))

data_visible : (r : Run ℕ) → HasForm r → visible (compact_text (data_of r)) ≡ true
data_visible (Keep n) h = decimal_visible n h.1
data_visible (Add s) h = quoted_visible (encode_utf8_all s)
data_visible (Skip n) h = decimal_visible (suc (n - 1)) (omega (arith, h))

data_text : (r : Run ℕ) → HasForm r → IsUtf8 (compact_text (data_of r))
data_text (Keep n) h = decimal_text n h.1
data_text (Add s) h = quoted_text s h
data_text (Skip n) h = IsUtf8-append (45 ∷ []) _ (IsUtf8-are_ascii (45 ∷ []) refl) (decimal_text (suc (n - 1)) (omega (arith, h)))

comma_visible : (later : Bool) → visible (comma_if later) ≡ true
comma_visible true = refl
comma_visible false = refl

comma_text : (later : Bool) → IsUtf8 (comma_if later)
comma_text true = IsUtf8-are_ascii (44 ∷ []) refl
comma_text false = IsUtf8-are_ascii [] refl

items_solid : (later : Bool) (rs : List (Run ℕ)) → AllByRecursion HasForm rs → solid (items_text later (items_of (map data_of rs))) ≡ true
items_solid later [] h = refl
items_solid later (r ∷ rs) h =
    solid_end (comma_if later) _ (comma_visible later) (solid_end (compact_text (data_of r)) _ (data_visible r h.0) (items_solid true rs h.1))

items_utf8 : (later : Bool) (rs : List (Run ℕ)) → AllByRecursion HasForm rs → IsUtf8 (items_text later (items_of (map data_of rs)))
items_utf8 later [] h = IsUtf8-are_ascii (93 ∷ []) refl
items_utf8 later (r ∷ rs) h =
    IsUtf8-append (comma_if later) _ (comma_text later) (IsUtf8-append (compact_text (data_of r)) _ (data_text r h.0) (items_utf8 true rs h.1))

pub array_solid : (rs : List (Run ℕ)) → AllByRecursion HasForm rs → solid (compact_text (array_of rs)) ≡ true
array_solid rs h = solid_end (91 ∷ []) (items_text false (items_of (map data_of rs))) refl (items_solid false rs h)

pub array_text : (rs : List (Run ℕ)) → AllByRecursion HasForm rs → IsUtf8 (compact_text (array_of rs))
array_text rs h = IsUtf8-append (91 ∷ []) (items_text false (items_of (map data_of rs))) (IsUtf8-are_ascii (91 ∷ []) refl) (items_utf8 false rs h)
