-- The printed lines as a port's: each stands on a line of its own, with nothing to drop, and is read as an object.
use Rattle.std.proofs.Common.{◌≡◌, ◌<◌, ◌^◌, ◌==◌, ◌&&◌, not, ℕ, List, [], ◌∷◌, ◌++◌, true, nat_lt, Some, decimal, refl, sym, ap, ◌∙◌, arith, append_assoc}
use Rattle.std.specs.Prelude.{codes}
use Rattle.std.specs.Str.{IsUtf8, encode_utf8_all, is_utf8}
use Rattle.std.proofs.lemmas.Bool.{and_parts, and_from, ltb-true, lt-ltb}
use Rattle.std.proofs.lemmas.List.{append-nil, append_cancel_right}
use Rattle.std.proofs.lemmas.Str.{IsUtf8-append, is_utf8-from_IsUtf8}
use Rattle.json.specs.Print.{quoted}
use Rattle.json.proofs.Printed.Utf8.{are_ascii, IsUtf8-are_ascii}
use Rattle.serde_json.specs.Data.{Data, number, unsigned}
use Rattle.serde_json.specs.Find.{get}
use Rattle.serde_json.specs.Read.{read}
use Rattle.streams.specs.Lines.{lines_of}
use Rattle.streams.proofs.Ends.{lines_piece}
use Rattle.ot_operation.specs.Run.{normal_runs}
use Rattle.ot_json.specs.Writing.{text_of_operation}
use Rattle.ot_asm.specs.Words.{cut_blanks, skip_blanks, trimmed}
use Rattle.ot_asm.proofs.Printing.{array_solid, array_text, quoted_solid, quoted_text}
use Rattle.ot_asm.proofs.Visible.{decimal_text, decimal_visible, kept_blanks, kept_return, no_end, solid, solid_end, visible, visible_both}
use Rattle.ot_steps.specs.Lines.{Line}
use Rattle.ot_steps.specs.Text.{Field, Value, Number, Name, Text, Op, Sent, field_text, fields, fields_text, line_text, lines_text, value_text}
use Rattle.ot_conform.specs.Ports.{PortLine, Told, counted_lines, port_line}
use Rattle.ot_conform.proofs.LineTrees.{AreFormed, IsFormed, IsLineFormed, are_letters, body_text, is_letter, line_data, line_reads}

-- ---- no control byte, and UTF-8

solid_visible : (l : List ℕ) → solid l ≡ true → visible l ≡ true
solid_visible [] h = refl
solid_visible (b ∷ []) h = and_from _ true (lt-ltb 31 b (omega (arith, ltb-true 32 b h))) refl
solid_visible (b ∷ c ∷ l) h = let p = and_parts _ _ h in and_from _ _ p.0 (solid_visible (c ∷ l) p.1)

letters_visible : (s : List ℕ) → are_letters s ≡ true → visible s ≡ true
letters_visible [] h = refl
letters_visible (b ∷ s) h = let p = and_parts _ _ h in and_from _ _ (and_parts (nat_lt 31 b) _ p.0).0 (letters_visible s p.1)

letter_ascii : (b : ℕ) → is_letter b ≡ true → nat_lt b 128 ≡ true
letter_ascii b h =
    let p = and_parts (nat_lt 31 b) (nat_lt b 127 && (not (b == 34) && not (b == 92))) h in
    let q = ltb-true b 127 (and_parts (nat_lt b 127) (not (b == 34) && not (b == 92)) p.1).0 in
    lt-ltb b 128 (omega (arith, q))

letters_ascii : (s : List ℕ) → are_letters s ≡ true → are_ascii s ≡ true
letters_ascii [] h = refl
letters_ascii (b ∷ s) h = let p = and_parts _ _ h in and_from _ _ (letter_ascii b p.0) (letters_ascii s p.1)

-- a text that may stand within a line
pub record IsWithin (s : List ℕ) : Type 0 where
  pub visible_is : visible s ≡ true
  pub utf8 : IsUtf8 s

within_both : (a b : List ℕ) → IsWithin a → IsWithin b → IsWithin (a ++ b)
within_both a b first second = record { visible_is = visible_both a b first.visible_is second.visible_is; utf8 = IsUtf8-append a b first.utf8 second.utf8 }

within_letters : (s : List ℕ) → visible s ≡ true → are_ascii s ≡ true → IsWithin s
within_letters s seen ascii = record { visible_is = seen; utf8 = IsUtf8-are_ascii s ascii }

within_decimal : (n : ℕ) → n < 2 ^ 64 → IsWithin (decimal n)
within_decimal n h = record { visible_is = decimal_visible n h; utf8 = decimal_text n h }

value_within : (v : Value) → IsFormed v → IsWithin (value_text v)
value_within (Number n) h = within_decimal n h
value_within (Name name) h =
    within_both (34 ∷ []) (name ++ 34 ∷ []) (within_letters (34 ∷ []) refl refl)
    (within_both name (34 ∷ []) (within_letters name (letters_visible name h) (letters_ascii name h)) (within_letters (34 ∷ []) refl refl))
value_within (Text text) h = record { visible_is = solid_visible (quoted (encode_utf8_all text)) (quoted_solid (encode_utf8_all text)); utf8 = quoted_text text h }
value_within (Op op) h = record { visible_is = solid_visible (text_of_operation op) (array_solid (normal_runs op) h); utf8 = array_text (normal_runs op) h }
value_within (Sent m) h =
    let op : IsWithin (text_of_operation m.operation) = record { visible_is = solid_visible (text_of_operation m.operation) (array_solid (normal_runs m.operation) h.1); utf8 = array_text (normal_runs m.operation) h.1 } in
    within_both (codes "{\"revision\":") _ (within_letters (codes "{\"revision\":") refl refl)
    (within_both (decimal m.revision) _ (within_decimal m.revision h.0)
    (within_both (codes ",\"operation\":") _ (within_letters (codes ",\"operation\":") refl refl)
    (within_both (text_of_operation m.operation) (codes "}") op (within_letters (codes "}") refl refl))))

field_within : (f : Field) → are_letters f.key ≡ true → IsFormed f.value → IsWithin (field_text f)
field_within f key value =
    within_both (44 ∷ 34 ∷ []) (f.key ++ 34 ∷ 58 ∷ value_text f.value) (within_letters (44 ∷ 34 ∷ []) refl refl)
    (within_both f.key (34 ∷ 58 ∷ value_text f.value) (within_letters f.key (letters_visible f.key key) (letters_ascii f.key key))
    (within_both (34 ∷ 58 ∷ []) (value_text f.value) (within_letters (34 ∷ 58 ∷ []) refl refl) (value_within f.value value)))

fields_within : (fs : List Field) → AreFormed fs → IsWithin (fields_text fs)
fields_within [] h = within_letters [] refl refl
fields_within (f ∷ fs) h = within_both (field_text f) (fields_text fs) (field_within f h.0.0 h.0.1) (fields_within fs h.1)

-- ---- a line

body_solid : (line : Line) → IsLineFormed line → solid (body_text line) ≡ true
body_solid line h =
    solid_end (codes "{\"at\":") (decimal line.at ++ (fields_text (fields line) ++ 125 ∷ [])) refl
    (solid_end (decimal line.at) (fields_text (fields line) ++ 125 ∷ []) (decimal_visible line.at h.0)
    (solid_end (fields_text (fields line)) (125 ∷ []) (fields_within (fields line) h.1).visible_is refl))

body_utf8 : (line : Line) → IsLineFormed line → is_utf8 (body_text line) ≡ true
body_utf8 line h =
    is_utf8-from_IsUtf8 (body_text line)
    (IsUtf8-append (codes "{\"at\":") _ (IsUtf8-are_ascii (codes "{\"at\":") refl)
    (IsUtf8-append (decimal line.at) _ (decimal_text line.at h.0)
    (IsUtf8-append (fields_text (fields line)) (125 ∷ []) (fields_within (fields line) h.1).utf8 (IsUtf8-are_ascii (125 ∷ []) refl))))

body_kept : (line : Line) → IsLineFormed line → trimmed (body_text line) ≡ body_text line
body_kept line h =
    let solid_body = body_solid line h in
    ap (λ (l : List ℕ). skip_blanks (cut_blanks l)) (kept_return (body_text line) solid_body) ∙ ap skip_blanks (kept_blanks (body_text line) solid_body)

-- a line's text is its body and LF
ends_line : (a rest : List ℕ) (n : List ℕ) → (codes "{\"at\":" ++ (n ++ (a ++ codes "}\n"))) ++ rest ≡ (codes "{\"at\":" ++ (n ++ (a ++ 125 ∷ []))) ++ 10 ∷ rest
ends_line a rest n = simp append_assoc

line_first : (line : Line) (others : List Line) → IsLineFormed line → lines_of (lines_text (line ∷ others)) ≡ body_text line ∷ lines_of (lines_text others)
line_first line others h =
    ap lines_of (ends_line (fields_text (fields line)) (lines_text others) (decimal line.at))
    ∙ lines_piece (body_text line) (lines_text others) (no_end (body_text line) (body_solid line h))

-- it is one, where the object has a place
told : (bytes : List ℕ) (d : Data) (n : ℕ) → is_utf8 bytes ≡ true → read bytes ≡ Some d → get (codes "at") d ≡ Some (number (unsigned n)) → port_line bytes ≡ Told d
told bytes d n text reads place = rw (text, reads, place) refl

-- so are its bytes
pub line_told : (line : Line) (bytes : List ℕ) → IsLineFormed line → get (codes "at") (line_data line) ≡ Some (number (unsigned line.at)) → bytes ++ 10 ∷ [] ≡ line_text line → port_line bytes ≡ Told (line_data line)
line_told line bytes h place is =
    let body : bytes ≡ body_text line =
    append_cancel_right bytes (body_text line) (10 ∷ []) (is ∙ sym (append-nil (line_text line)) ∙ ends_line (fields_text (fields line)) [] (decimal line.at)) in
    ap port_line body ∙ told (body_text line) (line_data line) line.at (body_utf8 line h) (line_reads line h) place

pub line_counted : (line : Line) (others : List Line) → IsLineFormed line → get (codes "at") (line_data line) ≡ Some (number (unsigned line.at))
    → counted_lines (lines_of (lines_text (line ∷ others))) ≡ Told (line_data line) ∷ counted_lines (lines_of (lines_text others))
line_counted line others h place =
    ap counted_lines (line_first line others h)
    ∙ rw (body_kept line h) (ap (λ (port : PortLine). port ∷ counted_lines (lines_of (lines_text others))) (told (body_text line) (line_data line) line.at (body_utf8 line h) (line_reads line h) place))
