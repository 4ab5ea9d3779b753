-- A printed line as JSON: its text is that of a tree of members, and the tree reads as an object.
use Rattle.std.proofs.Common.{◌≡◌, ◌<◌, ◌≤◌, ◌-◌, ◌^◌, ◌==◌, ◌&&◌, not, ℕ, negsuc, List, [], ◌∷◌, ◌++◌, map, fold, Bool, true, false, nat_lt, Option, Some, option_map, option_and_then, decimal, refl, sym, ap, ◌∙◌, arith, append-nil, append_assoc}
use Rattle.std.specs.Prelude.{codes}
use Rattle.std.specs.List.{AllByRecursion}
use Rattle.std.specs.Str.{all_scalars, encode_utf8_all}
use Rattle.std.proofs.lemmas.Bool.{and_parts, ltb-true, eqb-false}
use Rattle.json.specs.Token.{Token, end_object}
use Rattle.json.specs.Print.{ends, escape, escape_byte, print, print_from, quoted}
use Rattle.json.specs.Json as json
use Rattle.json.specs.Tree as tree
use Rattle.json.specs.Tree.{json_tokens, items_tokens, members_tokens, HasNumbers, ItemsHaveNumbers, MembersHaveNumbers}
use Rattle.json.proofs.Printed.Decimals.{IsNumber-decimal, IsNumber-signed_decimal}
use Rattle.json.proofs.Printed.Strings.{escape_byte_plain}
use Rattle.json.proofs.Printed.Tokens.{print_from-append, tokens-print}
use Rattle.json.proofs.Printed.Trees.{ArePrintable-json_tokens, value-json_tokens}
use Rattle.serde_json.specs.Data.{Data, Items, Members, number, unsigned, array, object, no_members, put}
use Rattle.serde_json.specs.Read.{max_depth, of_items, of_json, of_members, read}
use Rattle.serde_json.specs.View.{items_of}
use Rattle.serde_json.specs.Written.{items_outline, outline}
use Rattle.serde_json.proofs.Numbers.{number_of-decimal, number_of-negative}
use Rattle.serde_json.proofs.Texts.{print-outline}
use Rattle.ot_operation.specs.Run.{Run, Keep, Add, Skip, normal_runs}
use Rattle.ot_json.specs.Writing as writing
use Rattle.ot_json.specs.Writing.{HasForm}
use Rattle.ot_steps.specs.Lines.{Line}
use Rattle.ot_steps.specs.Text.{Field, Value, Number, Name, Text, Op, Sent, fields, fields_text, value_text}
use Rattle.ot_conform.specs.Laws.{data_of, operation_data}

-- ---- names

-- a visible byte of ASCII that JSON does not escape
abbrev pub is_letter : ℕ → Bool
is_letter b = nat_lt 31 b && (nat_lt b 127 && (not (b == 34) && not (b == 92)))

abbrev pub are_letters : List ℕ → Bool
are_letters [] = true
are_letters (b ∷ bs) = is_letter b && are_letters bs

unlike : (b k : ℕ) → not (b == k) ≡ true → b ≡ k → ⊥
unlike b k h = eqb-false b k (go (b == k) h)
  where
    go : (t : Bool) → not t ≡ true → t ≡ false
    go true e = absurd (cc)
    go false e = refl

letter_escape : (b : ℕ) → is_letter b ≡ true → escape_byte b ≡ b ∷ []
letter_escape b h =
    let p = and_parts (nat_lt 31 b) (nat_lt b 127 && (not (b == 34) && not (b == 92))) h in
    let q = and_parts (not (b == 34)) (not (b == 92)) (and_parts (nat_lt b 127) _ p.1).1 in
    escape_byte_plain b (unlike b 34 q.0) (unlike b 92 q.1) (omega (arith, ltb-true 31 b p.0))

letters_escape : (s : List ℕ) → are_letters s ≡ true → escape s ≡ s
letters_escape [] h = refl
letters_escape (b ∷ s) h = let p = and_parts _ _ h in rw (letter_escape b p.0, letters_escape s p.1) refl

-- ---- values that have a JSON form

abbrev pub IsFormed : Value → Type 0
IsFormed (Number n) = n < 2 ^ 64
IsFormed (Name name) = are_letters name ≡ true
IsFormed (Text text) = all_scalars text ≡ true
IsFormed (Op op) = AllByRecursion HasForm (normal_runs op)
IsFormed (Sent m) = (m.revision < 2 ^ 64) × AllByRecursion HasForm (normal_runs m.operation)

abbrev pub IsFieldFormed : Field → Type 0
IsFieldFormed f = (are_letters f.key ≡ true) × IsFormed f.value

abbrev pub AreFormed : List Field → Type 0
AreFormed fs = AllByRecursion IsFieldFormed fs

abbrev pub IsLineFormed : Line → Type 0
IsLineFormed line = (line.at < 2 ^ 64) × AreFormed (fields line)

-- ---- the trees

abbrev pub tree_of : Value → json.Json
tree_of (Number n) = json.number (decimal n)
tree_of (Name name) = json.string name
tree_of (Text text) = json.string (encode_utf8_all text)
tree_of (Op op) = outline (operation_data op)
tree_of (Sent m) =
    json.object (json.member (codes "revision") (json.number (decimal m.revision))
    (json.member (codes "operation") (outline (operation_data m.operation)) json.no_members))

abbrev pub members_of : List Field → json.Members
members_of [] = json.no_members
members_of (f ∷ fs) = json.member f.key (tree_of f.value) (members_of fs)

abbrev pub line_tree : Line → json.Json
line_tree line = json.object (json.member (codes "at") (json.number (decimal line.at)) (members_of (fields line)))

-- ---- the text of a tree

ends_append : (c : Bool) (ts us : List Token) → fold (λ _ u. ends u) c (ts ++ us) ≡ fold (λ _ u. ends u) (fold (λ _ u. ends u) c ts) us
ends_append c [] us = refl
ends_append c (t ∷ ts) us = ends_append (ends t) ts us

mutual
  value_ends : (j : json.Json) (c : Bool) → fold (λ _ u. ends u) c (json_tokens j) ≡ true
  value_ends json.null c = refl
  value_ends (json.boolean b) c = refl
  value_ends (json.number s) c = refl
  value_ends (json.string s) c = refl
  value_ends (json.array js) c = items_end js false
  value_ends (json.object ms) c = members_end ms false

  items_end : (js : json.Items) (c : Bool) → fold (λ _ u. ends u) c (items_tokens js) ≡ true
  items_end json.no_items c = refl
  items_end (json.item j js) c = ends_append c (json_tokens j) (items_tokens js) ∙ items_end js _

  members_end : (ms : json.Members) (c : Bool) → fold (λ _ u. ends u) c (members_tokens ms) ≡ true
  members_end json.no_members c = refl
  members_end (json.member k j ms) c = ends_append false (json_tokens j) (members_tokens ms) ∙ members_end ms _

-- a value, and then more
then_more : (j : json.Json) (ts : List Token) → print_from false (json_tokens j ++ ts) ≡ print_from false (json_tokens j) ++ print_from true ts
then_more j ts = print_from-append false (json_tokens j) ts ∙ ap (λ (c : Bool). print_from false (json_tokens j) ++ print_from c ts) (value_ends j false)

value_printed : (v : Value) → IsFormed v → print_from false (json_tokens (tree_of v)) ≡ value_text v
unfolding print_from escape_byte
value_printed (Number n) h = append-nil (decimal n)
value_printed (Name name) h = append-nil (quoted name) ∙ ap (λ (s : List ℕ). 34 ∷ (s ++ 34 ∷ [])) (letters_escape name h)
value_printed (Text text) h = append-nil (quoted (encode_utf8_all text))
value_printed (Op op) h = print-outline (operation_data op)
value_printed (Sent m) h =
    let op = operation_data m.operation in
    ap (λ (t : List ℕ). codes "{\"revision\":" ++ (decimal m.revision ++ (codes ",\"operation\":" ++ t)))
    (then_more (outline op) (end_object ∷ []) ∙ ap (λ (t : List ℕ). t ++ 125 ∷ []) (print-outline op))

regroup : (k v rest close : List ℕ) → ((k ++ 34 ∷ []) ++ 58 ∷ []) ++ (v ++ (rest ++ close)) ≡ ((k ++ 34 ∷ 58 ∷ v) ++ rest) ++ close
regroup k v rest close = simp append_assoc

members_printed : (fs : List Field) → AreFormed fs → print_from true (members_tokens (members_of fs)) ≡ fields_text fs ++ 125 ∷ []
unfolding print_from
members_printed [] h = refl
members_printed (f ∷ fs) h =
    let value = then_more (tree_of f.value) (members_tokens (members_of fs))
    ∙ ap (λ (t : List ℕ). t ++ print_from true (members_tokens (members_of fs))) (value_printed f.value h.0.1)
    ∙ ap (λ (t : List ℕ). value_text f.value ++ t) (members_printed fs h.1) in
    ap (λ (t : List ℕ). 44 ∷ 34 ∷ (((escape f.key ++ 34 ∷ []) ++ 58 ∷ []) ++ t)) value
    ∙ ap (λ (k : List ℕ). 44 ∷ 34 ∷ (((k ++ 34 ∷ []) ++ 58 ∷ []) ++ (value_text f.value ++ (fields_text fs ++ 125 ∷ [])))) (letters_escape f.key h.0.0)
    ∙ ap (λ (t : List ℕ). 44 ∷ 34 ∷ t) (regroup f.key (value_text f.value) (fields_text fs) (125 ∷ []))

-- a line's text without LF
abbrev pub body_text : Line → List ℕ
body_text line = codes "{\"at\":" ++ (decimal line.at ++ (fields_text (fields line) ++ 125 ∷ []))

line_printed : (line : Line) → IsLineFormed line → print (json_tokens (line_tree line)) ≡ body_text line
unfolding print_from escape_byte
line_printed line h = ap (λ (t : List ℕ). codes "{\"at\":" ++ (decimal line.at ++ t)) (members_printed (fields line) h.1)

-- ---- what a tree reads as

abbrev datas : List (Run ℕ) → Items
datas rs = items_of (map writing.data_of rs)

negative_fits : (n : ℕ) → (0 < n) × (n < 2 ^ 63) → n - 1 < 2 ^ 63
negative_fits n h = omega (arith, h)

run_reads : (r : Run ℕ) → HasForm r → of_json (outline (writing.data_of r)) ≡ Some (writing.data_of r)
run_reads (Keep n) h = ap (option_map number) (number_of-decimal n h.1)
run_reads (Add s) h = refl
run_reads (Skip n) h = ap (option_map number) (number_of-negative (n - 1) (negative_fits n h))

runs_read : (rs : List (Run ℕ)) → AllByRecursion HasForm rs → of_items (items_outline (datas rs)) ≡ Some (datas rs)
runs_read [] h = refl
runs_read (r ∷ rs) h = rw (run_reads r h.0, runs_read rs h.1) refl

run_numbers : (r : Run ℕ) → HasForm r → HasNumbers (outline (writing.data_of r))
run_numbers (Keep n) h = IsNumber-decimal n h.1
run_numbers (Add s) h = tt
run_numbers (Skip n) h = IsNumber-signed_decimal (negsuc (n - 1)) (omega (arith, h))

runs_numbers : (rs : List (Run ℕ)) → AllByRecursion HasForm rs → ItemsHaveNumbers (items_outline (datas rs))
runs_numbers [] h = tt
runs_numbers (r ∷ rs) h = (run_numbers r h.0, runs_numbers rs h.1)

runs_flat : (rs : List (Run ℕ)) → tree.items_depth (items_outline (datas rs)) ≡ 0
runs_flat [] = refl
runs_flat (Keep n ∷ rs) = omega (arith, runs_flat rs)
runs_flat (Add s ∷ rs) = omega (arith, runs_flat rs)
runs_flat (Skip n ∷ rs) = omega (arith, runs_flat rs)

value_reads : (v : Value) → IsFormed v → of_json (tree_of v) ≡ Some (data_of v)
value_reads (Number n) h = ap (option_map number) (number_of-decimal n h)
value_reads (Name name) h = refl
value_reads (Text text) h = refl
value_reads (Op op) h = ap (option_map array) (runs_read (normal_runs op) h)
value_reads (Sent m) h = rw (number_of-decimal m.revision h.0, runs_read (normal_runs m.operation) h.1) refl

value_numbers : (v : Value) → IsFormed v → HasNumbers (tree_of v)
value_numbers (Number n) h = IsNumber-decimal n h
value_numbers (Name name) h = tt
value_numbers (Text text) h = tt
value_numbers (Op op) h = runs_numbers (normal_runs op) h
value_numbers (Sent m) h = (IsNumber-decimal m.revision h.0, (runs_numbers (normal_runs m.operation) h.1, tt))

value_flat : (v : Value) → tree.depth (tree_of v) ≤ 2
value_flat (Number n) = omega arith
value_flat (Name name) = omega arith
value_flat (Text text) = omega arith
value_flat (Op op) = omega (arith, runs_flat (normal_runs op))
value_flat (Sent m) = omega (arith, runs_flat (normal_runs m.operation))

-- the fields go in one after another
abbrev pub with_fields : List Field → Members → Members
with_fields [] ms = ms
with_fields (f ∷ fs) ms = with_fields fs (put f.key (data_of f.value) ms)

members_read : (fs : List Field) (ms : Members) → AreFormed fs → of_members (members_of fs) ms ≡ Some (with_fields fs ms)
members_read [] ms h = refl
members_read (f ∷ fs) ms h = rw (value_reads f.value h.0.1) (members_read fs (put f.key (data_of f.value) ms) h.1)

members_numbers : (fs : List Field) → AreFormed fs → MembersHaveNumbers (members_of fs)
members_numbers [] h = tt
members_numbers (f ∷ fs) h = (value_numbers f.value h.0.1, members_numbers fs h.1)

members_flat : (fs : List Field) → tree.members_depth (members_of fs) ≤ 2
members_flat [] = omega arith
members_flat (f ∷ fs) = omega (arith, value_flat f.value, members_flat fs)

-- the object that a line is
abbrev pub line_data : Line → Data
line_data line = object (with_fields (fields line) (put (codes "at") (number (unsigned line.at)) no_members))

-- the value that whole tokens are
abbrev whole : Option (json.Json × List Token) → Option Data
whole o = option_and_then of_json (option_and_then (λ p. json.if_last p.0 p.1) o)

tree_reads : (j : json.Json) (d : Data) → HasNumbers j → tree.depth j ≤ max_depth → of_json j ≡ Some d → read (print (json_tokens j)) ≡ Some d
tree_reads j d numbers shallow is =
    ap whole (ap (json.value max_depth) (tokens-print (json_tokens j) (ArePrintable-json_tokens j numbers) ∙ sym (append-nil (json_tokens j))) ∙ value-json_tokens j max_depth [] shallow) ∙ is

pub line_reads : (line : Line) → IsLineFormed line → read (body_text line) ≡ Some (line_data line)
line_reads line h =
    ap read (sym (line_printed line h))
    ∙ tree_reads (line_tree line) (line_data line) (IsNumber-decimal line.at h.0, members_numbers (fields line) h.1) (omega (arith, members_flat (fields line)))
    (rw (number_of-decimal line.at h.0, members_read (fields line) (put (codes "at") (number (unsigned line.at)) no_members) h.1) refl)
