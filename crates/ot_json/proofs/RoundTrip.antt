-- The compact text of components reads as their array.
use Rattle.std.proofs.Common.{◌≡◌, ◌≤◌, ◌<◌, ◌-◌, ◌^◌, ℕ, List, [], ◌∷◌, negsuc, Some, map, option_map, option_and_then, refl, sym, ap, ◌∙◌, arith, append-nil, Option}
use Rattle.std.specs.List.{AllByRecursion}
use Rattle.std.specs.Fmt.{signed_decimal}
use Rattle.json.specs.Token.{Token}
use Rattle.json.specs.Lex.{tokens}
use Rattle.json.specs.Print.{ArePrintable}
use Rattle.json.specs.Json as json
use Rattle.json.specs.Tree as tree
use Rattle.json.proofs.Printed.Tokens.{tokens-print}
use Rattle.json.proofs.Printed.Decimals.{IsNumber-decimal, IsNumber-signed_decimal}
use Rattle.serde_json.specs.Data.{Data, number, negative, array, Items, depth, items_depth}
use Rattle.serde_json.specs.Read.{of_json, of_items, read, number_of, max_depth}
use Rattle.serde_json.specs.View.{items_of}
use Rattle.serde_json.specs.Written.{outline, items_outline, blank, blank_items, WritesValue, compact_text}
use Rattle.serde_json.proofs.Numbers.{number_of-decimal, number_of-negative}
use Rattle.serde_json.proofs.Texts.{print-outline, unless_float-number_of}
use Rattle.json.proofs.Printed.Trees.{value-json_tokens}
use Rattle.ot_operation.specs.Run.{Run, Keep, Add, Skip}
use Rattle.ot_json.specs.Writing.{HasForm, data_of, array_of}

-- the value that whole tokens are
abbrev whole : Option (json.Json × List Token) → Option Data
whole o = option_and_then of_json (option_and_then (λ p. json.if_last p.0 p.1) o)

pub read_back : (d : Data) (ts : List Token) (bytes : List ℕ) → WritesValue d [] ts → tokens bytes ≡ ts → depth d ≤ max_depth → read bytes ≡ Some d
read_back d ts bytes w same shallow =
    ap whole (ap (json.value max_depth) (same ∙ w.1 ∙ sym (append-nil _)) ∙ value-json_tokens w.0 max_depth [] (omega (arith, w.3))) ∙ w.2

abbrev pub datas : List (Run ℕ) → Items
datas ps = items_of (map data_of ps)

negative_reads : (n : ℕ) → (0 < n) × (n < 2 ^ 63) → number_of (signed_decimal (negsuc (n - 1))) ≡ Some (negative (negsuc (n - 1)))
negative_reads n h = number_of-negative (n - 1) (omega (arith, h))

one_reads : (p : Run ℕ) → HasForm p → of_json (outline (data_of p)) ≡ Some (data_of p)
one_reads (Keep n) h = ap (option_map number) (number_of-decimal n h.1)
one_reads (Add s) h = refl
one_reads (Skip n) h = ap (option_map number) (negative_reads n h)

one_plain : (p : Run ℕ) → HasForm p → blank (outline (data_of p)) ≡ outline (data_of p)
one_plain (Keep n) h = ap json.number (unless_float-number_of _ _ (number_of-decimal n h.1))
one_plain (Add s) h = refl
one_plain (Skip n) h = ap json.number (unless_float-number_of _ _ (negative_reads n h))

all_read : (ps : List (Run ℕ)) → AllByRecursion HasForm ps → of_items (items_outline (datas ps)) ≡ Some (datas ps)
all_read [] h = refl
all_read (p ∷ ps) h = rw (one_reads p h.0, all_read ps h.1) refl

all_plain : (ps : List (Run ℕ)) → AllByRecursion HasForm ps → blank_items (items_outline (datas ps)) ≡ items_outline (datas ps)
all_plain [] h = refl
all_plain (p ∷ ps) h = rw (one_plain p h.0, all_plain ps h.1) refl

all_printable : (ps : List (Run ℕ)) → AllByRecursion HasForm ps → ArePrintable (tree.items_tokens (items_outline (datas ps)))
unfolding ArePrintable
all_printable [] h = (tt, tt)
all_printable (Keep n ∷ ps) h = (IsNumber-decimal n h.0.1, all_printable ps h.1)
all_printable (Add s ∷ ps) h = (tt, all_printable ps h.1)
all_printable (Skip n ∷ ps) h = (IsNumber-signed_decimal (negsuc (n - 1)) (omega (arith, h.0)), all_printable ps h.1)

flat : (ps : List (Run ℕ)) → items_depth (datas ps) ≡ 0
flat [] = refl
flat (Keep n ∷ ps) = omega (arith, flat ps)
flat (Add s ∷ ps) = omega (arith, flat ps)
flat (Skip n ∷ ps) = omega (arith, flat ps)

flat_outline : (ps : List (Run ℕ)) → tree.items_depth (items_outline (datas ps)) ≡ 0
flat_outline [] = refl
flat_outline (Keep n ∷ ps) = omega (arith, flat_outline ps)
flat_outline (Add s ∷ ps) = omega (arith, flat_outline ps)
flat_outline (Skip n ∷ ps) = omega (arith, flat_outline ps)

pub printable : (ps : List (Run ℕ)) → AllByRecursion HasForm ps → ArePrintable (tree.json_tokens (outline (array_of ps)))
unfolding ArePrintable
printable ps h = (tt, all_printable ps h)

pub written : (ps : List (Run ℕ)) → AllByRecursion HasForm ps → WritesValue (array_of ps) [] (tree.json_tokens (outline (array_of ps)))
written ps h = (
  outline (array_of ps),
  refl,
  ap (option_map array) (all_read ps h),
  omega (arith, flat ps, flat_outline ps),
  ap json.array (all_plain ps h),
)

pub shallow : (ps : List (Run ℕ)) → depth (array_of ps) ≤ max_depth
shallow ps = omega (arith, flat ps)

pub written_reads : (ps : List (Run ℕ)) → AllByRecursion HasForm ps → read (compact_text (array_of ps)) ≡ Some (array_of ps)
written_reads ps h =
    let d = array_of ps in
    let ts = tree.json_tokens (outline d) in
    let same : tokens (compact_text d) ≡ ts = ap tokens (sym (print-outline d)) ∙ tokens-print ts (printable ps h) in
    read_back d ts (compact_text d) (written ps h) same (shallow ps)
