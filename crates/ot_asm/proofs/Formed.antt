-- The JSON text of an edit's operation reads back, and so does that of a start text.
use Rattle.std.proofs.Common.{◌≡◌, ◌≤◌, ◌+◌, ℕ, zero, suc, List, [], ◌∷◌, ◌++◌, length, map, true, false, Some, Ok, refl, sym, ap, ◌∙◌, arith, append-nil, Option, option_and_then}
use Rattle.std.specs.List.{AllByRecursion}
use Rattle.std.specs.Str.{all_scalars, encode_utf8_all, is_utf8}
use Rattle.std.proofs.lemmas.Bool.{and_parts, and_from}
use Rattle.std.proofs.lemmas.Str.{chars-encodes, is_utf8-from_IsUtf8}
use Rattle.json.specs.Token as token
use Rattle.json.specs.Lex.{tokens}
use Rattle.json.specs.Print.{quoted, ArePrintable, print_from}
use Rattle.json.specs.Json as json
use Rattle.json.proofs.Printed.Tokens.{tokens-print}
use Rattle.json.proofs.Printed.Trees.{value-json_tokens}
use Rattle.serde_json.specs.Data.{Data, string}
use Rattle.serde_json.specs.Read.{of_json, read, max_depth}
use Rattle.ot_operation.specs.Operation.{Item, New, Operation, olds, news}
use Rattle.ot_operation.specs.Run.{Run, Keep, Add, Skip, base_of, image_from, operation_of, IsNormal, normal_runs}
use Rattle.ot_operation.proofs.Normal.{runs_normal}
use Rattle.ot_json.specs.Writing.{HasForm, text_of_operation}
use Rattle.ot_json.specs.Reading.{operation_of_text}
use Rattle.ot_json.proofs.Built.{text_back}
use Rattle.ot_isa.specs.Program.{IsWithinLimit}
use Rattle.ot_asm.specs.Stepping.{string_of_text, operation_of_rest}
use Rattle.ot_asm.proofs.Printing.{array_text, quoted_text}

old_news : (from n : ℕ) (items : List (Item ℕ)) → news (olds from n ++ items) ≡ news items
old_news from zero items = refl
old_news from (suc n) items = old_news (suc from) n items

new_scalars : (s : List ℕ) (items : List (Item ℕ)) → all_scalars (news (map New s ++ items)) ≡ true → (all_scalars s ≡ true) × (all_scalars (news items) ≡ true)
new_scalars [] items h = (refl, h)
new_scalars (c ∷ s) items h =
    let p = and_parts _ _ h in
    let rest = new_scalars s items p.1 in
    (and_from _ _ p.0 rest.0, rest.1)

all_formed : (from : ℕ) (rs : List (Run ℕ)) → IsNormal rs → base_of rs ≤ 1000000 → all_scalars (news (image_from from rs)) ≡ true → AllByRecursion HasForm rs
all_formed from [] n b h = tt
all_formed from (Keep k ∷ rs) n b h = (
  (n.0, omega (arith, b)),
  all_formed (from + k) rs n.2 (omega (arith, b)) (ap all_scalars (sym (old_news from k (image_from (from + k) rs))) ∙ h),
)
all_formed from (Add s ∷ rs) n b h = let p = new_scalars s (image_from from rs) h in (p.0, all_formed from rs n.2 b p.1)
all_formed from (Skip k ∷ rs) n b h = ((n.0, omega (arith, b)), all_formed (from + k) rs n.2 (omega (arith, b)) h)

-- the components of an edit have a JSON form
pub op_formed : (op : Operation ℕ) → IsWithinLimit op → all_scalars (news op.image) ≡ true → AllByRecursion HasForm (normal_runs op)
op_formed op w h =
    let normal = runs_normal op w.operation in
    let base : base_of (normal_runs op) ≡ op.base = ap (λ (o : Operation ℕ). o.base) normal.1 in
    let image : image_from 0 (normal_runs op) ≡ op.image = ap (λ (o : Operation ℕ). o.image) normal.1 in
    all_formed 0 (normal_runs op) normal.0 (omega (arith, base, w.base)) (ap (λ t. all_scalars (news t)) image ∙ h)

pub op_back : (op : Operation ℕ) → IsWithinLimit op → all_scalars (news op.image) ≡ true → operation_of_rest (text_of_operation op) ≡ Ok op
op_back op w h =
    let formed = op_formed op w h in
    let normal = runs_normal op w.operation in
    let base : base_of (normal_runs op) ≡ op.base = ap (λ (o : Operation ℕ). o.base) normal.1 in
    let image : length (image_from 0 (normal_runs op)) ≡ length op.image = ap (λ (o : Operation ℕ). length o.image) normal.1 in
    let back : operation_of_text (text_of_operation op) ≡ Ok (operation_of (normal_runs op)) = text_back (normal_runs op) formed (omega (arith, base, w.base)) (omega (arith, image, w.target)) in
    let text : is_utf8 (text_of_operation op) ≡ true = is_utf8-from_IsUtf8 _ (array_text (normal_runs op) formed) in
    rw text (back ∙ ap (λ o. Ok o) normal.1)

-- the value that whole tokens are
abbrev whole : Option (json.Json × List token.Token) → Option Data
whole o = option_and_then of_json (option_and_then (λ p. json.if_last p.0 p.1) o)

printable : (s : List ℕ) → ArePrintable (token.string s ∷ [])
unfolding ArePrintable
printable s = (tt, tt)

printed : (s : List ℕ) → print_from false (token.string s ∷ []) ≡ quoted s
unfolding print_from
printed s = append-nil (quoted s)

quoted_reads : (s : List ℕ) → read (quoted s) ≡ Some (string s)
quoted_reads s =
    let same : tokens (quoted s) ≡ token.string s ∷ [] = ap tokens (sym (printed s)) ∙ tokens-print (token.string s ∷ []) (printable s) in
    ap (λ t. whole (json.value max_depth t)) same ∙ ap whole (value-json_tokens (json.string s) max_depth [] (omega arith))

pub start_back : (cs : List ℕ) → all_scalars cs ≡ true → string_of_text (quoted (encode_utf8_all cs)) ≡ Some cs
start_back cs h =
    let text : is_utf8 (quoted (encode_utf8_all cs)) ≡ true = is_utf8-from_IsUtf8 _ (quoted_text cs h) in
    rw (text, quoted_reads (encode_utf8_all cs)) (ap (λ t. Some t) (chars-encodes cs h))
