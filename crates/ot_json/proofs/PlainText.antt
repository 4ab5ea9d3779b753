-- The text of a plain array, as far as it was read.
use Rattle.std.proofs.Common.{◌≡◌, ◌+◌, ◌-◌, ◌*◌, ◌/◌, ◌%◌, ◌<◌, ◌≤◌, ◌^◌, length, take, get_or, inl, ℕ, zero, suc, negsuc, Bool, true, false, List, [], ◌∷◌, ◌++◌, map, Ok, Err, Result, refl, sym, ap, ◌∙◌, subst, arith, decimal, append_assoc, append-nil, IsUtf8}
use Rattle.std.specs.List.{AllByRecursion}
use Rattle.std.specs.Fmt.{signed_decimal}
use Rattle.std.specs.Str.{encode_utf8_all, is_utf8, chars, all_scalars}
use Rattle.std.specs.Result.{is_err, OnOk}
use Rattle.std.proofs.lemmas.Str.{IsUtf8-append, IsUtf8-from_ascii, is_utf8-from_IsUtf8, chars-encodes}
use Rattle.std.proofs.lemmas.Fmt.{IsAscii-decimal, IsAscii-signed, decimal_digit, decimal_step}
use Rattle.std.proofs.lemmas.List.{map-append, take_more}
use Rattle.std.proofs.lemmas.Grind.{flat_map-append}
use Rattle.json.specs.Token.{Token}
use Rattle.json.specs.Print.{escape_byte, escape, quoted, token_text, separator, ends, ends_value, ArePrintable}
use Rattle.json.specs.Spaced.{IsGap, AreGaps, print_spaced}
use Rattle.json.specs.Tree as tree
use Rattle.json.specs.Lex.{tokens}
use Rattle.json.proofs.Printed.Tokens.{print_spaced_push, ends_push, tokens-print_spaced}
use Rattle.json.proofs.Printed.Strings.{escape_byte_plain}
use Rattle.json.proofs.Printed.Utf8.{IsUtf8-quoted, IsUtf8-separator, IsUtf8-IsGap, IsUtf8-are_ascii}
use Rattle.serde_json.specs.Data.{item, Items}
use Rattle.serde_json.specs.Read.{read}
use Rattle.serde_json.specs.Written.{compact_text, comma_if, outline, items_outline}
use Rattle.ot_operation.specs.Operation.{Operation, empty, IsTooLong}
use Rattle.ot_operation.specs.Run.{Run, Keep, Add, Skip}
use Rattle.ot_json.specs.Reading.{run_of_data, with_run, with_component, and_then, built, operation_of_json, operation_of_text}
use Rattle.ot_json.specs.Writing.{HasForm, data_of, array_of}
use Rattle.ot_json.specs.declared.fault.OpFault.{OpFault}
use Rattle.ot_json.proofs.Added.{is_short}
use Rattle.ot_json.proofs.Built.{one_back}
use Rattle.ot_json.proofs.RoundTrip.{datas, read_back, written, printable, shallow}

abbrev token_of : Run ℕ → Token
token_of (Keep n) = Token.number (decimal n)
token_of (Add s) = Token.string (encode_utf8_all s)
token_of (Skip n) = Token.number (signed_decimal (negsuc (n - 1)))

text_of_token : (r : Run ℕ) → token_text (token_of r) ≡ compact_text (data_of r)
text_of_token (Keep n) = refl
text_of_token (Add s) = refl
text_of_token (Skip n) = refl

is_last : (r : Run ℕ) → ends (token_of r) ≡ true
is_last (Keep n) = refl
is_last (Add s) = refl
is_last (Skip n) = refl

comma_before : (later : Bool) (r : Run ℕ) → separator later (token_of r) ≡ comma_if later
comma_before true (Keep n) = refl
comma_before true (Add s) = refl
comma_before true (Skip n) = refl
comma_before false (Keep n) = refl
comma_before false (Add s) = refl
comma_before false (Skip n) = refl

token_utf8 : (r : Run ℕ) → HasForm r → IsUtf8 (token_text (token_of r))
token_utf8 (Keep n) h = IsUtf8-from_ascii _ (IsAscii-decimal n h.1)
token_utf8 (Add s) h = IsUtf8-quoted (encode_utf8_all s) (s, (h, refl))
token_utf8 (Skip n) h = IsUtf8-from_ascii _ (IsAscii-signed (negsuc (n - 1)) (omega (arith, h)))

tokens_of_items : (rs : List (Run ℕ)) → tree.items_tokens (items_outline (datas rs)) ≡ map token_of rs ++ Token.end_array ∷ []
tokens_of_items [] = refl
tokens_of_items (Keep n ∷ rs) = ap (λ ts. Token.number (decimal n) ∷ ts) (tokens_of_items rs)
tokens_of_items (Add s ∷ rs) = ap (λ ts. Token.string (encode_utf8_all s) ∷ ts) (tokens_of_items rs)
tokens_of_items (Skip n ∷ rs) = ap (λ ts. Token.number (signed_decimal (negsuc (n - 1))) ∷ ts) (tokens_of_items rs)

gaps_push : (ps : List (List ℕ × Token)) (p : List ℕ × Token) → AreGaps ps → IsGap p.0 → AreGaps (ps ++ p ∷ [])
gaps_push [] p h k = (k, tt)
gaps_push (q ∷ ps) p h k = (h.0, gaps_push ps p h.1 k)

forms_push : (rs : List (Run ℕ)) (r : Run ℕ) → AllByRecursion HasForm rs → HasForm r → AllByRecursion HasForm (rs ++ r ∷ [])
forms_push [] r h k = (k, tt)
forms_push (q ∷ rs) r h k = (h.0, forms_push rs r h.1 k)

then_built :
    (w : Result (Operation ℕ) OpFault) (f g : Operation ℕ → Result (Operation ℕ) OpFault) (op next : Operation ℕ)
    → and_then w f ≡ Ok op → ((o : Operation ℕ) → f o ≡ Ok op → g o ≡ Ok next) → and_then w g ≡ Ok next
then_built (Ok o) f g op next h k = k o h
then_built (Err e) f g op next h k = absurd (cc)

built_push :
    (i : ℕ) (start op : Operation ℕ) (rs : List (Run ℕ)) (r : Run ℕ) → HasForm r → (IsTooLong (with_run op r) → ⊥)
    → built i start (datas rs) ≡ Ok op → built i start (datas (rs ++ r ∷ [])) ≡ Ok (with_run op r)
built_push i start op [] r form short e =
    let same : start ≡ op = cc in
    rw (same, one_back r form, is_short i op r short) refl
built_push i start op (q ∷ rs) r form short e =
    then_built (with_component i start (run_of_data (data_of q))) (λ next. built (i + 1) next (datas rs)) (λ next. built (i + 1) next (datas (rs ++ r ∷ []))) op (with_run op r) e
    (λ next h. built_push (i + 1) next op rs r form short h)

-- A text is that of a bracket and components, with `rest` behind them, which make `op`; `later` says whether there is a component.
pub record Gone (later : Bool) (text rest : List ℕ) (op : Operation ℕ) : Type 0 where
  pub runs : List (Run ℕ)
  pub spaced : List (List ℕ × Token)
  pub gaps : AreGaps spaced
  pub forms : AllByRecursion HasForm runs
  pub utf8 : IsUtf8 (print_spaced false spaced)
  pub tokens_are : map (λ p. p.1) spaced ≡ Token.begin_array ∷ map token_of runs
  pub ended : ends_value (map (λ p. p.1) spaced) ≡ later
  pub here : text ≡ print_spaced false spaced ++ rest
  pub made : built 0 empty (datas runs) ≡ Ok op

-- behind the bracket
pub gone_none : (rest : List ℕ) → Gone false (91 ∷ rest) rest empty
unfolding print_spaced
gone_none rest = record {
  runs = [];
  spaced = ([], Token.begin_array) ∷ [];
  gaps = (tt, tt);
  forms = tt;
  utf8 = IsUtf8-are_ascii (91 ∷ []) refl;
  tokens_are = refl;
  ended = refl;
  here = refl;
  made = refl;
}

spaced_push : (later : Bool) (spaced : List (List ℕ × Token)) (gap : List ℕ) (t : Token) → ends_value (map (λ p. p.1) spaced) ≡ later
    → print_spaced false (spaced ++ (gap, t) ∷ []) ≡ print_spaced false spaced ++ (separator later t ++ (gap ++ token_text t))
spaced_push later spaced gap t e = print_spaced_push false spaced (gap, t) ∙ ap (λ b. print_spaced false spaced ++ (separator b t ++ (gap ++ token_text t))) e

tokens_push : (spaced : List (List ℕ × Token)) (gap : List ℕ) (t : Token) → map (λ p. p.1) (spaced ++ (gap, t) ∷ []) ≡ map (λ p. p.1) spaced ++ t ∷ []
tokens_push spaced gap t = map-append (λ p. p.1) spaced ((gap, t) ∷ [])

-- one more component, behind its comma and spaces
pub gone_more :
    (later : Bool) (text before rest gap behind : List ℕ) (op : Operation ℕ) (r : Run ℕ) → Gone later text before op → before ≡ comma_if later ++ rest
    → IsGap gap → rest ≡ gap ++ (compact_text (data_of r) ++ behind) → HasForm r → (IsTooLong (with_run op r) → ⊥) → Gone true text behind (with_run op r)
gone_more later text before rest gap behind op r g comma is_gap next form short =
    let t = token_of r in
    let pushed = spaced_push later g.spaced gap t g.ended in
    let separated = comma_before later r in
    let whole : print_spaced false (g.spaced ++ (gap, t) ∷ []) ≡ print_spaced false g.spaced ++ (comma_if later ++ (gap ++ compact_text (data_of r))) =
    pushed ∙ ap (λ c. print_spaced false g.spaced ++ (c ++ (gap ++ token_text t))) separated ∙ ap (λ c. print_spaced false g.spaced ++ (comma_if later ++ (gap ++ c))) (text_of_token r) in
    record {
      runs = g.runs ++ r ∷ [];
      spaced = g.spaced ++ (gap, t) ∷ [];
      gaps = gaps_push g.spaced (gap, t) g.gaps is_gap;
      forms = forms_push g.runs r g.forms form;
      utf8 = subst IsUtf8 (sym pushed) (IsUtf8-append _ _ g.utf8 (IsUtf8-append _ _ (IsUtf8-separator later t) (IsUtf8-append _ _ (IsUtf8-IsGap gap is_gap) (token_utf8 r form))));
      tokens_are = tokens_push g.spaced gap t ∙ ap (λ ts. ts ++ t ∷ []) g.tokens_are ∙ ap (λ ts. Token.begin_array ∷ ts) (sym (map-append token_of g.runs (r ∷ [])));
      ended = ap ends_value (tokens_push g.spaced gap t) ∙ ends_push false (map (λ p. p.1) g.spaced) t ∙ is_last r;
      here = g.here ∙ ap (λ l. print_spaced false g.spaced ++ l) (comma ∙ ap (λ l. comma_if later ++ l) next) ∙ sym (ap (λ l. l ++ behind) whole ∙ simp append_assoc);
      made = built_push 0 empty op g.runs r form short g.made;
    }

-- the opening bracket
pub gone_start : (text rest : List ℕ) (first : ℕ) (op : Operation ℕ) → text ≡ first ∷ rest → first ≡ 91 → op ≡ empty → Gone false text rest op
gone_start text rest first op e is none = rw (e, is, none) (gone_none rest)

-- a component that was read and added
pub gone_added :
    (text rest here behind : List ℕ) (op next : Operation ℕ) (r : Run ℕ) → (later : Bool) × (before : List ℕ) × Gone later text before op × (before ≡ comma_if later ++ rest)
    → (gap : List ℕ) × IsGap gap × (rest ≡ gap ++ here) → here ≡ compact_text (data_of r) ++ behind → HasForm r → next ≡ with_run op r → (IsTooLong (with_run op r) → ⊥)
    → Gone true text behind next
gone_added text rest here behind op next r so_far spaces is form made short =
    rw made (gone_more so_far.0 text so_far.1 rest spaces.0 behind op r so_far.2 so_far.3 spaces.1 (spaces.2 ∙ ap (λ l. spaces.0 ++ l) is) form short)

-- what a success says
pub said : {T E P : Type 0} (r : Result T E) → is_err r ≡ false → OnOk r P → P
said (Ok x) e p = p
said (Err x) e p = absurd (cc)

-- the closing bracket
abbrev closed : List (List ℕ × Token) → List (List ℕ × Token)
closed spaced = spaced ++ ([], Token.end_array) ∷ []

closed_tokens : (spaced : List (List ℕ × Token)) (rs : List (Run ℕ)) → map (λ p. p.1) spaced ≡ Token.begin_array ∷ map token_of rs → map (λ p. p.1) (closed spaced) ≡ tree.json_tokens (outline (array_of rs))
closed_tokens spaced rs e = tokens_push spaced [] Token.end_array ∙ ap (λ ts. ts ++ Token.end_array ∷ []) e ∙ ap (λ ts. Token.begin_array ∷ ts) (sym (tokens_of_items rs))

closed_text : (spaced : List (List ℕ × Token)) → ends_value (map (λ p. p.1) spaced) ≡ true → print_spaced false (closed spaced) ≡ print_spaced false spaced ++ 93 ∷ []
closed_text spaced e = spaced_push true spaced [] Token.end_array e

pub last_byte : (rest below : List ℕ) (next : ℕ) → rest ≡ next ∷ below → next ≡ 93 → length below ≡ 0 → rest ≡ 93 ∷ []
last_byte rest [] next e is none = rw (e, is) refl
last_byte rest (b ∷ below) next e is none = absurd (omega (arith, none))

pub gone_all : (text rest : List ℕ) (op : Operation ℕ) → Gone true text rest op → rest ≡ 93 ∷ [] → (operation_of_text text ≡ Ok op) × (is_utf8 text ≡ true)
gone_all text rest op g e =
    let ts = tree.json_tokens (outline (array_of g.runs)) in
    let is_text : text ≡ print_spaced false (closed g.spaced) = g.here ∙ ap (λ l. print_spaced false g.spaced ++ l) e ∙ sym (closed_text g.spaced g.ended) in
    let are : map (λ p. p.1) (closed g.spaced) ≡ ts = closed_tokens g.spaced g.runs g.tokens_are in
    let same : tokens text ≡ ts = ap tokens is_text ∙ tokens-print_spaced (closed g.spaced) (gaps_push g.spaced ([], Token.end_array) g.gaps tt) (subst ArePrintable (sym are) (printable g.runs g.forms)) ∙ are in (
      ap operation_of_json (read_back (array_of g.runs) ts text (written g.runs g.forms) same (shallow g.runs)) ∙ g.made,
      is_utf8-from_IsUtf8 text (subst IsUtf8 (sym (g.here ∙ ap (λ l. print_spaced false g.spaced ++ l) e)) (IsUtf8-append _ _ g.utf8 (IsUtf8-are_ascii (93 ∷ []) refl))),
    )

-- a string that stands for itself
pub string_text :
    (bytes below behind text : List ℕ) (first : ℕ) → bytes ≡ first ∷ below → first ≡ 34 → below ≡ escape text ++ 34 ∷ behind → IsUtf8 text
    → (bytes ≡ compact_text (data_of (Add (chars text))) ++ behind) × (HasForm (Add (chars text)))
string_text bytes below behind text first e is next u =
    let same : chars text ≡ u.0 = ap chars (sym u.1.1) ∙ chars-encodes u.0 u.1.0 in
    let again : encode_utf8_all (chars text) ≡ text = ap encode_utf8_all same ∙ u.1.1 in (
      e ∙ ap (λ b. b ∷ below) is ∙ ap (λ l. 34 ∷ l) (next ∙ sym (append_assoc (escape text) (34 ∷ []) behind)) ∙ ap (λ s. quoted s ++ behind) (sym again),
      ap all_scalars same ∙ u.1.0,
    )

-- one more space
pub gap_more : (bytes gap below : List ℕ) → IsGap gap → bytes ≡ gap ++ 32 ∷ below → (g : List ℕ) × IsGap g × (bytes ≡ g ++ below)
gap_more bytes gap below h e = (gap ++ 32 ∷ [], gap_push gap h, e ∙ sym (append_assoc gap (32 ∷ []) below))
  where
    gap_push : (g : List ℕ) → IsGap g → IsGap (g ++ 32 ∷ [])
    gap_push [] h = (inl refl, tt)
    gap_push (x ∷ g) h = (h.0, gap_push g h.1)

-- the digits of a number from the first on
pub count_first : (first : ℕ) (rest : List ℕ) → 49 ≤ first → first ≤ 57 → first ∷ rest ≡ decimal (first - 48) ++ rest
count_first first rest low high =
    let same : 48 + (first - 48) ≡ first = omega arith in
    sym (ap (λ ds. ds ++ rest) (decimal_digit (first - 48) (omega arith)) ∙ ap (λ d. d ∷ rest) same)

pub count_more :
    (bytes below : List ℕ) (count digit : ℕ) → 0 < count → count < 2 ^ 32 → 48 ≤ digit → digit ≤ 57 → bytes ≡ decimal count ++ digit ∷ below
    → bytes ≡ decimal (count * 10 + (digit - 48)) ++ below
count_more bytes below count digit some small low high e =
    let next : ℕ = count * 10 + (digit - 48) in
    let front : next / 10 ≡ count = omega arith in
    let last : 48 + next % 10 ≡ digit = omega arith in
    let step : decimal next ≡ decimal count ++ digit ∷ [] = decimal_step next (omega arith) (omega arith) ∙ (λ i. decimal (front i) ++ (last i ∷ [])) in
    e ∙ sym (ap (λ ds. ds ++ below) step ∙ append_assoc (decimal count) (digit ∷ []) below)

-- one more byte that stands for itself
pub plain_more :
    (bytes : List ℕ) (at : ℕ) → at < length bytes → 32 ≤ get_or bytes at 0 → (get_or bytes at 0 ≡ 34 → ⊥) → (get_or bytes at 0 ≡ 92 → ⊥)
    → escape (take at bytes) ≡ take at bytes → escape (take (at + 1) bytes) ≡ take (at + 1) bytes
plain_more bytes at within low quote backslash e =
    let byte = get_or bytes at 0 in
    let more = take_more bytes at 0 within in
    let one : escape (byte ∷ []) ≡ byte ∷ [] = append-nil (escape_byte byte) ∙ escape_byte_plain byte quote backslash low in
    ap escape more ∙ flat_map-append escape_byte (take at bytes) (byte ∷ []) ∙ ap (λ l. l ++ escape (byte ∷ [])) e ∙ ap (λ l. take at bytes ++ l) one ∙ sym more
