-- Sessions that are written one after the other, and counted.
use Rattle.std.proofs.Common.{◌≡◌, ◌+◌, ◌-◌, ◌^◌, ℕ, suc, List, [], ◌∷◌, ◌++◌, ◌⊎◌, Bool, true, Option, Some, Result, Ok, Err, inl, inr, codes, length, map, min, slice_get, take, drop, refl, sym, ap, ap₂, ◌∙◌, subst, arith, append_assoc}
use Rattle.std.specs.Prelude.{string_bytes, OnErr}
use Rattle.std.specs.List.{flat_map, range_with_len}
use Rattle.std.proofs.lemmas.List.{append-nil, map-append, take-append-drop}
use Rattle.std.proofs.lemmas.Grind.{flat_map-append}
use Rattle.std.proofs.lemmas.List.FromFn.{map-range_with_len_more}
use Rattle.std.specs.Io.KnownBytes.{Appends}
use Rattle.std.proofs.KnownBytes.{Appends-nil, Appends-trans, Keeps-refl}
use Rattle.streams.specs.Streams.{Writes, WritesPart}
use Rattle.streams.specs.Outcomes.{memory_fault}
use Rattle.streams.proofs.Parts.{part_after, part_of_front, whole_part}
use Rattle.ot_isa.specs.declared.instruction.Instr.{Instr}
use Rattle.ot_isa.specs.declared.instruction.Instr.TheVariants.{Read, ReadServer}
use Rattle.ot_model.proofs.States.{take_entry}
use Rattle.ot_asm.specs.Canonical.{head_lines, instr_text, lines_text}
use Rattle.ot_every.specs.Listing.{Space}
use Rattle.ot_every.specs.Parts.{PartView, sessions_in}
use Rattle.ot_every.specs.Printed.{reads, schedule_of}
use Rattle.ot_every.specs.Walking.{Visits, VisitsPart}
use Rattle.ot_commands.specs.declared.listing.Counter.{Counter}
use Rattle.ot_commands.specs.declared.listing.Printer.{Printer}
use Rattle.ot_commands.specs.Listed.{next_count, piece, session_text, sessions_text, IsPrinter, Lists, Prints, PrintsPart, WritesFirst}

-- ---- the text of a session

pub lines_append : (xs ys : List (List ℕ)) → lines_text (xs ++ ys) ≡ lines_text xs ++ lines_text ys
lines_append [] ys = refl
lines_append (x ∷ xs) ys = ap (λ (t : List ℕ). x ++ 10 ∷ t) (lines_append xs ys) ∙ sym (append_assoc x (10 ∷ lines_text xs) (lines_text ys))

-- the line of one more instruction
pub line_more : (is : List Instr) (k : ℕ) (i : Instr) → slice_get is k ≡ Some i
    → lines_text (map instr_text (take (k + 1) is)) ≡ lines_text (map instr_text (take k is)) ++ (instr_text i ++ 10 ∷ [])
line_more is k i at =
    let more : k + 1 ≡ suc k = omega arith in
    ap (λ (n : ℕ). lines_text (map instr_text (take n is))) more
    ∙ ap (λ (js : List Instr). lines_text (map instr_text js)) (take_entry is k i at)
    ∙ ap lines_text (map-append instr_text (take k is) (i ∷ []))
    ∙ lines_append (map instr_text (take k is)) (instr_text i ∷ [])

-- the lines of one more read
pub read_more : (k : ℕ) → lines_text (map instr_text (map Read (range_with_len 0 (k + 1)))) ≡ lines_text (map instr_text (map Read (range_with_len 0 k))) ++ (instr_text (Read k) ++ 10 ∷ [])
read_more k =
    ap (λ (is : List Instr). lines_text (map instr_text is)) (map-range_with_len_more Read 0 k k (omega arith))
    ∙ ap lines_text (map-append instr_text (map Read (range_with_len 0 k)) (Read k ∷ []))
    ∙ lines_append (map instr_text (map Read (range_with_len 0 k))) (instr_text (Read k) ∷ [])

-- those of all reads
pub reads_lines : (clients : ℕ) → lines_text (map instr_text (reads clients)) ≡ lines_text (map instr_text (map Read (range_with_len 0 clients))) ++ (instr_text ReadServer ++ 10 ∷ [])
reads_lines clients =
    ap lines_text (map-append instr_text (map Read (range_with_len 0 clients)) (ReadServer ∷ []))
    ∙ lines_append (map instr_text (map Read (range_with_len 0 clients))) (instr_text ReadServer ∷ [])

-- lines, and then those of two lists of instructions
lines_of_both : (lines : List (List ℕ)) (is js : List Instr)
    → lines_text (lines ++ map instr_text (is ++ js)) ≡ lines_text lines ++ (lines_text (map instr_text is) ++ lines_text (map instr_text js))
lines_of_both lines is js =
    lines_append lines (map instr_text (is ++ js))
    ∙ ap (λ (t : List ℕ). lines_text lines ++ t) (ap lines_text (map-append instr_text is js) ∙ lines_append (map instr_text is) (map instr_text js))

regrouped : (a b c d : List ℕ) → (a ++ (b ++ c)) ++ d ≡ a ++ (b ++ (c ++ d))
regrouped a b c d = append_assoc a (b ++ c) d ∙ ap (λ (t : List ℕ). a ++ t) (append_assoc b c d)

-- what the printer makes of a session is its text
piece_is : (space : Space) (p : Printer) (is : List Instr) → IsPrinter space p → piece p is ≡ session_text space is
piece_is space p is has =
    let head : List (List ℕ) = head_lines (schedule_of space is) in
    let lines : List ℕ = lines_text (map instr_text is) in
    let after : List ℕ = lines_text (map instr_text (reads space.clients)) in
    let mark : List ℕ = codes "%%" ++ 10 ∷ [] in
    let front : string_bytes p.head ≡ lines_text head = has.head ∙ lines_append head [] ∙ append-nil (lines_text head) in
    ap₂ (λ (a b : List ℕ). a ++ (lines ++ b)) front has.foot
    ∙ sym (ap (λ (t : List ℕ). t ++ mark) (lines_of_both head is (reads space.clients)) ∙ regrouped (lines_text head) lines after mark)

pieces_are : (space : Space) (p : Printer) (sessions : List (List Instr)) → IsPrinter space p → flat_map (piece p) sessions ≡ sessions_text space sessions
pieces_are space p [] has = refl
pieces_are space p (is ∷ sessions) has = ap₂ (λ (a b : List ℕ). a ++ b) (piece_is space p is has) (pieces_are space p sessions has)

-- ---- one after the other

module _ {O : Type 0} (contents : O → Option (List ℕ)) (failed : O → Bool) where
  abbrev pub prints : Printer → O → List Instr → Printer → O → Type 0
  prints p o is q r = Prints p is q (contents o) (contents r)

  abbrev pub prints_part : Printer → O → List Instr → Printer → O → Type 0
  prints_part p o is q r = PrintsPart p is (failed r) (contents o) (contents r)

  printed : (p q : Printer) (o r : O) (sessions : List (List Instr)) → Visits prints p o sessions q r → Appends (contents o) (contents r) (flat_map (piece p) sessions)
  printed p q o r [] (same, is) = subst (λ (z : O). Appends (contents o) (contents z) []) is (Appends-nil (contents o))
  printed p q o r (is ∷ sessions) (u, m, (same, written), rest) =
      let back : Appends (contents m) (contents r) (flat_map (piece p) sessions) = subst (λ (z : Printer). Appends (contents m) (contents r) (flat_map (piece z) sessions)) same (printed u q m r sessions rest) in
      Appends-trans (contents o) (contents m) (contents r) (piece p is) (flat_map (piece p) sessions) written back

  -- the first of them whole, or a part where a write failed
  abbrev WritesSome : Printer → O → List (List Instr) → O → Type 0
  WritesSome p o sessions r =
      ((n : ℕ) × Appends (contents o) (contents r) (flat_map (piece p) (take n sessions)))
      ⊎ ((failed r ≡ true) × WritesPart (contents o) (contents r) (flat_map (piece p) sessions))

  none_written : (p : Printer) (o r : O) (sessions : List (List Instr)) → Appends (contents o) (contents r) [] → WritesSome p o sessions r
  none_written p o r sessions nothing = inl (0, nothing)

  same_written : (p : Printer) (o r : O) (sessions : List (List Instr)) → o ≡ r → WritesSome p o sessions r
  same_written p o r sessions is = none_written p o r sessions (subst (λ (z : O). Appends (contents o) (contents z) []) is (Appends-nil (contents o)))

  one_behind : (p : Printer) (o m r : O) (is : List Instr) (sessions : List (List Instr)) → Appends (contents o) (contents m) (piece p is) → WritesSome p m sessions r → WritesSome p o (is ∷ sessions) r
  one_behind p o m r is sessions written (inl (n, back)) =
      inl (suc n, Appends-trans (contents o) (contents m) (contents r) (piece p is) (flat_map (piece p) (take n sessions)) written back)
  one_behind p o m r is sessions written (inr (broken, back)) =
      inr (broken, part_after (contents o) (contents m) (contents r) (piece p is) (flat_map (piece p) sessions) written back)

  printed_part : (p q : Printer) (o r : O) (sessions : List (List Instr)) → VisitsPart prints prints_part p o sessions q r → WritesSome p o sessions r
  printed_part p q o r [] (same, is) = same_written p o r [] is
  printed_part p q o r (is ∷ sessions) (inl (same, none)) = same_written p o r (is ∷ sessions) none
  printed_part p q o r (is ∷ sessions) (inr (inl (inl nothing))) = none_written p o r (is ∷ sessions) nothing
  printed_part p q o r (is ∷ sessions) (inr (inl (inr (broken, part)))) = inr (broken, part_of_front (contents o) (contents r) (piece p is) (flat_map (piece p) sessions) part)
  printed_part p q o r (is ∷ sessions) (inr (inr (u, m, (same, written), rest))) =
      one_behind p o m r is sessions written (subst (λ (z : Printer). WritesSome z m sessions r) same (printed_part u q m r sessions rest))

  -- all sessions of a part
  pub listed : (space : Space) (part : PartView) (p q : Printer) (o r : O) → IsPrinter space p → Visits prints p o (sessions_in space part) q r
      → Appends (contents o) (contents r) (sessions_text space (sessions_in space part))
  listed space part p q o r has visits =
      subst (Appends (contents o) (contents r)) (pieces_are space p (sessions_in space part) has) (printed p q o r (sessions_in space part) visits)

  first_written : (space : Space) (part : PartView) (p : Printer) (o r : O) → IsPrinter space p → WritesSome p o (sessions_in space part) r → WritesFirst space part (failed r) (contents o) (contents r)
  first_written space part p o r has (inl (n, written)) =
      inl (n, subst (Appends (contents o) (contents r)) (pieces_are space p (take n (sessions_in space part)) has) written)
  first_written space part p o r has (inr (broken, written)) =
      inr (broken, subst (WritesPart (contents o) (contents r)) (pieces_are space p (sessions_in space part) has) written)

  pub listed_part : (space : Space) (part : PartView) (p q : Printer) (o r : O) → IsPrinter space p → VisitsPart prints prints_part p o (sessions_in space part) q r
      → WritesFirst space part (failed r) (contents o) (contents r)
  listed_part space part p q o r has visits = first_written space part p o r has (printed_part p q o r (sessions_in space part) visits)

  pub lists_nothing : (space : Space) (part : PartView) (o : O) → WritesFirst space part (failed o) (contents o) (contents o)
  lists_nothing space part o = inl (0, Appends-nil (contents o))

-- an error that leaves this whatever it is
pub always_err : {T E P : Type 0} (r : Result T E) → P → OnErr r P
always_err (Ok x) p = tt
always_err (Err e) p = p

-- ---- their number

abbrev pub counts : {O : Type 0} → Counter → O → List Instr → Counter → O → Type 0
counts v o is w q = w.count ≡ next_count v.count

one_more : (most n k : ℕ) → min (min (n + 1) most + k) most ≡ min (n + suc k) most
one_more most n k = omega arith

small_next : (most n u : ℕ) → u ≡ min (n + 1) most → u ≡ min u most
small_next most n u is = omega (arith, is)

counted_from : {O : Type 0} (v w : Counter) (o q : O) (sessions : List (List Instr)) → v.count ≡ min v.count (2 ^ 64 - 1) → Visits (counts {O = O}) v o sessions w q
    → w.count ≡ min (v.count + length sessions) (2 ^ 64 - 1)
counted_from v w o q [] small (same, is) = ap (λ (z : Counter). z.count) (sym same) ∙ small ∙ ap (λ (n : ℕ). min n (2 ^ 64 - 1)) (omega arith)
counted_from v w o q (is ∷ sessions) small (u, m, next, rest) =
    counted_from u w m q sessions (small_next (2 ^ 64 - 1) v.count u.count next) rest
    ∙ ap (λ (n : ℕ). min (n + length sessions) (2 ^ 64 - 1)) next
    ∙ one_more (2 ^ 64 - 1) v.count (length sessions)

none_counted : (most n : ℕ) → n ≡ 0 → n ≡ min n most
none_counted most n none = omega (arith, none)

from_none : (n k : ℕ) → n ≡ 0 → n + k ≡ k
from_none n k none = omega (arith, none)

pub counted : {O : Type 0} (v w : Counter) (o q : O) (sessions : List (List Instr)) → v.count ≡ 0 → Visits (counts {O = O}) v o sessions w q
    → w.count ≡ min (length sessions) (2 ^ 64 - 1)
counted v w o q sessions none visits =
    counted_from v w o q sessions (none_counted (2 ^ 64 - 1) v.count none) visits ∙ ap (λ (n : ℕ). min n (2 ^ 64 - 1)) (from_none v.count (length sessions) none)

-- ---- what is left on the streams

-- the first sessions are a first part of all
first_part : (space : Space) (part : PartView) (broken : Bool) (old new : Option (List ℕ)) → WritesFirst space part broken old new → WritesPart old new (sessions_text space (sessions_in space part))
first_part space part broken old new (inr (failed, written)) = written
first_part space part broken old new (inl (n, written)) =
    let all = sessions_in space part in
    let both : sessions_text space (take n all) ++ sessions_text space (drop n all) ≡ sessions_text space all =
    sym (flat_map-append (session_text space) (take n all) (drop n all)) ∙ ap (sessions_text space) (take-append-drop n all) in
    subst (WritesPart old new) both (part_of_front old new (sessions_text space (take n all)) (sessions_text space (drop n all)) (whole_part old new (sessions_text space (take n all)) written))

module _ (space : Space) (part : PartView) (output output' faults faults' : Option (List ℕ)) (broken faults_broken : Bool) where
  pub lists_all : Appends output output' (sessions_text space (sessions_in space part)) → Lists space part 0 (record { output = output; output' = output'; broken = broken; faults = faults; faults' = faults; faults_broken = faults_broken })
  lists_all written = inl (inl (refl, written), Keeps-refl faults)

  pub lists_broken : broken ≡ true → WritesFirst space part broken output output' → Lists space part 1 (record { output = output; output' = output'; broken = broken; faults = faults; faults' = faults; faults_broken = faults_broken })
  lists_broken failed written = inl (inr (refl, first_part space part broken output output' written, failed), Keeps-refl faults)

  pub lists_short : WritesFirst space part broken output output' → Writes faults faults' faults_broken memory_fault → Lists space part 1 (record { output = output; output' = output'; broken = broken; faults = faults; faults' = faults'; faults_broken = faults_broken })
  lists_short written told = inr (refl, written, told)
