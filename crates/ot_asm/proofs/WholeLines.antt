-- Each line of a canonical text stands as it is, and the lines of the text are these.
use Rattle.std.proofs.Common.{◌≡◌, ◌≤◌, ◌==◌, ◌&&◌, not, ℕ, List, [], ◌∷◌, ◌++◌, map, filter, Bool, true, false, decimal, refl, ap, ◌∙◌, arith}
use Rattle.std.specs.Prelude.{codes, nat_lt}
use Rattle.std.specs.List.{AllByRecursion, All}
use Rattle.std.specs.Str.{is_utf8, IsUtf8, all_scalars, encode_utf8_all}
use Rattle.std.proofs.lemmas.Str.{IsUtf8-append, is_utf8-from_IsUtf8}
use Rattle.std.proofs.lemmas.List.Elements.{All-head, All-tail}
use Rattle.json.specs.Print.{quoted}
use Rattle.json.proofs.Printed.Utf8.{are_ascii, IsUtf8-are_ascii}
use Rattle.streams.specs.Lines.{lines_of, lacks}
use Rattle.streams.proofs.Ends.{lines_piece}
use Rattle.ot_operation.specs.Operation.{Operation, news}
use Rattle.ot_operation.specs.Run.{normal_runs}
use Rattle.ot_json.specs.Writing.{text_of_operation}
use Rattle.ot_isa.specs.Program.{Program, IsProgram, IsInstr, IsWithinLimit, HasScalars}
use Rattle.ot_isa.specs.declared.instruction.Instr.{Instr}
use Rattle.ot_isa.specs.declared.instruction.Instr.TheVariants.{Edit, Take, Deliver, Acknowledge, Read, Join, ReadServer}
use Rattle.ot_asm.specs.Words.{is_blank, trimmed, counts}
use Rattle.ot_asm.specs.Canonical.{numbered, instr_text, present_texts, start_texts, lines_text, canonical_lines}
use Rattle.ot_asm.proofs.Visible.{visible, solid, solid_end, kept_return, kept_blanks, no_end, decimal_visible, decimal_solid, decimal_text}
use Rattle.ot_asm.proofs.Printing.{quoted_solid, quoted_text, array_solid, array_text}
use Rattle.ot_asm.proofs.Formed.{op_formed}

-- a text that stands on a line of its own, with nothing to drop
pub record IsWholeLine (l : List ℕ) : Type 0 where
  pub one : lacks l ≡ true
  pub text : is_utf8 l ≡ true
  pub kept : trimmed l ≡ l
  pub counts_is : counts l ≡ true

lines_nil : lines_of [] ≡ []
unfolding lines_of
lines_nil = refl

pub lines_back : (ls : List (List ℕ)) → AllByRecursion IsWholeLine ls → lines_of (lines_text ls) ≡ ls
lines_back [] h = lines_nil
lines_back (l ∷ ls) h = lines_piece l (lines_text ls) h.0.one ∙ ap (λ t. l ∷ t) (lines_back ls h.1)

pub all_text : (ls : List (List ℕ)) → AllByRecursion IsWholeLine ls → AllByRecursion (λ l. is_utf8 l ≡ true) ls
all_text [] h = tt
all_text (l ∷ ls) h = (h.0.text, all_text ls h.1)

pub all_count : (ls : List (List ℕ)) → AllByRecursion IsWholeLine ls → filter counts (map trimmed ls) ≡ ls
all_count [] h = refl
all_count (l ∷ ls) h = rw (h.0.kept, h.0.counts_is) (ap (λ t. l ∷ t) (all_count ls h.1))

-- neither a blank nor a comment begins it
abbrev leads : List ℕ → Bool
leads [] = false
leads (b ∷ bs) = not (is_blank b) && not (b == 59)

first_byte : (b : ℕ) (bs : List ℕ) → leads (b ∷ bs) ≡ true → (is_blank b ≡ false) × ((b == 59) ≡ false)
first_byte b bs h = by (is_blank b) refl (b == 59) refl h
  where
    by : (t : Bool) → is_blank b ≡ t → (u : Bool) → (b == 59) ≡ u → (not t && not u) ≡ true → (is_blank b ≡ false) × ((b == 59) ≡ false)
    by true e u f g = absurd (cc g)
    by false e true f g = absurd (cc g)
    by false e false f g = (e, f)

whole_line : (l : List ℕ) → leads l ≡ true → solid l ≡ true → IsUtf8 l → IsWholeLine l
whole_line [] h s u = absurd (cc h)
whole_line (b ∷ bs) h s u =
    let p = first_byte b bs h in
    record {
      one = no_end (b ∷ bs) s;
      text = is_utf8-from_IsUtf8 (b ∷ bs) u;
      kept = rw (kept_return (b ∷ bs) s, kept_blanks (b ∷ bs) s, p.0) refl;
      counts_is = rw p.1 refl;
    }

leads_on : (w rest : List ℕ) → leads w ≡ true → leads (w ++ rest) ≡ true
leads_on [] rest h = absurd (cc h)
leads_on (b ∷ w) rest h = h

-- a keyword, a space and more
keyword_line : (w rest : List ℕ) → leads w ≡ true → visible w ≡ true → are_ascii w ≡ true → solid rest ≡ true → IsUtf8 rest → IsWholeLine (w ++ 32 ∷ rest)
keyword_line w rest h v a s u =
    whole_line (w ++ 32 ∷ rest) (leads_on w (32 ∷ rest) h)
    (solid_end w (32 ∷ rest) v (solid_end (32 ∷ []) rest refl s))
    (IsUtf8-append w (32 ∷ rest) (IsUtf8-are_ascii w a) (IsUtf8-append (32 ∷ []) rest (IsUtf8-are_ascii (32 ∷ []) refl) u))

number_line : (w : List ℕ) (n : ℕ) → leads w ≡ true → visible w ≡ true → are_ascii w ≡ true → n ≤ 64 → IsWholeLine (numbered w n)
number_line w n h v a l = keyword_line w (decimal n) h v a (decimal_solid n (omega (arith, l))) (decimal_text n (omega (arith, l)))

edit_line : (c : ℕ) (op : Operation ℕ) → c ≤ 64 → IsWithinLimit op → all_scalars (news op.image) ≡ true → IsWholeLine (instr_text (Edit c op))
edit_line c op l w h =
    let text = text_of_operation op in
    let formed = op_formed op w h in
    let solid_text : solid (32 ∷ text) ≡ true = solid_end (32 ∷ []) text refl (array_solid (normal_runs op) formed) in
    let utf8_text : IsUtf8 (32 ∷ text) = IsUtf8-append (32 ∷ []) text (IsUtf8-are_ascii (32 ∷ []) refl) (array_text (normal_runs op) formed) in
    keyword_line (codes "edit") (decimal c ++ 32 ∷ text) refl refl refl
    (solid_end (decimal c) (32 ∷ text) (decimal_visible c (omega (arith, l))) solid_text)
    (IsUtf8-append (decimal c) (32 ∷ text) (decimal_text c (omega (arith, l))) utf8_text)

instr_whole : (n : ℕ) (i : Instr) → n ≤ 64 → IsInstr n i → HasScalars i → IsWholeLine (instr_text i)
instr_whole n (Edit c op) l h s = edit_line c op (omega (arith, l, h.0)) h.1 s
instr_whole n (Take c) l h s = number_line (codes "take") c refl refl refl (omega (arith, l, h.0))
instr_whole n (Deliver c) l h s = number_line (codes "deliver") c refl refl refl (omega (arith, l, h.0))
instr_whole n (Acknowledge c) l h s = number_line (codes "ack") c refl refl refl (omega (arith, l, h.0))
instr_whole n (Read c) l h s = number_line (codes "read") c refl refl refl (omega (arith, l, h.0))
instr_whole n (Join c) l h s = number_line (codes "join") c refl refl refl (omega (arith, l, h.0))
instr_whole n ReadServer l h s = whole_line (codes "read-server") refl refl (IsUtf8-are_ascii (codes "read-server") refl)

instrs_whole : (n : ℕ) (is : List Instr) → n ≤ 64 → All (IsInstr n) is → All HasScalars is → AllByRecursion IsWholeLine (map instr_text is)
instrs_whole n [] l h s = tt
instrs_whole n (i ∷ is) l h s = (
  instr_whole n i l (All-head (IsInstr n) i is h) (All-head HasScalars i is s),
  instrs_whole n is l (All-tail (IsInstr n) i is h) (All-tail HasScalars i is s),
)

all_both : (xs ys : List (List ℕ)) → AllByRecursion IsWholeLine xs → AllByRecursion IsWholeLine ys → AllByRecursion IsWholeLine (xs ++ ys)
all_both [] ys h g = g
all_both (x ∷ xs) ys h g = (h.0, all_both xs ys h.1 g)

present_whole : (s : Program) → IsProgram s → AllByRecursion IsWholeLine (present_texts s)
present_whole s p = by (nat_lt s.present s.clients) refl
  where
    by : (b : Bool) → nat_lt s.present s.clients ≡ b → AllByRecursion IsWholeLine (present_texts s)
    by true e = rw e (number_line (codes "present") s.present refl refl refl (omega (arith, p.present_to, p.clients_to)), tt)
    by false e = rw e tt

start_whole : (start : List ℕ) → all_scalars start ≡ true → AllByRecursion IsWholeLine (start_texts start)
start_whole [] h = tt
start_whole (c ∷ cs) h = (keyword_line (codes "start") (quoted (encode_utf8_all (c ∷ cs))) refl refl refl (quoted_solid (encode_utf8_all (c ∷ cs))) (quoted_text (c ∷ cs) h), tt)

pub canonical_whole : (s : Program) → IsProgram s → AllByRecursion IsWholeLine (canonical_lines s)
canonical_whole s p = (
  number_line (codes "clients") s.clients refl refl refl p.clients_to,
  all_both (present_texts s ++ start_texts s.start) (map instr_text s.instrs)
      (all_both (present_texts s) (start_texts s.start) (present_whole s p) (start_whole s.start p.start_scalars))
      (instrs_whole s.clients s.instrs p.clients_to p.instrs_are p.instrs_scalars),
)
