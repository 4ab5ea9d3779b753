-- The canonical text of a schedule spells it.
use Rattle.std.proofs.Common.{◌≡◌, ◌≤◌, inl, inr, ℕ, List, [], ◌∷◌, ◌++◌, map, filter, Bool, true, false, decimal, refl, sym, subst, ap, ◌∙◌, arith}
use Rattle.std.specs.Prelude.{codes, nat_lt}
use Rattle.std.specs.List.{AllByRecursion, All}
use Rattle.std.specs.Str.{is_utf8, all_scalars}
use Rattle.std.proofs.lemmas.Bool.{ltb-false}
use Rattle.std.proofs.lemmas.Fmt.{decimal_is_IsNumeral}
use Rattle.std.proofs.lemmas.List.Elements.{All-head, All-tail}
use Rattle.streams.specs.Lines.{lines_of}
use Rattle.ot_operation.specs.Operation.{Operation, news}
use Rattle.ot_json.specs.Writing.{text_of_operation}
use Rattle.ot_isa.specs.Program.{Program, IsProgram, IsInstr, IsWithinLimit, HasScalars}
use Rattle.ot_isa.specs.declared.instruction.Instr.{Instr}
use Rattle.ot_isa.specs.declared.instruction.Instr.TheVariants.{Edit, Take, Deliver, Acknowledge, Read, Join, ReadServer}
use Rattle.ot_asm.specs.Words.{trimmed, counts, first_word, after_word}
use Rattle.ot_asm.specs.Numbers.{number}
use Rattle.ot_asm.specs.Stepping.{operation_of_rest}
use Rattle.ot_asm.specs.Spelling.{SpellsInstr, SpellsInstrs, SpellsStart, SpellsPresent, SpellsLines, counted}
use Rattle.ot_asm.specs.Canonical.{instr_text, present_texts, start_texts, canonical_lines, canonical}
use Rattle.ot_asm.specs.Laws.{CanonicalSpells}
use Rattle.ot_asm.specs.declared.keyword.Keyword.TheVariants as word
use Rattle.ot_asm.proofs.Numbered.{no_blank, word_first, word_after, skip_more, number_word, number_back, says_number}
use Rattle.ot_asm.proofs.Formed.{op_back, start_back}
use Rattle.ot_asm.proofs.WholeLines.{lines_back, all_text, all_count, canonical_whole}

edit_spelled : (c : ℕ) (op : Operation ℕ) → c ≤ 64 → IsWithinLimit op → all_scalars (news op.image) ≡ true → SpellsInstr (instr_text (Edit c op)) (Edit c op)
edit_spelled c op l w h =
    let text = text_of_operation op in
    let line = instr_text (Edit c op) in
    let plain : no_blank (decimal c) ≡ true = number_word c l in
    let rest : after_word line ≡ decimal c ++ 32 ∷ text = skip_more (decimal c) (32 ∷ text) plain (decimal_is_IsNumeral c (omega (arith, l))).0.0 in
    let last : after_word (after_word line) ≡ text = ap after_word rest ∙ word_after (decimal c) text plain in
    ((refl, ap (λ t. number (first_word t)) rest ∙ ap number (word_first (decimal c) text plain) ∙ number_back c l, refl), ap operation_of_rest last ∙ op_back op w h)

instr_spelled : (n : ℕ) (i : Instr) → n ≤ 64 → IsInstr n i → HasScalars i → SpellsInstr (instr_text i) i
instr_spelled n (Edit c op) l h s = edit_spelled c op (omega (arith, l, h.0)) h.1 s
instr_spelled n (Take c) l h s = says_number (codes "take") word.Take c refl refl (omega (arith, l, h.0))
instr_spelled n (Deliver c) l h s = says_number (codes "deliver") word.Deliver c refl refl (omega (arith, l, h.0))
instr_spelled n (Acknowledge c) l h s = says_number (codes "ack") word.Acknowledge c refl refl (omega (arith, l, h.0))
instr_spelled n (Read c) l h s = says_number (codes "read") word.Read c refl refl (omega (arith, l, h.0))
instr_spelled n (Join c) l h s = says_number (codes "join") word.Join c refl refl (omega (arith, l, h.0))
instr_spelled n ReadServer l h s = (refl, refl)

instrs_spelled : (n : ℕ) (is : List Instr) → n ≤ 64 → All (IsInstr n) is → All HasScalars is → SpellsInstrs (map instr_text is) is
instrs_spelled n [] l h s = tt
instrs_spelled n (i ∷ is) l h s = (
  instr_spelled n i l (All-head (IsInstr n) i is h) (All-head HasScalars i is s),
  instrs_spelled n is l (All-tail (IsInstr n) i is h) (All-tail HasScalars i is s),
)

none_left : (is : List Instr) → SpellsInstrs [] is → is ≡ []
none_left [] h = refl
none_left (i ∷ is) h = absurd h

no_start : (lines : List (List ℕ)) (is : List Instr) → SpellsInstrs lines is → SpellsStart lines [] is
no_start [] is h = (refl, none_left is h)
no_start (l ∷ ls) is h = inr (refl, h)

start_spelled : (start : List ℕ) (lines : List (List ℕ)) (is : List Instr) → all_scalars start ≡ true → SpellsInstrs lines is → SpellsStart (start_texts start ++ lines) start is
start_spelled [] lines is s h = no_start lines is h
start_spelled (c ∷ cs) lines is s h = inl (refl, start_back (c ∷ cs) s, h)

no_present : (lines : List (List ℕ)) (s : Program) → s.present ≡ s.clients → SpellsStart lines s.start s.instrs → SpellsPresent lines s
no_present [] s e h = (e, h)
no_present (l ∷ ls) s e h = inr (e, h)

present_spelled : (s : Program) (lines : List (List ℕ)) → IsProgram s → SpellsInstrs lines s.instrs → SpellsPresent ((present_texts s ++ start_texts s.start) ++ lines) s
present_spelled s lines p h = by (nat_lt s.present s.clients) refl
  where
    below : SpellsStart (start_texts s.start ++ lines) s.start s.instrs
    below = start_spelled s.start lines s.instrs p.start_scalars h

    by : (b : Bool) → nat_lt s.present s.clients ≡ b → SpellsPresent ((present_texts s ++ start_texts s.start) ++ lines) s
    by true e = rw e (inl (says_number (codes "present") word.Present s.present refl refl (omega (arith, p.present_to, p.clients_to)), below))
    by false e =
        let same : s.present ≡ s.clients = omega (arith, ltb-false s.present s.clients e, p.present_to) in
        rw e (no_present (start_texts s.start ++ lines) s same below)

lines_spelled : (s : Program) → IsProgram s → SpellsLines (canonical_lines s) s
lines_spelled s p = (
  says_number (codes "clients") word.Clients s.clients refl refl p.clients_to,
  present_spelled s (map instr_text s.instrs) p (instrs_spelled s.clients s.instrs p.clients_to p.instrs_are p.instrs_scalars),
)

pub canonical_spelled : CanonicalSpells
canonical_spelled s p =
    let ls = canonical_lines s in
    let whole = canonical_whole s p in
    let same : lines_of (canonical s) ≡ ls = lines_back ls whole in
    let count : counted (canonical s) ≡ ls = ap (λ t. filter counts (map trimmed t)) same ∙ all_count ls whole in
    (subst (λ (x : List (List ℕ)). AllByRecursion (λ l. is_utf8 l ≡ true) x) (sym same) (all_text ls whole), subst (λ (x : List (List ℕ)). SpellsLines x s) (sym count) (lines_spelled s p), p)
