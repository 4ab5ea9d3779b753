-- One more line of a text.
use Rattle.std.proofs.Common.{◌≡◌, ◌+◌, ℕ, zero, suc, List, [], ◌∷◌, ◌++◌, map, take, Some, slice_get, refl, sym, ap, ◌∙◌, append_assoc, add-one}
use Rattle.ot_isa.specs.Program.{Program}
use Rattle.ot_isa.specs.declared.instruction.Instr.{Instr}
use Rattle.ot_asm.specs.Canonical.{instr_text, head_lines, lines_text}

pub lines_push : (lines : List (List ℕ)) (l : List ℕ) → lines_text (lines ++ l ∷ []) ≡ lines_text lines ++ (l ++ 10 ∷ [])
lines_push [] l = refl
lines_push (m ∷ lines) l = ap (λ t. m ++ 10 ∷ t) (lines_push lines l) ∙ sym (append_assoc m (10 ∷ lines_text lines) (l ++ 10 ∷ []))

more : (xs : List Instr) (i : ℕ) (x : Instr) → slice_get xs i ≡ Some x → map instr_text (take (suc i) xs) ≡ map instr_text (take i xs) ++ instr_text x ∷ []
more [] i x e = absurd (cc e)
more (y ∷ xs) zero x e = let same : y ≡ x = cc in rw same refl
more (y ∷ xs) (suc i) x e = ap (λ t. instr_text y ∷ t) (more xs i x e)

pub one_more : (s : Program) (i : ℕ) (x : Instr) → slice_get s.instrs i ≡ Some x → lines_text (head_lines s ++ map instr_text (take (i + 1) s.instrs)) ≡ lines_text (head_lines s ++ map instr_text (take i s.instrs)) ++ (instr_text x ++ 10 ∷ [])
one_more s i x e =
    let next : map instr_text (take (i + 1) s.instrs) ≡ map instr_text (take i s.instrs) ++ instr_text x ∷ [] = rw add-one (more s.instrs i x e) in
    ap (λ t. lines_text (head_lines s ++ t)) next
    ∙ ap lines_text (sym (append_assoc (head_lines s) (map instr_text (take i s.instrs)) (instr_text x ∷ [])))
    ∙ lines_push (head_lines s ++ map instr_text (take i s.instrs)) (instr_text x)
