use Rattle.std.proofs.Common.{◌≡◌, ◌++◌, ◌∷◌, [], List, ℕ, arith, ap, sym, subst, ◌∙◌, map}
use Rattle.std.specs.Prelude.{string_bytes}
use Rattle.std.proofs.lemmas.List.{take_all}
use Rattle.ot_asm.specs.Spelling.{Spells}
use Rattle.ot_asm.specs.Canonical.{instr_text, head_lines, lines_text, canonical}
use Rattle.ot_asm.proofs.CanonicalSpelled.{canonical_spelled}
use Rattle.ot_asm.proofs.Listed.{one_more}
use Rattle.ot_asm.proofs.disassembling.disassemble.Goals.{in-Some+in_ok-push_instr, in_default}
use Rattle.ot_asm.proofs.disassembling.disassemble.Goals as goal

pub loop-place-preserved : goal.loop-place-preserved
loop-place-preserved c = elim c.match-get.branch [
  | in-Some+in_ok-push_instr w ↦
      ap string_bytes w.text-is
      ∙ w.in_ok-push_instr.ensures
      ∙ ap (λ (t : List ℕ). t ++ (instr_text w.in-Some.instr.now ++ 10 ∷ [])) c.loop-place.invariant
      ∙ sym (one_more c.args.schedule.now c.loop-place.place w.in-Some.instr.now w.in-Some.ensures.some)
  | in_default w ↦ absurd (omega (arith, c.get.ensures.none w.in_default.is))
]

pub returns-clause-spells : goal.returns-clause-spells
returns-clause-spells c =
    let s = c.args.schedule.now in
    let whole : string_bytes c.loop-place.text ≡ canonical s = c.loop-place.invariant ∙ ap (λ is. lines_text (head_lines s ++ map instr_text is)) (take_all c.loop-place.place s.instrs (omega (arith, c.loop-place-test.false))) in
    subst (λ (t : List ℕ). Spells t s) (sym whole) (canonical_spelled s c.head_text.ensures.limits)
