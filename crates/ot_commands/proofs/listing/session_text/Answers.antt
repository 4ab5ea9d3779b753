use Rattle.std.proofs.Common.{◌≡◌, ◌++◌, ◌∷◌, [], ap, ap₂, sym, ◌∙◌, List, ℕ, Some, length, map, take, refl, arith}
use Rattle.std.specs.Prelude.{slice_get, string_bytes}
use Rattle.std.proofs.lemmas.List.{append-nil, append_assoc, take_all}
use Rattle.std.proofs.lemmas.Option.{slice_get_read}
use Rattle.ot_isa.specs.declared.instruction.Instr.{Instr}
use Rattle.ot_asm.specs.Canonical.{instr_text, lines_text}
use Rattle.ot_commands.proofs.ListedSessions.{line_more}
use Rattle.ot_commands.proofs.listing.session_text.Goals as goal

pub loop-place-init : goal.loop-place-init
loop-place-init c = c.in_ok-text.ensures.ok ∙ c.as_str.ensures.value ∙ sym (append-nil (string_bytes c.args.printer.now.head))

pub loop-place-preserved : goal.loop-place-preserved
loop-place-preserved c =
    let session = c.args.session.now in
    let front = string_bytes c.args.printer.now.head in
    let instr = c.index-session-place.result in
    let at : slice_get session c.loop-place.place ≡ Some instr = slice_get_read session (length session) c.loop-place.place instr refl (omega (arith, c.loop-place-test.true)) c.index-session-place.is in
    c.in_ok-push_instr.ensures
    ∙ ap (λ (t : List ℕ). t ++ (instr_text instr ++ 10 ∷ [])) c.loop-place.invariant
    ∙ append_assoc front (lines_text (map instr_text (take c.loop-place.place session))) (instr_text instr ++ 10 ∷ [])
    ∙ ap (λ (t : List ℕ). front ++ t) (sym (line_more session c.loop-place.place instr at))

pub returns : goal.returns
returns c =
    let session = c.args.session.now in
    let front = string_bytes c.args.printer.now.head in
    let foot = string_bytes c.args.printer.now.foot in
    c.in_ok-push_str.ensures.bytes
    ∙ ap₂ (λ (a b : List ℕ). a ++ b) (c.loop-place.invariant ∙ ap (λ (is : List Instr). front ++ lines_text (map instr_text is)) (take_all c.loop-place.place session (omega (arith, c.loop-place-test.false)))) c.as_str-2.ensures.value
    ∙ append_assoc front (lines_text (map instr_text session)) foot
