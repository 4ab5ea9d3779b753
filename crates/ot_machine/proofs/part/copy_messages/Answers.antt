use Rattle.std.proofs.Common.{◌∙◌, ◌++◌, ◌∷◌, [], ap, map, sym}
use Rattle.ot_machine.specs.Parts.{head_in}
use Rattle.ot_machine.proofs.Parting.{copied_next}
use Rattle.ot_machine.proofs.part.copy_messages.Goals as goal

pub loop-place-preserved : goal.loop-place-preserved
loop-place-preserved c =
    ap (map head_in) c.push.ensures.items
    ∙ ap (λ ms. map head_in (ms ++ c.in_ok-copy.copy ∷ [])) c.in_ok-reserve_one.ensures.items
    ∙ copied_next c.args.messages.now.items c.loop-place.copies.items c.loop-place.place c.in-Some.message.now c.in_ok-copy.copy c.loop-place.invariant (sym c.in-Some.ensures) c.in_ok-copy.ensures
