use Rattle.std.proofs.Common.{◌≡◌, ◌<◌, length, drop, rules, refl, sym, ap, ◌∙◌, Some}
use Rattle.std.specs.Prelude.{slice_get}
use Rattle.std.proofs.lemmas.Option.{slice_get_read}
use Rattle.ot_board.proofs.Tiles.{front_more, behind_at}
use Rattle.ot_board.proofs.auditing.is_there.Goals as goal

pub loop-place-preserved : goal.loop-place-preserved
loop-place-preserved c =
    let first = c.args.receipt.now.first in
    let place = c.loop-place.place in
    let within : place < length c.args.receipt.now.steps.items = search rules in
    let same = c.if-not-equals.ensures.0 (search rules) in
    let there : slice_get c.args.receipt.now.steps.items place ≡ Some c.index.result.now =
    slice_get_read c.args.receipt.now.steps.items (length c.args.receipt.now.steps.items) place c.index.result.now refl within c.index.ensures in
    front_more (drop first c.args.log.now.instrs) c.args.receipt.now.steps.items place c.in-Some.instr.now c.loop-place.invariant
    (behind_at c.args.log.now.instrs first place ∙ c.in-Some.ensures.some) (there ∙ ap Some (sym same))
