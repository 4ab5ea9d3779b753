use Rattle.std.proofs.Common.{length, ap, arith, refl, ◌∙◌}
use Rattle.std.proofs.lemmas.Result.{on_ok_weaker}
use Rattle.ot_list.specs.Leaves.{concatenated}
use Rattle.ot_operation.proofs.ApplyLaws.{length-apply}
use Rattle.ot_text.proofs.document.change_list.Goals as goal

pub returns-then-branch-clause-size : goal.returns-then-branch-clause-size
returns-then-branch-clause-size g c =
    ap length (c.in_ok-change_in_place.ensures.made (rw c.if-branch.true refl))
    ∙ length-apply c.args.op.now (concatenated c.args.list.now) c.base_len-operation.ensures.operation (omega (arith, c.requires))

pub returns-clause-size : goal.returns-clause-size
returns-clause-size g c =
    let same = c.in_ok-change_in_place.ensures.not c.if-branch.false in
    let made = rw (c.components.ensures.spells, same) at c.rewrite.ensures.ok in
    on_ok_weaker c.rewrite.result
    (λ is. ap length is ∙ length-apply c.args.op.now (concatenated c.args.list.now) c.base_len-operation.ensures.operation (omega (arith, c.requires))) made
