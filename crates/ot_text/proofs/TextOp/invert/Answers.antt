use Rattle.std.proofs.Common.{◌≡◌, ◌∙◌, ap, length, arith}
use Rattle.std.proofs.lemmas.Result.{IfOk-weaker}
use Rattle.ot_operation.specs.Operation.{apply, invert}
use Rattle.ot_operation.specs.Run.{operation_of}
use Rattle.ot_operation.proofs.OperationLaws.{is_operation}
use Rattle.ot_operation.proofs.InvertLaws.{apply-invert}
use Rattle.ot_text.proofs.TextOp.invert.Goals as goal

pub take_back-requires-clause-base : goal.take_back-requires-clause-base
take_back-requires-clause-base g c = ap (λ o. o.base) c.components.ensures.spells ∙ c.requires

pub take_back-requires-clause-base_fits : goal.take_back-requires-clause-base_fits
take_back-requires-clause-base_fits g c = omega (arith, c.components.ensures.fits, c.requires)

pub take_back-requires-clause-target_fits : goal.take_back-requires-clause-target_fits
take_back-requires-clause-target_fits g c = omega (arith, c.components.ensures.fits, ap (λ o. length o.image) c.components.ensures.spells)

pub returns-clause-value : goal.returns-clause-value
returns-clause-value g c =
    IfOk-weaker c.take_back.result (λ o. o ≡ invert (operation_of c.components.result) c.args.document.now) (λ o. o ≡ invert c.args.self.now c.args.document.now)
    (λ o e. e ∙ ap (λ op. invert op c.args.document.now) c.components.ensures.spells) c.take_back.ensures

pub returns-clause-gives_back : goal.returns-clause-gives_back
returns-clause-gives_back g c =
    let op = c.args.self.now in
    let d = c.args.document.now in
    IfOk-weaker c.take_back.result (λ o. o ≡ invert (operation_of c.components.result) d) (λ o. apply o (apply op d) ≡ d)
    (λ o e. rw (e, c.components.ensures.spells) (apply-invert op d (is_operation c.components.result op c.components.ensures.spells) c.requires))
    c.take_back.ensures
