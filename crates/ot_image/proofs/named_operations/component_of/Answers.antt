use Rattle.std.proofs.Common.{◌∙◌, ap, sym}
use Rattle.std.proofs.lemmas.Result.{err_from_is_err_and}
use Rattle.ot_image.specs.declared.shape.Shape.{Shape}
use Rattle.ot_image.specs.Fields.{first_refusal, longer}
use Rattle.ot_image.specs.Reads.{seen}
use Rattle.ot_image.proofs.FieldSteps.{component_kind_err, component_length_err, component_ok}
use Rattle.ot_image.proofs.named_operations.component_of.Goals as goal

pub returns-in_err-code-clause-read : goal.returns-in_err-code-clause-read
returns-in_err-code-clause-read c =
    let p = err_from_is_err_and c.from_residual.result c.from_residual.ensures.1 in
    rw (p.1, p.2) (component_kind_err c.args.instr c.args.k c.args.shape.now (seen c.args.spot) _ c.in_err-code.ensures)

pub returns-in_err-count-clause-read : goal.returns-in_err-count-clause-read
returns-in_err-count-clause-read c =
    let p = err_from_is_err_and c.from_residual-in_err-count.result c.from_residual-in_err-count.ensures.1 in
    rw (p.1, p.2) (component_length_err c.args.instr c.args.k c.args.shape.now (seen c.args.spot) (seen c.in_ok-code.length) c.in_ok-code.code _ c.in_ok-code.ensures c.in_err-count.ensures.read)

pub returns-in_err-after-clause-read : goal.returns-in_err-after-clause-read
returns-in_err-after-clause-read c =
    let p = err_from_is_err_and c.from_residual-in_err-after.result c.from_residual-in_err-after.ensures.1 in
    rw (p.1, p.2) (λ next.
    component_ok c.args.instr c.args.k c.args.shape.now (seen c.args.spot) (seen c.in_ok-code.length) (seen c.in_ok-count.text) c.in_ok-code.code c.in_ok-count.count c.in_ok-code.ensures c.in_ok-count.ensures.read next
    ∙ c.in_err-after.ensures (next (longer c.in_ok-code.code c.args.shape.now c.in_ok-count.count)))

pub returns-clause-read : goal.returns-clause-read
returns-clause-read c = λ next.
    component_ok c.args.instr c.args.k c.args.shape.now (seen c.args.spot) (seen c.in_ok-code.length) (seen c.in_ok-count.text) c.in_ok-code.code c.in_ok-count.count c.in_ok-code.ensures c.in_ok-count.ensures.read next
    ∙ c.in_ok-after.ensures (next (longer c.in_ok-code.code c.args.shape.now c.in_ok-count.count))
    ∙ ap (λ (more : Shape). first_refusal (next more) (seen c.in_ok-after.after)) (sym c.longer-more.ensures.value)
