use Rattle.std.proofs.Common.{◌+◌, ◌-◌, ◌∙◌, ap}
use Rattle.std.proofs.lemmas.Result.{err_from_is_err_and}
use Rattle.ot_image.specs.Fields.{Named, first_refusal, instructions}
use Rattle.ot_image.specs.Reads.{seen}
use Rattle.ot_image.proofs.FieldSteps.{instructions_done, instructions_more}
use Rattle.ot_image.proofs.whole.instructions_of.Goals as goal

pub loop-instr-preserved : goal.loop-instr-preserved
loop-instr-preserved c = λ after.
    c.loop-instr.invariant after
    ∙ ap (λ (fields : Named). first_refusal fields (seen c.loop-instr.rest)) (instructions_more c.args.version c.args.clients c.args.count c.loop-instr.instr after c.loop-instr-test.true)
    ∙ c.in_ok-rest.ensures (instructions c.args.version c.args.clients (c.loop-instr.instr + 1) (c.args.count - (c.loop-instr.instr + 1)) after)

pub returns-in_err-rest : goal.returns-in_err-rest
returns-in_err-rest c =
    let p = err_from_is_err_and c.from_residual.result c.from_residual.ensures.1 in
    rw (p.1, p.2) (λ after.
    c.loop-instr.invariant after
    ∙ ap (λ (fields : Named). first_refusal fields (seen c.loop-instr.rest)) (instructions_more c.args.version c.args.clients c.args.count c.loop-instr.instr after c.loop-instr-test.true)
    ∙ c.in_err-rest.ensures (instructions c.args.version c.args.clients (c.loop-instr.instr + 1) (c.args.count - (c.loop-instr.instr + 1)) after))

pub returns : goal.returns
returns c = λ after.
    c.loop-instr.invariant after ∙ ap (λ (fields : Named). first_refusal fields (seen c.loop-instr.rest)) (instructions_done c.args.version c.args.clients c.args.count c.loop-instr.instr after c.loop-instr-test.false)
