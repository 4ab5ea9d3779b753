use Rattle.std.proofs.Common.{◌≡◌, ◌∙◌, ap}
use Rattle.std.proofs.lemmas.Result.{IfOk-weaker}
use Rattle.ot_operation.specs.Operation.{Operation, news}
use Rattle.ot_operation.specs.Merge.{second_after}
use Rattle.ot_codes.specs.Shape.{filled}
use Rattle.ot_algebra.proofs.Pairs.{fit, second_long, second_is}
use Rattle.ot_algebra.proofs.algebra.transform_second.Goals as goal

pub transform-requires-clause-fits : goal.transform-requires-clause-fits
transform-requires-clause-fits g c = fit c.args.a.now c.args.b.now c.codes.result.now c.codes-2.result.now c.codes.ensures.value c.codes-2.ensures.value c.requires.fits

pub with_codes-requires : goal.with_codes-requires
with_codes-requires g c =
    second_long c.args.a.now c.args.b.now c.codes.result.now c.codes-2.result.now c.codes.ensures.value c.codes-2.ensures.value c.codes.ensures.operation c.codes-2.ensures.operation c.requires.same_base
    c.in_ok-second.second (ap (λ (p : Operation (Unit {0}) × Operation (Unit {0})). p.1) c.in_ok-second.ensures)

pub returns : goal.returns
returns g c =
    IfOk-weaker c.with_codes.result (λ op. op ≡ filled c.in_ok-second.second (news c.args.b.now.image)) (λ op. op ≡ second_after c.args.a.now c.args.b.now)
    (λ op e.
    e
    ∙ second_is c.args.a.now c.args.b.now c.codes.result.now c.codes-2.result.now c.codes.ensures.value c.codes-2.ensures.value c.codes.ensures.operation c.codes-2.ensures.operation c.requires.same_base
    c.in_ok-second.second (ap (λ (p : Operation (Unit {0}) × Operation (Unit {0})). p.1) c.in_ok-second.ensures))
    c.with_codes.ensures
