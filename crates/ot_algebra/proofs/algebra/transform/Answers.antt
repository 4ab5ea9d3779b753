use Rattle.std.proofs.Common.{◌≡◌, ◌∙◌, ap, refl}
use Rattle.ot_operation.specs.Operation.{Operation}
use Rattle.ot_operation.specs.Merge.{first_after, second_after}
use Rattle.ot_algebra.proofs.Pairs.{fit, first_long, first_is, second_long, second_is}
use Rattle.ot_algebra.proofs.algebra.transform.Goals as goal

pub transform-requires-clause-fits : goal.transform-requires-clause-fits
transform-requires-clause-fits g c = fit c.args.a.now c.args.b.now c.codes.result.now c.codes-2.result.now c.codes.ensures.value c.codes-2.ensures.value c.requires.fits

pub with_codes-requires : goal.with_codes-requires
with_codes-requires g c =
    first_long c.args.a.now c.args.b.now c.codes.result.now c.codes-2.result.now c.codes.ensures.value c.codes-2.ensures.value c.codes.ensures.operation c.codes-2.ensures.operation c.requires.same_base
    c.in_ok-first.first (ap (λ (p : Operation (Unit {0}) × Operation (Unit {0})). p.0) c.in_ok-first.ensures)

pub with_codes-requires-2 : goal.with_codes-requires-2
with_codes-requires-2 g c =
    second_long c.args.a.now c.args.b.now c.codes.result.now c.codes-2.result.now c.codes.ensures.value c.codes-2.ensures.value c.codes.ensures.operation c.codes-2.ensures.operation c.requires.same_base
    c.in_ok-first.second (ap (λ (p : Operation (Unit {0}) × Operation (Unit {0})). p.1) c.in_ok-first.ensures)

pub returns : goal.returns
returns g c =
    let first : c.in_ok-with_codes.field-0 ≡ first_after c.args.a.now c.args.b.now =
    c.in_ok-with_codes.ensures
    ∙ first_is c.args.a.now c.args.b.now c.codes.result.now c.codes-2.result.now c.codes.ensures.value c.codes-2.ensures.value c.codes.ensures.operation c.codes-2.ensures.operation c.requires.same_base
    c.in_ok-first.first (ap (λ (p : Operation (Unit {0}) × Operation (Unit {0})). p.0) c.in_ok-first.ensures) in
    let second : c.in_ok-with_codes-2.field-0 ≡ second_after c.args.a.now c.args.b.now =
    c.in_ok-with_codes-2.ensures
    ∙ second_is c.args.a.now c.args.b.now c.codes.result.now c.codes-2.result.now c.codes.ensures.value c.codes-2.ensures.value c.codes.ensures.operation c.codes-2.ensures.operation c.requires.same_base
    c.in_ok-first.second (ap (λ (p : Operation (Unit {0}) × Operation (Unit {0})). p.1) c.in_ok-first.ensures) in
    rw (first, second) refl
