use Rattle.std.proofs.Common.{◌∙◌, ap}
use Rattle.ot_operation.specs.Operation.{Operation}
use Rattle.ot_algebra.proofs.Pairs.{fit, first_codes, second_long, second_is}
use Rattle.ot_algebra.proofs.algebra.transform_codes_in_place.Goals as goal

pub transform-requires-clause-fits : goal.transform-requires-clause-fits
transform-requires-clause-fits g c = fit c.args.a.now c.args.b.now c.codes.result.now c.codes-2.result.now c.codes.ensures.value c.codes-2.ensures.value c.requires.fits

pub exchange_codes-requires : goal.exchange_codes-requires
exchange_codes-requires g c =
    second_long c.args.a.now c.args.b.now c.codes.result.now c.codes-2.result.now c.codes.ensures.value c.codes-2.ensures.value c.codes.ensures.operation c.codes-2.ensures.operation c.requires.same_base
    c.in_ok-first.second (ap (λ (p : Operation (Unit {0}) × Operation (Unit {0})). p.1) c.in_ok-first.ensures)

pub returns-clause-codes : goal.returns-clause-codes
returns-clause-codes g c =
    first_codes c.args.a.now c.args.b.now c.codes.result.now c.codes-2.result.now c.codes.ensures.value c.codes-2.ensures.value c.codes.ensures.operation c.codes-2.ensures.operation c.requires.same_base
    c.in_ok-first.first (ap (λ (p : Operation (Unit {0}) × Operation (Unit {0})). p.0) c.in_ok-first.ensures)

pub returns-clause-op : goal.returns-clause-op
returns-clause-op g c =
    c.exchange_codes.ensures.op
    ∙ second_is c.args.a.now c.args.b.now c.codes.result.now c.codes-2.result.now c.codes.ensures.value c.codes-2.ensures.value c.codes.ensures.operation c.codes-2.ensures.operation c.requires.same_base
    c.in_ok-first.second (ap (λ (p : Operation (Unit {0}) × Operation (Unit {0})). p.1) c.in_ok-first.ensures)
