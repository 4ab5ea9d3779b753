use Rattle.std.proofs.Common.{◌∙◌}
use Rattle.ot_algebra.proofs.Pairs.{fit, first_long, first_is}
use Rattle.ot_algebra.proofs.algebra.transform_in_place.Goals as goal

pub transform_first-requires-clause-fits : goal.transform_first-requires-clause-fits
transform_first-requires-clause-fits g c =
    fit c.args.a.now c.args.b.now c.codes.result.now c.codes-2.result.now c.codes.ensures.value c.codes-2.ensures.value c.requires.fits

pub exchange_codes-requires : goal.exchange_codes-requires
exchange_codes-requires g c =
    first_long c.args.a.now c.args.b.now c.codes.result.now c.codes-2.result.now c.codes.ensures.value c.codes-2.ensures.value c.codes.ensures.operation c.codes-2.ensures.operation c.requires.same_base
    c.in_ok-first.first c.in_ok-first.ensures

pub returns-clause-ok : goal.returns-clause-ok
returns-clause-ok g c =
    c.exchange_codes.ensures.op
    ∙ first_is c.args.a.now c.args.b.now c.codes.result.now c.codes-2.result.now c.codes.ensures.value c.codes-2.ensures.value c.codes.ensures.operation c.codes-2.ensures.operation c.requires.same_base
    c.in_ok-first.first c.in_ok-first.ensures
