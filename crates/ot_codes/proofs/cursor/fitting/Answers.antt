use Rattle.std.proofs.Common.{◌≡◌, ◌+◌, ℕ, length, take, ap, refl, arith, ◌∙◌}
use Rattle.ot_codes.specs.declared.code.Sum.{Sum}
use Rattle.ot_codes.specs.Codes.{added, sum_of}
use Rattle.ot_codes.proofs.Reading.{fits_begun, fits_next, next_small, now_small}
use Rattle.ot_codes.proofs.cursor.fitting.Goals as goal

pub loop-count-init : goal.loop-count-init
loop-count-init c = fits_begun c.args.from c.args.codes.now c.args.limit c.args.by c.requires.fits

pub added_to-next-requires-clause-kept : goal.added_to-next-requires-clause-kept
added_to-next-requires-clause-kept c = (now_small c.args.from c.args.codes.now c.args.limit c.args.by c.loop-count.count c.loop-count.sum c.index-codes-count.result c.index-codes-count.result c.loop-count.invariant (omega (arith, c.loop-count-test.true)) c.index-codes-count.is c.requires.small).0

pub added_to-next-requires-clause-deleted : goal.added_to-next-requires-clause-deleted
added_to-next-requires-clause-deleted c = (now_small c.args.from c.args.codes.now c.args.limit c.args.by c.loop-count.count c.loop-count.sum c.index-codes-count.result c.index-codes-count.result c.loop-count.invariant (omega (arith, c.loop-count-test.true)) c.index-codes-count.is c.requires.small).1

pub added_to-next-requires-clause-inserted : goal.added_to-next-requires-clause-inserted
added_to-next-requires-clause-inserted c = (now_small c.args.from c.args.codes.now c.args.limit c.args.by c.loop-count.count c.loop-count.sum c.index-codes-count.result c.index-codes-count.result c.loop-count.invariant (omega (arith, c.loop-count-test.true)) c.index-codes-count.is c.requires.small).2

pub of-requires : goal.of-requires
of-requires c =
    let small = next_small c.args.from c.args.codes.now c.args.limit c.args.by c.loop-count.count c.loop-count.sum c.index-codes-count.result c.index-codes-count.result c.loop-count.invariant (omega (arith, c.loop-count-test.true)) c.index-codes-count.is c.requires.small in
    omega (arith, small, ap (λ (s : Sum). s.kept + s.deleted + s.inserted) c.added_to-next.ensures.is)

pub returns-then-of-limit-clause-sum : goal.returns-then-of-limit-clause-sum
returns-then-of-limit-clause-sum c = c.loop-count.invariant.is

pub returns-then-of-limit-clause-fits : goal.returns-then-of-limit-clause-fits
returns-then-of-limit-clause-fits c = c.loop-count.invariant.fits

pub loop-count-preserved : goal.loop-count-preserved
loop-count-preserved c =
    fits_next c.args.from c.args.codes.now c.args.limit c.args.by c.loop-count.count c.loop-count.sum c.index-codes-count.result c.index-codes-count.result c.loop-count.invariant (omega (arith, c.loop-count-test.true)) c.index-codes-count.is c.requires.small (c.loop-count.count + 1) c.added_to-next.result refl c.added_to-next.ensures.is (omega (arith, c.if-of-limit.false, c.of.ensures))

pub returns-clause-sum : goal.returns-clause-sum
returns-clause-sum c =
    let end : c.loop-count.count ≡ length c.args.codes.now = omega arith in
    c.loop-count.invariant.is ∙ ap (λ (k : ℕ). added c.args.from (sum_of (take k c.args.codes.now))) end

pub returns-clause-fits : goal.returns-clause-fits
returns-clause-fits c = c.loop-count.invariant.fits
