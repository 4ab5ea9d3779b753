use Rattle.std.proofs.Common.{◌+◌, ◌-◌, ◌/◌, refl, arith}
use Rattle.ot_codes.specs.Ends.{start}
use Rattle.ot_codes.proofs.Stretches.{end_at, behind_done, small_between}
use Rattle.ot_codes.proofs.stretch.fitting.Goals as goal

pub minus-requires-clause-kept : goal.minus-requires-clause-kept
minus-requires-clause-kept c =
    (behind_done c.args.done c.args.codes.now _
    (end_at c.args.done c.args.codes.now c.args.ends.now (c.loop-count.count + (c.loop-count.beyond - c.loop-count.count) / 2) start _ c.requires.ends (omega (arith, c.loop-count-test.true, c.loop-count.invariant.1)) refl)).kept

pub minus-requires-clause-deleted : goal.minus-requires-clause-deleted
minus-requires-clause-deleted c =
    (behind_done c.args.done c.args.codes.now _
    (end_at c.args.done c.args.codes.now c.args.ends.now (c.loop-count.count + (c.loop-count.beyond - c.loop-count.count) / 2) start _ c.requires.ends (omega (arith, c.loop-count-test.true, c.loop-count.invariant.1)) refl)).deleted

pub minus-requires-clause-inserted : goal.minus-requires-clause-inserted
minus-requires-clause-inserted c =
    (behind_done c.args.done c.args.codes.now _
    (end_at c.args.done c.args.codes.now c.args.ends.now (c.loop-count.count + (c.loop-count.beyond - c.loop-count.count) / 2) start _ c.requires.ends (omega (arith, c.loop-count-test.true, c.loop-count.invariant.1)) refl)).inserted

pub of-requires : goal.of-requires
of-requires c =
    small_between c.args.done c.args.codes.now _ c.minus.result
    (end_at c.args.done c.args.codes.now c.args.ends.now (c.loop-count.count + (c.loop-count.beyond - c.loop-count.count) / 2) start _ c.requires.ends (omega (arith, c.loop-count-test.true, c.loop-count.invariant.1)) refl)
    c.requires.small c.minus.ensures
