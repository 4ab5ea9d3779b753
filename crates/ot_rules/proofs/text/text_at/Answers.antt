use Rattle.std.proofs.Common.{arith, ap, sym, ◌∙◌, Some}
use Rattle.std.specs.Option.{option_map}
use Rattle.ot_isa.specs.Tagging.{chars_of}
use Rattle.ot_rules.proofs.Reached.{replay_ends, replay_more, replay_past, replay_whole}
use Rattle.ot_rules.proofs.text.text_at.Goals as goal

pub returns-in_default : goal.returns-in_default
returns-in_default c =
    ap Some c.in_ok-letters.ensures
    ∙ ap (option_map chars_of) (replay_past c.args.machine.now.log c.loop-number.list c.loop-number.number c.args.revision _ c.loop-number-test.true (sym c.in_default.ensures) c.loop-number.invariant)

pub returns-then-not-fits : goal.returns-then-not-fits
returns-then-not-fits c =
    ap (option_map chars_of)
    (replay_ends c.args.machine.now.log c.loop-number.list c.in-Some.entry.now c.loop-number.number c.args.revision _ c.loop-number-test.true (sym c.in-Some.ensures) c.loop-number.invariant
    c.operation.result.now c.fits.result c.operation.ensures c.fits.ensures c.if-not-fits.true)

pub loop-number-preserved : goal.loop-number-preserved
loop-number-preserved c =
    replay_more c.args.machine.now.log c.loop-number.list c.in-Some.entry.now c.loop-number.number c.args.revision _ c.loop-number-test.true (sym c.in-Some.ensures) c.loop-number.invariant
    c.operation.result.now c.operation-in-loop-number.result.now c.fits.result c.change.new.self c.operation.ensures c.operation-in-loop-number.ensures c.fits.ensures c.if-not-fits.false c.in_ok-change.ensures.ok

pub returns : goal.returns
returns c =
    ap Some c.in_ok-letters-2.ensures
    ∙ ap (option_map chars_of) (replay_whole c.args.machine.now.log c.loop-number.list c.loop-number.number c.args.revision _ (omega arith) c.loop-number.invariant)
