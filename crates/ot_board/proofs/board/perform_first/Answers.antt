use Rattle.std.proofs.Common.{length, refl}
use Rattle.std.proofs.lemmas.Option.{slice_get_read}
use Rattle.ot_board.proofs.Performing.{runs_more}
use Rattle.ot_board.proofs.board.perform_first.Goals as goal

pub loop-place-preserved : goal.loop-place-preserved
loop-place-preserved c =
    runs_more c.args.machine.now c.loop-place.machine c.perform.new.self c.args.steps.now c.loop-place.place c.index-steps-place.result _
    c.loop-place.invariant
    (slice_get_read c.args.steps.now (length c.args.steps.now) c.loop-place.place c.index-steps-place.result refl c.loop-place-test.true c.index-steps-place.is)
    c.in-Ok.ensures.effect.led
