use Rattle.std.proofs.Common.{arith, ap, ◌∙◌}
use Rattle.std.specs.Vec.{vec_items}
use Rattle.std.proofs.lemmas.List.{take_all}
use Rattle.ot_image.proofs.Written.{instrs_more, none_left}
use Rattle.ot_image.proofs.writing.put_instrs.Goals as goal
use Rattle.ot_image.proofs.writing.put_instrs.Goals.{in-Some+in_ok-put_instr, in_default}

pub loop-place-preserved : goal.loop-place-preserved
loop-place-preserved c =
    elim c.match-get.branch [
      | in-Some+in_ok-put_instr w ↦
          ap vec_items w.out-is ∙ instrs_more _ c.loop-place.out.items _ c.args.schedule.now.instrs c.loop-place.place _ w.in-Some.ensures.some c.loop-place.invariant w.in_ok-put_instr.ensures
      | in_default w ↦
          let past = c.get.ensures.none (none_left c.get.result w.in_default.not-Some) in absurd (omega (arith, past, c.loop-place-test.true, c.len-place-end.ensures))
    ]

pub returns : goal.returns
returns c =
    let all = take_all c.loop-place.place c.args.schedule.now.instrs (omega (arith, c.loop-place-test.false, c.len-place-end.ensures)) in
    rw all at c.loop-place.invariant
