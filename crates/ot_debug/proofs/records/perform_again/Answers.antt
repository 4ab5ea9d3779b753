use Rattle.std.proofs.Common.{true, ◌+◌, ◌≤◌, length, arith, refl, rules, ◌∙◌}
use Rattle.ot_model.specs.Runs.{done, opening_of}
use Rattle.ot_model.proofs.Runs.{performed-length}
use Rattle.ot_debug.proofs.Places.{again_next, not_refused, pushed_some}
use Rattle.ot_debug.proofs.records.perform_again.Goals as goal

pub unreachable-requires : goal.unreachable-requires
unreachable-requires c =
    let s = c.args.schedule.now in
    let few : done s ≤ length s.instrs = performed-length s.instrs (opening_of s) in
    let past : length s.instrs ≤ c.loop-place.place = c.in_default.ensures.none refl in
    let less = c.loop-place-test.true in
    let here = c.requires.count in
    absurd (omega (arith, few, past, less, here))

pub unreachable-requires-in_default-refusal : goal.unreachable-requires-in_default-refusal
unreachable-requires-in_default-refusal c =
    not_refused c.args.schedule.now c.loop-place.place _ c.in-Some.instr.now c.in-Err.refusal (search rules) c.loop-place.invariant.0.at c.in-Some.ensures.some (c.in-Err.ensures.refused (search rules))

pub loop-place-preserved : goal.loop-place-preserved
loop-place-preserved c =
    let performed = c.in_default-perform_recorded.ensures in
    let (state, last) =
    again_next c.args.schedule.now c.loop-place.place (c.loop-place.place + 1) c.loop-place.machine c.perform_recorded.new.machine c.loop-place.undos c.perform_recorded.new.undos c.in-Some.instr.now performed.done.0
    true c.loop-place.invariant.0 c.loop-place.invariant.1 c.in-Some.ensures.some performed.done.1 (performed.record, performed.kept) (omega arith)
    in
    (state, last, λ _. pushed_some performed.record.undo _ _ performed.record.more, performed.kept ∙ c.loop-place.invariant.3, performed.limit ∙ c.loop-place.invariant.4)
