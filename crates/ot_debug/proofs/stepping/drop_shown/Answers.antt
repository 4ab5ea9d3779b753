use Rattle.std.proofs.Common.{◌≡◌, ◌-◌, ◌≤◌, length, arith, refl, subst}
use Rattle.ot_model.specs.Runs.{done, opening_of}
use Rattle.ot_model.proofs.Runs.{performed-length}
use Rattle.ot_debug.specs.Stepping.{shown_at, AreLists}
use Rattle.ot_debug.proofs.Places.{lists_back}
use Rattle.ot_debug.proofs.stepping.drop_shown.Goals as goal

pub unreachable-requires : goal.unreachable-requires
unreachable-requires c =
    let s = c.args.schedule.now in
    let few : done s ≤ length s.instrs = performed-length s.instrs (opening_of s) in
    let past : length s.instrs ≤ c.loop-place.place - 1 = c.in_default.ensures.none refl in
    let more = c.loop-place-test.true in
    let within = c.loop-place.auto.place in
    let here = c.requires.reached in
    absurd (omega (arith, few, past, more, within, here))

pub loop-place-preserved : goal.loop-place-preserved
loop-place-preserved c =
    let more = c.loop-place-test.true in
    let within = c.loop-place.auto.place in
    let here = c.requires.reached in (
      omega (arith, more),
      λ kept were. lists_back kept c.args.schedule.now c.loop-place.place (c.loop-place.place - 1) c.loop-place.shown.items c.drop_last.new.shown.items c.in-Some.instr.now
          (omega (arith, within, here)) (omega (arith, more)) c.in-Some.ensures.some (c.loop-place.invariant.1 kept were) c.drop_last.ensures,
    )

pub returns : goal.returns
returns c kept were =
    let from = c.loop-place.invariant.0 in
    let all = c.loop-place-test.false in
    let same : c.loop-place.place ≡ c.args.from = omega (arith, from, all) in
    subst (λ p. AreLists kept (shown_at c.args.schedule.now p) c.loop-place.shown.items) same (c.loop-place.invariant.1 kept were)
