use Rattle.std.proofs.Common.{◌≡◌, ◌∙◌, ◌-◌, suc, arith, refl}
use Rattle.streams.specs.Lines.{lines_of}
use Rattle.ot_faults.proofs.Above.{here, last, stepped}
use Rattle.ot_faults.proofs.reached.find_line.Goals as goal

pub returns-in_default-clause-reached : goal.returns-in_default-clause-reached
returns-in_default-clause-reached c =
    let above = c.loop-above.above in
    let one : above ≡ suc (above - 1) = omega (arith, c.loop-above-test.true) in
    let ends = last (lines_of c.args.text.now) c.loop-above.rest.now c.args.number above (above - 1) c.loop-above.reached c.loop-above.invariant (c.in_default.ensures.none refl) one in
    c.passed.ensures ∙ ends.0

pub returns-in_default-clause-line : goal.returns-in_default-clause-line
returns-in_default-clause-line c =
    let above = c.loop-above.above in
    let one : above ≡ suc (above - 1) = omega (arith, c.loop-above-test.true) in
    let ends = last (lines_of c.args.text.now) c.loop-above.rest.now c.args.number above (above - 1) c.loop-above.reached c.loop-above.invariant (c.in_default.ensures.none refl) one in
    ends.1

pub loop-above-preserved : goal.loop-above-preserved
loop-above-preserved c =
    let above = c.loop-above.above in
    let one : above ≡ suc (above - 1) = omega (arith, c.loop-above-test.true) in
    let some = c.in-Some.ensures.some in
    rw c.passed-reached.ensures
    (stepped (lines_of c.args.text.now) c.loop-above.rest.now c.in-Some.line.now c.in-Some.below.now c.args.number above (above - 1) c.loop-above.reached c.loop-above.invariant some.0 some.1 one)

pub returns-clause-reached : goal.returns-clause-reached
returns-clause-reached c =
    let none : c.loop-above.above ≡ 0 = omega (arith, c.loop-above-test.false) in
    let is = here (lines_of c.args.text.now) (lines_of c.loop-above.rest.now) c.args.number c.loop-above.above c.loop-above.reached c.loop-above.invariant none in
    is.0
