use Rattle.std.proofs.Common.{◌≡◌, ◌∷◌, ◌∙◌, sym, rules}
use Rattle.ot_asm.specs.declared.place.Place.TheVariants.{Apart}
use Rattle.ot_asm.proofs.Runs.{byte_passed, no_number, nothing_passed, passed_on, split_here}
use Rattle.ot_asm.proofs.passing.split_at_number.Goals as goal

pub loop-client-init : goal.loop-client-init
loop-client-init c = nothing_passed Apart c.args.text.now

pub returns-in-Some-clause-some : goal.returns-in-Some-clause-some
returns-in-Some-clause-some c =
    let passed = passed_on Apart c.loop-client.place c.pass_over-after.result.0 c.args.text.now c.loop-client.rest.now c.pass_over-after.result.1.now c.loop-client.invariant c.pass_over-after.ensures in
    split_here c.args.text.now c.pass_over-after.result.1.now c.split_at.result.0.now c.pass_over-after.result.0 c.in-Some.client passed (sym c.ended_number.ensures ∙ c.in-Some.is) c.split_at.ensures.front

pub returns-in_default-split_first-clause-none : goal.returns-in_default-split_first-clause-none
returns-in_default-split_first-clause-none c none =
    let passed = passed_on Apart c.loop-client.place c.pass_over-after.result.0 c.args.text.now c.loop-client.rest.now c.pass_over-after.result.1.now c.loop-client.invariant c.pass_over-after.ensures in
    no_number c.args.text.now c.pass_over-after.result.1.now c.pass_over-after.result.0 passed c.in_default-split_first.ensures.cases (sym c.ended_number.ensures ∙ c.in_default.is)

pub loop-client-preserved : goal.loop-client-preserved
loop-client-preserved c =
    let behind = c.pass_over-after.result.1.now in
    let passed = passed_on Apart c.loop-client.place c.pass_over-after.result.0 c.args.text.now c.loop-client.rest.now behind c.loop-client.invariant c.pass_over-after.ensures in
    let is : behind ≡ c.in-Some-split_first.byte.now ∷ c.in-Some-split_first.below.now = search rules in
    passed_on Apart c.pass_over-after.result.0 c.next-place.result c.args.text.now behind c.in-Some-split_first.below.now passed
    (byte_passed c.pass_over-after.result.0 c.next-place.result behind c.in-Some-split_first.byte.now c.in-Some-split_first.below.now is (sym c.ended_number.ensures ∙ c.in_default.is) c.next-place.ensures)
