use Rattle.std.proofs.Common.{◌≤◌, ap, arith, length}
use Rattle.ot_generate.specs.Walks.{WalkView}
use Rattle.ot_generate.proofs.Draining.{no_take, nothing_next, receipt_found, take_found}
use Rattle.ot_generate.proofs.walk.Walk.next.Goals as goal

pub returns-in-Some : goal.returns-in-Some
returns-in-Some c = take_found c.args.self.now.state c.loop-client.client c.in-Some.instr c.loop-client.invariant c.in-Some.ensures

pub loop-client-2-init : goal.loop-client-2-init
loop-client-2-init c =
    let same = ap (λ (v : WalkView). length v.state.clients) c.self.view_is in
    let many = c.clients-client-end.ensures.value in
    let past : length c.args.self.now.state.clients ≤ c.loop-client.client = omega arith in
    (no_take c.args.self.now.state c.loop-client.client past c.loop-client.invariant, λ k x less there. absurd (omega arith))

pub returns-in-Some-receipt_next : goal.returns-in-Some-receipt_next
returns-in-Some-receipt_next c =
    receipt_found c.args.self.now.state c.loop-client-2.client c.in-Some-receipt_next.instr c.loop-client-2.invariant.0 c.loop-client-2.invariant.1 c.in-Some-receipt_next.ensures

pub returns : goal.returns
returns c =
    let same = ap (λ (v : WalkView). length v.state.clients) c.self.view_is in
    let many = c.clients-client-end-2.ensures.value in
    let past : length c.args.self.now.state.clients ≤ c.loop-client-2.client = omega arith in
    nothing_next c.args.self.now.state c.loop-client-2.client c.loop-client-2.invariant.0 past c.loop-client-2.invariant.1
