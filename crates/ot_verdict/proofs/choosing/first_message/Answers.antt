use Rattle.std.proofs.Common.{◌<◌, ◌≤◌, arith, length}
use Rattle.ot_verdict.specs.First.{has_message}
use Rattle.ot_verdict.proofs.First.{found_at, not_found, one_more}
use Rattle.ot_verdict.proofs.choosing.first_message.Goals as goal

pub returns-then-has_message : goal.returns-then-has_message
returns-then-has_message c =
    let s = c.args.machine.now in
    let k = c.loop-client.client in
    let many = c.clients-client-end.ensures.value in
    let inside : k < length s.clients = omega (arith, many, c.loop-client-test.true) in
    found_at has_message s k c.has_message.result c.loop-client.invariant inside c.has_message.ensures c.if-has_message.true

pub loop-client-preserved : goal.loop-client-preserved
loop-client-preserved c = one_more has_message c.args.machine.now c.loop-client.client c.has_message.result c.loop-client.invariant c.has_message.ensures c.if-has_message.false

pub returns : goal.returns
returns c =
    let s = c.args.machine.now in
    let many = c.clients-client-end.ensures.value in
    let past : length s.clients ≤ c.loop-client.client = omega (arith, many, c.loop-client-test.false) in
    not_found has_message s c.loop-client.client past c.loop-client.invariant
