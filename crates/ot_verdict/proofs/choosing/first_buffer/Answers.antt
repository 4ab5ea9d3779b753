use Rattle.std.proofs.Common.{◌<◌, ◌≤◌, arith, length}
use Rattle.ot_verdict.specs.First.{buffers}
use Rattle.ot_verdict.proofs.First.{found_at, not_found, one_more}
use Rattle.ot_verdict.proofs.choosing.first_buffer.Goals as goal

pub returns-then-has_buffer : goal.returns-then-has_buffer
returns-then-has_buffer c =
    let s = c.args.machine.now in
    let k = c.loop-client.client in
    let many = c.clients-client-end.ensures.value in
    let inside : k < length s.clients = omega (arith, many, c.loop-client-test.true) in
    found_at buffers s k c.has_buffer.result c.loop-client.invariant inside c.has_buffer.ensures c.if-has_buffer.true

pub loop-client-preserved : goal.loop-client-preserved
loop-client-preserved c = one_more buffers c.args.machine.now c.loop-client.client c.has_buffer.result c.loop-client.invariant c.has_buffer.ensures c.if-has_buffer.false

pub returns : goal.returns
returns c =
    let s = c.args.machine.now in
    let many = c.clients-client-end.ensures.value in
    let past : length s.clients ≤ c.loop-client.client = omega (arith, many, c.loop-client-test.false) in
    not_found buffers s c.loop-client.client past c.loop-client.invariant
