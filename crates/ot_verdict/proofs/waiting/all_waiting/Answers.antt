use Rattle.std.proofs.Common.{◌<◌, arith, length}
use Rattle.ot_verdict.specs.Pending.{waiting_at}
use Rattle.ot_verdict.proofs.Gathering.{gives_next}
use Rattle.ot_verdict.proofs.waiting.all_waiting.Goals as goal

pub loop-client-preserved : goal.loop-client-preserved
loop-client-preserved c =
    let s = c.args.machine.now in
    let k = c.loop-client.client in
    let many = c.clients-client-end.ensures.value in
    let inside : k < length s.clients = omega (arith, many, c.loop-client-test.true) in
    gives_next (waiting_at s) s k c.loop-client.list.items c.push_waiting.new.list.items inside c.loop-client.invariant c.in_ok-push_waiting.ensures
