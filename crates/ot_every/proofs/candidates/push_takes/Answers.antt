use Rattle.std.proofs.Common.{arith, rules}
use Rattle.ot_every.proofs.Leading.{takes_on, takes_past}
use Rattle.ot_every.proofs.candidates.push_takes.Goals.{then-is_some+in_ok-push, else-is_some}
use Rattle.ot_every.proofs.candidates.push_takes.Goals as goal

pub loop-client-preserved : goal.loop-client-preserved
loop-client-preserved c inserts count texts path =
    let s = c.args.machine.now in
    let k = c.loop-client.client in
    let first = c.args.next.now.items in
    let so_far = c.loop-client.invariant inserts count texts path in
    elim c.if-is_some.branch [
      | then-is_some+in_ok-push w ↦
          rw (w.next-is, w.in_ok-push.ensures.items)
          (takes_on inserts count texts path s first c.loop-client.next.items k so_far (omega (arith, c.loop-client-test.true, c.clients-client-end.ensures.value)))
      | else-is_some w ↦ rw w.next-is (takes_past inserts count texts path s first c.loop-client.next.items k _ so_far c.up.ensures (search rules))
    ]
