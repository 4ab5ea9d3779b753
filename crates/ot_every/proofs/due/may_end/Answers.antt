use Rattle.std.proofs.Common.{ℕ, arith, length, subst}
use Rattle.ot_machine.specs.Readers.{ClientHas}
use Rattle.ot_every.specs.Due.{due_of}
use Rattle.ot_every.proofs.Remaining.{ahead_due, due_more}
use Rattle.ot_every.proofs.due.may_end.Goals as goal

pub returns-then-ahead-room-clause-ends : goal.returns-then-ahead-room-clause-ends
returns-then-ahead-room-clause-ends c off ends =
    let n = ahead_due c.args.machine.now c.loop-client.client c.down_len-ahead.result c.down_len-ahead.ensures in
    let more = due_more c.args.machine.now c.loop-client.client n.0 n.1 in
    let least = ends.least in
    omega (arith, least, n.2, more.1, c.if-ahead-room.true)

pub returns-then-least-room-clause-ends : goal.returns-then-least-room-clause-ends
returns-then-least-room-clause-ends c off ends =
    let s = c.args.machine.now in
    let here = subst (λ (n : ℕ). ClientHas s c.loop-client.client (due_of n (length s.log)) c.due_of-least.result) c.joined-joined.ensures.value c.due_of-least.ensures.value in
    let more = due_more s c.loop-client.client c.due_of-least.result here in
    let least = ends.least in
    omega (arith, least, more.1, c.loop-client.invariant.sum, c.if-least-room.true)

pub loop-client-preserved : goal.loop-client-preserved
loop-client-preserved c =
    let s = c.args.machine.now in
    let here = subst (λ (n : ℕ). ClientHas s c.loop-client.client (due_of n (length s.log)) c.due_of-least.result) c.joined-joined.ensures.value c.due_of-least.ensures.value in
    let more = due_more s c.loop-client.client c.due_of-least.result here in
    record { sum = omega (arith, more.0, c.loop-client.invariant.sum); within = omega (arith, c.if-least-room.false) }
