use Rattle.std.proofs.Common.{◌≡◌, ℕ, ap, arith, cond, Bool}
use Rattle.ot_every.proofs.Remaining.{joined_more}
use Rattle.ot_every.proofs.due.joined.Goals.{then-joined, else-joined}
use Rattle.ot_every.proofs.due.joined.Goals as goal

pub loop-client-preserved : goal.loop-client-preserved
loop-client-preserved c =
    let more = joined_more c.args.machine.now c.loop-client.client c.joined.result c.joined.ensures in
    let sum = more.0 in
    let so_far = c.loop-client.invariant.sum in
    let few = c.loop-client.invariant.few in
    elim c.if-joined.branch [
      | then-joined w ↦
          let one : ◌≡◌ {A = ℕ} (cond c.joined.result 1 0) 1 = ap (λ (b : Bool). cond b 1 0) w.if-joined.true in
          record { sum = omega (arith, so_far, sum, one, w.count-is); few = omega (arith, few, w.count-is) }
      | else-joined w ↦
          let none : ◌≡◌ {A = ℕ} (cond c.joined.result 1 0) 0 = ap (λ (b : Bool). cond b 1 0) w.if-joined.false in
          record { sum = omega (arith, so_far, sum, none, w.count-is); few = omega (arith, few, w.count-is) }
    ]
