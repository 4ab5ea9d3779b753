use Rattle.std.proofs.Common.{arith, below_more}
use Rattle.ot_judge.proofs.Views.{event_at-views}
use Rattle.ot_judge.proofs.visibility.sees_closed.Goals as goal
use Rattle.ot_judge.proofs.visibility.sees_closed.Goals.{then-follows+else-not-sees_at_most, else-follows}

pub loop-d-preserved : goal.loop-d-preserved
loop-d-preserved c =
    let at_e = event_at-views c.args.events.now c.args.e c.index-events-e.result c.requires.within c.index-events-e.is in
    below_more _ _ c.loop-d.invariant
    (λ f r. elim c.if-follows.branch [
      | then-follows+else-not-sees_at_most w ↦
          let at_d = event_at-views c.args.events.now c.loop-d.d w.index-events-d.result (omega arith) w.index-events-d.is in
          rw (at_e, at_d) (w.sees_at_most.ensures.0 (grind arith) r)
      | else-follows w ↦ absurd (grind (arith, c.follows.ensures, f))
    ])
