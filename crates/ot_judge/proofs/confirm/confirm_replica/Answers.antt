use Rattle.std.proofs.Common.{◌∙◌, ap, sym}
use Rattle.ot_judge.specs.declared.trace.Event.{Event}
use Rattle.ot_judge.specs.Turns.{HoldsAfter}
use Rattle.ot_judge.specs.Views.{views}
use Rattle.ot_judge.proofs.Counts.{last-here, last-skip}
use Rattle.ot_judge.proofs.Exactly.{marks-more}
use Rattle.ot_judge.proofs.Views.{event_at-views}
use Rattle.ot_judge.proofs.confirm.confirm_replica.Goals.{then-events-e+in_ok-holds_after+else-not-branch, else-events-e}
use Rattle.ot_judge.proofs.confirm.confirm_replica.Goals as goal

pub loop-e-preserved : goal.loop-e-preserved
loop-e-preserved c =
    let events = views c.args.events.now in
    let at = ap (λ x. x.replica) (event_at-views c.args.events.now c.loop-e.e c.index-events-e.result c.loop-e-test.true c.index-events-e.is) ∙ ap (λ (x : Event). x.replica) c.index-events-e.is in
    elim c.if-events-e.branch [
      | then-events-e+in_ok-holds_after+else-not-branch w ↦
          rw (w.marks-is, w.last-is) (record {
            last = last-here events c.loop-e.e c.args.replica (at ∙ w.if-events-e.true);
            marks = λ old. marks-more (HoldsAfter c.args.start.now events) c.loop-e.marks c.loop-e.e (w.in_ok-holds_after.ensures w.if-not-branch.false) (c.loop-e.invariant.marks old);
          })
      | else-events-e w ↦ rw (w.marks-is, w.last-is) (record {
        last = last-skip events c.loop-e.e c.args.replica c.loop-e.last (λ same. w.if-events-e.false (sym at ∙ same)) c.loop-e.invariant.last;
        marks = c.loop-e.invariant.marks;
      })
    ]
