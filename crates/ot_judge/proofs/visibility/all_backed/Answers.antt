use Rattle.std.proofs.Common.{ap, arith, length}
use Rattle.ot_judge.specs.declared.trace.Event.{Event}
use Rattle.ot_judge.specs.Views.{views}
use Rattle.ot_judge.proofs.Counts.{backed-all}
use Rattle.ot_judge.proofs.Views.{event_at-views}
use Rattle.ot_judge.proofs.visibility.all_backed.Goals as goal

pub returns : goal.returns
returns c = λ h.
    let at = event_at-views c.args.events.now c.args.e c.index-events-e.result c.requires.within c.index-events-e.is in
    backed-all (views c.args.events.now) c.args.e c.loop-r.r (omega (arith, c.loop-r-test.false, c.len-r-end.ensures, c.index-events-e.result.seen.ok.0, ap (λ (x : Event). x.seen.len) c.index-events-e.is, ap (λ x. length x.seen) at)) c.loop-r.invariant
