use Rattle.std.proofs.Common.{◌-◌, ap, arith}
use Rattle.ot_model.specs.Visibility.{seen_of}
use Rattle.ot_judge.specs.Views.{views}
use Rattle.ot_judge.proofs.Counts.{backed-by}
use Rattle.ot_judge.proofs.Views.{event_at-views}
use Rattle.ot_judge.proofs.visibility.is_backed.Goals as goal

pub returns-then-d-e : goal.returns-then-d-e
returns-then-d-e c = λ h.
    let at_e = event_at-views c.args.events.now c.args.e c.index-events-e.result c.requires.within c.index-events-e.is in
    let at_d = event_at-views c.args.events.now c.in-Some.d c.index-events-d.result (omega (arith, c.if-d-e.true, c.requires.within)) c.index-events-d.is in
    backed-by (views c.args.events.now) c.args.e c.args.replica (c.seen_of-count.result - 1) c.in-Some.d c.in-Some.ensures
    (omega (arith, c.seen_of-count.ensures, c.if-count-eq0.false, ap (λ x. seen_of x c.args.replica) at_e)) c.if-d-e.true
    (λ r. omega (arith, c.sees_at_most.ensures.0 h r, ap (λ x. seen_of x r) at_e, ap (λ x. seen_of x r) at_d))
