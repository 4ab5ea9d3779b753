use Rattle.std.proofs.Common.{◌<◌, arith, ap}
use Rattle.ot_model.specs.Trace.{event_at}
use Rattle.ot_model.specs.Visibility.{seen_of}
use Rattle.ot_judge.specs.Views.{views}
use Rattle.ot_judge.proofs.Newly.{adds-more, adds-none, adds-skip, adds-upto}
use Rattle.ot_judge.proofs.Views.{event_at-views}
use Rattle.ot_judge.proofs.news.add_seen.Goals.{then-not-is_last+in_ok-push, else-not-is_last}
use Rattle.ot_judge.proofs.news.add_seen.Goals as goal

pub loop-n-init : goal.loop-n-init
loop-n-init c = adds-none (views c.args.events.now) c.args.e c.args.replica c.seen_before-n.result c.args.last c.args.news.now.items c.seen_before-n.ensures

pub loop-n-preserved : goal.loop-n-preserved
loop-n-preserved c =
    let found = c.find_edit.ensures in
    let is = rw c.in-Some.is at found in
    let at = event_at-views c.args.events.now c.args.e c.index-events-e.result c.requires.within c.index-events-e.is in
    let few : c.loop-n.n < seen_of (event_at (views c.args.events.now) c.args.e) c.args.replica = omega (arith, c.loop-n-test.true, c.seen_of-n-end.ensures, ap (λ x. seen_of x c.args.replica) at) in
    elim c.if-not-is_last.branch [
      | then-not-is_last+in_ok-push w ↦ rw w.news-is (adds-more _ _ _ _ c.in-Some.d _ _ _ _ w.in_ok-push.ensures.items few is c.loop-n.invariant)
      | else-not-is_last w ↦ rw w.news-is (adds-skip _ _ _ _ c.in-Some.d _ _ _ (c.is_last.ensures w.if-not-is_last.false) is c.loop-n.invariant)
    ]

pub returns : goal.returns
returns c = λ h.
    let at = event_at-views c.args.events.now c.args.e c.index-events-e.result c.requires.within c.index-events-e.is in
    adds-upto _ _ _ _ c.loop-n.n _ _ _ (omega (arith, c.loop-n-test.false, c.seen_of-n-end.ensures, ap (λ x. seen_of x c.args.replica) at)) c.loop-n.invariant
