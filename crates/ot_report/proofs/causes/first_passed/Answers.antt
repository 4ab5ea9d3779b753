use Rattle.std.proofs.Common.{ap, sym, arith, length}
use Rattle.std.proofs.lemmas.Bool.{lt-ltb}
use Rattle.ot_judge.specs.Views.{views}
use Rattle.ot_judge.proofs.Views.{event_at-views}
use Rattle.ot_model.specs.Trace.{EventView, event_at}
use Rattle.ot_model.specs.Visibility.{seen_of}
use Rattle.ot_report.specs.Causes.{passed_at}
use Rattle.ot_report.proofs.Below.{first-found, number-yes}
use Rattle.ot_report.proofs.causes.first_passed.Goals as goal

pub returns-then-edits_before-seen_of : goal.returns-then-edits_before-seen_of
returns-then-edits_before-seen_of c =
    let events = views c.args.events.now in
    let is = event_at-views c.args.events.now c.args.e c.index-events-e.result c.requires c.index-events-e.is in
    let long = ap (λ (x : EventView). length x.seen) is in
    let seen = ap (λ (x : EventView). seen_of x c.loop-r.r) is in
    sym (first-found (passed_at events c.args.e) (length (event_at events c.args.e).seen) c.loop-r.r c.loop-r.r (omega (arith, c.len-r-end.ensures, long)) c.loop-r.invariant
    (number-yes _ c.loop-r.r (lt-ltb _ _ (omega (arith, c.edits_before.ensures.value, c.seen_of.ensures, seen, c.if-edits_before-seen_of.true)))))
