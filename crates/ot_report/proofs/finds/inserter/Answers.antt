use Rattle.std.proofs.Common.{◌∙◌, ap, arith, length, sym}
use Rattle.std.proofs.lemmas.Bool.{and_from}
use Rattle.ot_judge.specs.Views.{views}
use Rattle.ot_judge.proofs.Views.{event_at-views, length-views}
use Rattle.ot_model.specs.Trace.{EventView}
use Rattle.ot_report.specs.Finds.{inserter_at, inserts}
use Rattle.ot_report.proofs.Below.{first-found, number-yes}
use Rattle.ot_report.proofs.finds.inserter.Goals as goal

pub returns-then-knows : goal.returns-then-knows
returns-then-knows c =
    let events = views c.args.events.now in
    let d = c.loop-d.d in
    let is = event_at-views c.args.events.now d c.index-events-d.result (omega arith) c.index-events-d.is in
    let has = ap (λ (x : EventView). inserts c.args.tag x) is ∙ sym c.inserts.ensures ∙ c.if-inserts.true in
    let known = sym c.knows.ensures ∙ c.if-knows.true in
    sym (first-found (inserter_at events c.args.e c.args.tag) (length events) d d (omega (arith, length-views c.args.events.now)) c.loop-d.invariant (number-yes _ d (and_from _ _ has known)))
