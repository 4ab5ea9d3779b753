use Rattle.std.proofs.Common.{◌∙◌, List, ap, arith, length, sym}
use Rattle.std.proofs.lemmas.Bool.{and_from}
use Rattle.ot_isa.specs.declared.elements.Tag.{Tag}
use Rattle.ot_judge.specs.Views.{views}
use Rattle.ot_judge.proofs.Views.{event_at-views, length-views}
use Rattle.ot_model.specs.Trace.{EventView, contains}
use Rattle.ot_report.specs.Finds.{deleter_at}
use Rattle.ot_report.proofs.Below.{first-found, number-yes}
use Rattle.ot_report.proofs.finds.deleter.Goals as goal

pub returns-then-knows : goal.returns-then-knows
returns-then-knows c =
    let events = views c.args.events.now in
    let d = c.loop-d.d in
    let is = event_at-views c.args.events.now d c.index-events-d.result (omega arith) c.index-events-d.is in
    let found = c.contains.ensures ∙ ap (λ (tags : List Tag). contains tags c.args.tag) c.as_slice.ensures.value in
    let here = ap (λ (x : EventView). contains x.deleted c.args.tag) is in
    let has = here ∙ sym found ∙ c.if-contains.true in
    let known = sym c.knows.ensures ∙ c.if-knows.true in
    sym (first-found (deleter_at events c.args.e c.args.tag) (length events) d d (omega (arith, length-views c.args.events.now)) c.loop-d.invariant (number-yes _ d (and_from _ _ has known)))
