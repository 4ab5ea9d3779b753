use Rattle.std.proofs.Common.{◌∙◌, ◌&&◌, ap, sym, arith, refl, map, List, ℕ, get_or, not, subst}
use Rattle.std.specs.HashSet.{contains as set_contains}
use Rattle.ot_model.specs.declared.trace.Placed.{Placed}
use Rattle.ot_model.specs.Trace.{contains, inserted_tags, same_tag}
use Rattle.ot_model.specs.WeakList.{known_deletions}
use Rattle.ot_judge.specs.Views.{views}
use Rattle.std.proofs.lemmas.List.{take_all}
use Rattle.ot_judge.specs.Turns.{given, IsTaken}
use Rattle.ot_judge.proofs.Exactly.{taken-given}
use Rattle.ot_judge.proofs.Views.{event_at-views}
use Rattle.ot_judge.proofs.confirm.take_news.Goals as goal

pub loop-i-preserved : goal.loop-i-preserved
loop-i-preserved c = λ visible.
    let events = views c.args.events.now in
    let d : ℕ = get_or c.args.news.now c.loop-i.i 0 in
    let at = event_at-views c.args.events.now d c.index-events-news.result (c.requires.news c.loop-i.i 0 c.loop-i-test.true) c.index-events-news.is in
    taken-given _ _ _ (contains (known_deletions events c.args.e)) events c.args.news.now c.loop-i.i _ c.loop-i-test.true (ap (map (λ (p : Placed). p.tag)) c.as_slice-inserted.ensures.value ∙ sym (ap inserted_tags at)) (c.loop-i.invariant visible) (c.if-not-take_inserted.ensures refl visible)

pub returns : goal.returns
returns c = λ done visible.
    let events = views c.args.events.now in
    subst (λ (ns : List ℕ). IsTaken (set_contains same_tag c.args.set.now) (set_contains same_tag c.loop-i.set) (λ q. contains (given events inserted_tags ns) q && not (contains (known_deletions events c.args.e) q))) (take_all c.loop-i.i c.args.news.now (omega arith)) (c.loop-i.invariant visible)
