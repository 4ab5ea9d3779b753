use Rattle.std.proofs.Common.{◌∙◌, ◌||◌, ◌&&◌, ap, sym, refl, List, Bool, not, subst}
use Rattle.std.specs.HashSet.{contains as set_contains}
use Rattle.ot_isa.specs.declared.elements.Tag.{Tag}
use Rattle.ot_model.specs.Trace.{contains, EventView, inserted_tags, same_tag}
use Rattle.ot_model.specs.WeakList.{known_deletions}
use Rattle.ot_judge.specs.Views.{views}
use Rattle.ot_judge.specs.Turns.{given, HoldsExactly, list_before}
use Rattle.ot_judge.proofs.Exactly.{exactly-from, set-empty}
use Rattle.ot_judge.proofs.Views.{event_at-views}
use Rattle.ot_judge.proofs.confirm.holds_exactly.Goals as goal

pub returns : goal.returns
returns c = λ done visible.
    let events = views c.args.events.now in
    let at = event_at-views c.args.events.now c.args.e c.index-events-e.result c.requires.within c.index-events-e.is in
    let held : Tag → Bool = contains (list_before c.args.start.now events c.args.last) in
    let inserted : Tag → Bool = contains (given events inserted_tags c.args.news.now) in
    let gone : Tag → Bool = contains (known_deletions events c.args.e) in
    let made = c.in_ok-left.ensures in
    subst (λ (xs : List Tag). HoldsExactly xs (λ q. (held q || inserted q) && not (gone q))) (c.as_slice.ensures.value ∙ sym (ap (λ (x : EventView). x.list) at))
    (exactly-from c.as_slice.result.now (set_contains same_tag c.in-Some.left) (set_contains same_tag c.take_held.new.set) (set_contains same_tag c.take_news.new.set) held inserted gone (rw c.in-Some.is at made)
    (c.if-not-take_held.ensures refl visible) (c.if-not-take_news.ensures refl visible) (λ q. set-empty c.take_news.new.set q (c.is_empty.ensures.0 done)))
