use Rattle.std.proofs.Common.{◌<◌, ◌∙◌, ◌||◌, ◌&&◌, ap, sym, arith, length, not, refl, subst, List, ℕ}
use Rattle.ot_model.specs.Trace.{contains, event_at, inserted_tags}
use Rattle.ot_model.specs.WeakList.{known_deletions}
use Rattle.ot_judge.specs.Turns.{given, HoldsExactly, list_before}
use Rattle.ot_judge.specs.Contents.{first_misplaced}
use Rattle.ot_judge.specs.Views.{views}
use Rattle.ot_judge.proofs.Counts.{last-within}
use Rattle.ot_judge.proofs.Exactly.{holds-next}
use Rattle.ot_judge.proofs.Newly.{news-within}
use Rattle.ot_judge.proofs.Views.{event_at-views, length-views}
use Rattle.ot_judge.proofs.confirm.holds_after.Goals as goal

pub news_of-requires-clause-last : goal.news_of-requires-clause-last
news_of-requires-clause-last c = last-within _ _ _ _ _ c.requires.last c.requires.within

pub holds_exactly-requires-clause-last : goal.holds_exactly-requires-clause-last
holds_exactly-requires-clause-last c = last-within _ _ _ _ _ c.requires.last c.requires.within

pub holds_exactly-requires-clause-news : goal.holds_exactly-requires-clause-news
holds_exactly-requires-clause-news c =
    news-within _ c.args.e (length c.args.events.now) c.args.last _ _ (length-views c.args.events.now) c.as_slice-news.ensures.value (rw c.in-Some.is at c.in_ok-news.ensures)

pub returns : goal.returns
returns c = λ done hold.
    let events = views c.args.events.now in
    let within : c.args.e < length events = omega (arith, c.requires.within, length-views c.args.events.now) in
    let made = c.in_ok-news.ensures in
    let visible = c.if-not-sees_after.ensures refl (λ d lt. (hold d lt).visibility) in
    holds-next c.args.start.now events c.args.e c.args.last c.in-Some.news.items within c.requires.last c.requires.reads visible (rw c.in-Some.is at made) hold
    (subst (λ (ns : List ℕ). HoldsExactly (event_at events c.args.e).list (λ q. (contains (list_before c.args.start.now events c.args.last) q || contains (given events inserted_tags ns) q) && not (contains (known_deletions events c.args.e) q))) c.as_slice-news.ensures.value (c.in_ok-holds_exactly.ensures c.if-not-branch.false visible))
    (ap first_misplaced (event_at-views c.args.events.now c.args.e c.index-events-e.result c.requires.within c.index-events-e.is) ∙ sym c.first_misplaced.ensures ∙ c.in_default-first_misplaced.is)
