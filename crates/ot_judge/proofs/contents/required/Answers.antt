use Rattle.std.proofs.Common.{◌∙◌, ap, not, arith, map, length, ◌≡◌, ◌++◌, ℕ}
use Rattle.std.specs.HashSet.{contains as set_contains}
use Rattle.std.specs.Prelude.{filter}
use Rattle.std.proofs.lemmas.List.Elements.{filter_agree}
use Rattle.ot_model.specs.declared.trace.Placed.{Placed}
use Rattle.ot_model.specs.Trace.{same_tag, contains, inserted_tags, event_at}
use Rattle.ot_judge.specs.Views.{views}
use Rattle.ot_model.specs.WeakList.{knows, known_deletions}
use Rattle.ot_judge.proofs.Known.{filter-grown, map-known, from_first}
use Rattle.ot_judge.proofs.Views.{length-views}
use Rattle.ot_judge.proofs.contents.required.Goals as goal

pub loop-d-preserved : goal.loop-d-preserved
loop-d-preserved c =
    filter-grown (λ a. not (set_contains same_tag c.in_ok-gone.gone a)) c.args.start.now (views c.args.events.now) c.args.e inserted_tags c.loop-d.d _ _ _ c.loop-d.invariant c.in_ok-push_inserted.ensures
    (ap (map (λ (p : Placed). p.tag)) c.known_inserted.ensures ∙ map-known (knows (views c.args.events.now) c.args.e c.loop-d.d) (event_at (views c.args.events.now) c.loop-d.d).inserted)

pub returns : goal.returns
returns c =
    let all : c.loop-d.d ≡ length (views c.args.events.now) = omega (arith, length-views c.args.events.now) in
    c.loop-d.invariant
    ∙ filter_agree (λ a. not (set_contains same_tag c.in_ok-gone.gone a)) (λ a. not (contains (known_deletions (views c.args.events.now) c.args.e) a)) (λ a. ap not (c.in_ok-gone.ensures a)) (c.args.start.now ++ from_first (views c.args.events.now) c.args.e inserted_tags c.loop-d.d)
    ∙ ap (λ (n : ℕ). filter (λ a. not (contains (known_deletions (views c.args.events.now) c.args.e) a)) (c.args.start.now ++ from_first (views c.args.events.now) c.args.e inserted_tags n)) all
