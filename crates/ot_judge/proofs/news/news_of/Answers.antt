use Rattle.std.proofs.Common.{◌≡◌, ◌∙◌, ◌<◌, ◌++◌, ◌∷◌, [], arith, ap, length, inl, inr, subst, ℕ, List}
use Rattle.std.proofs.lemmas.Bool.{cases_lt}
use Rattle.ot_model.specs.Trace.{event_at}
use Rattle.ot_judge.specs.Turns.{Adds}
use Rattle.ot_model.specs.Visibility.{seen_of}
use Rattle.ot_judge.specs.Views.{views}
use Rattle.ot_judge.proofs.Newly.{news-all, own-known, own-there}
use Rattle.ot_judge.proofs.Views.{event_at-views, length-views}
use Rattle.ot_judge.proofs.news.news_of.Goals as goal

pub loop-replica-preserved : goal.loop-replica-preserved
loop-replica-preserved c =
    let adds = c.in_ok-add_seen.ensures c.if-not-branch.false in
    record {
      known = adds.known c.loop-replica.invariant.known;
      own = adds.kept c.args.e c.loop-replica.invariant.own;
      rest = λ r lt d within edit few. elim (cases_lt r c.loop-replica.replica) [
        | inl below ↦ elim (c.loop-replica.invariant.rest r below d within edit few) [ inl knew ↦ inl knew | inr has ↦ inr (adds.kept d has) ]
        | inr above ↦
            let here : c.loop-replica.replica ≡ r = omega (arith, lt, above) in
            (subst (λ (k : ℕ). Adds (views c.args.events.now) c.args.e c.args.last k (seen_of (event_at (views c.args.events.now) c.args.e) k) c.loop-replica.news.items c.add_seen.new.news.items) here adds).rest d within edit few
      ];
    }

pub returns : goal.returns
returns c =
    let at = event_at-views c.args.events.now c.args.e c.index-events-e.result c.requires.within c.index-events-e.is in
    news-all (views c.args.events.now) c.args.e c.loop-replica.replica c.args.last c.loop-replica.news.items
    (omega (arith, c.loop-replica-test.false, ap (λ (xs : List ℕ). length xs) c.as_slice-seen.ensures.value, ap (λ x. length x.seen) at)) c.loop-replica.invariant.known c.loop-replica.invariant.own c.loop-replica.invariant.rest

pub loop-replica-init : goal.loop-replica-init
loop-replica-init c =
    let within : c.args.e < length (views c.args.events.now) = omega (arith, c.requires.within, length-views c.args.events.now) in
    let one = c.in_ok-push.ensures.items ∙ ap (λ (ns : List ℕ). ns ++ c.args.e ∷ []) c.new-news.ensures.items in
    record { known = own-known (views c.args.events.now) c.args.e _ within one; own = own-there c.args.e _ one; rest = λ r lt. absurd (omega (arith, lt)) }
