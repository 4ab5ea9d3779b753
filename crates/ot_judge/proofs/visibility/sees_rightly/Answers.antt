use Rattle.std.proofs.Common.{arith, ap, sym, ◌∙◌}
use Rattle.ot_judge.proofs.Views.{event_at-views}
use Rattle.ot_judge.specs.Views.{views}
use Rattle.ot_model.specs.Visibility.{seen_of, edits_before}
use Rattle.ot_judge.proofs.visibility.sees_rightly.Goals as goal

pub returns-then-seen_of-edits_before : goal.returns-then-seen_of-edits_before
returns-then-seen_of-edits_before c =
    let is = event_at-views c.args.events.now c.args.e c.index-events-e.result c.requires.within c.index-events-e.is in
    (λ h. cc, λ h. absurd (omega (arith, ap (λ x. seen_of x x.replica) is, ap (λ x. edits_before (views c.args.events.now) c.args.e x.replica) is, h.own, c.seen_of.ensures, c.edits_before.ensures.value, c.if-seen_of-edits_before.true)))

pub returns-then-not-sees_past : goal.returns-then-not-sees_past
returns-then-not-sees_past c = (λ h. cc, λ h. absurd (grind (arith, c.sees_past.ensures.1 h.past)))

pub returns : goal.returns
returns c =
    let is = event_at-views c.args.events.now c.args.e c.index-events-e.result c.requires.within c.index-events-e.is in (
      λ h. record {
        own = ap (λ x. seen_of x x.replica) is ∙ sym c.seen_of.ensures ∙ grind arith ∙ c.edits_before.ensures.value ∙ sym (ap (λ x. edits_before (views c.args.events.now) c.args.e x.replica) is);
        past = c.sees_past.ensures.0 (grind arith);
        closed = c.sees_closed.ensures.0 h;
      },
      λ h. c.sees_closed.ensures.1 h.closed,
    )
