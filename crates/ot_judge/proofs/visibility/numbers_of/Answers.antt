use Rattle.std.proofs.Common.{◌∙◌, ◌∷◌, [], ◌+◌, ℕ, ap, sym, arith, cond, length, length-append}
use Rattle.ot_model.specs.Trace.{EventView, event_at}
use Rattle.ot_model.specs.Visibility.{edits_before, is_edit_of}
use Rattle.ot_judge.specs.Views.{event_view, views}
use Rattle.ot_judge.proofs.Grown.{each-more}
use Rattle.ot_judge.proofs.Views.{edits_before-le, edits_before-more, event_at-views, length-views}
use Rattle.ot_judge.proofs.visibility.numbers_of.Goals as goal

pub loop-d-preserved : goal.loop-d-preserved
loop-d-preserved c =
    let events = views c.args.events.now in
    let d = c.loop-d.d in
    let x = c.index-events-d.result in
    let at = event_at-views c.args.events.now d x c.loop-d-test.true c.index-events-d.is in
    let here = c.count_of-before.ensures ∙ c.loop-d.invariant.counted x.replica ∙ ap (λ (y : EventView). edits_before events d y.replica) (sym at) in
    record {
      long = omega (arith, ap length c.in_ok-push.ensures.items, length-append c.loop-d.numbers.items (c.count_of-before.result ∷ []), c.loop-d.invariant.long);
      each = each-more (λ k. edits_before events k (event_at events k).replica) c.loop-d.numbers.items c.push.new.self.items d c.count_of-before.result c.loop-d.invariant.long c.loop-d.invariant.each here c.in_ok-push.ensures.items;
      counted = λ r. c.in_ok-count_edit.ensures r ∙ ap (λ (n : ℕ). n + cond (is_edit_of r (event_view x)) 1 0) (c.loop-d.invariant.counted r) ∙ sym (edits_before-more c.args.events.now d r x c.loop-d-test.true c.index-events-d.is);
    }

pub returns : goal.returns
returns c =
    let long = length-views c.args.events.now in
    record { long = omega (arith, long, c.loop-d.invariant.long); each = λ d lt. c.loop-d.invariant.each d (omega (arith, long, lt)) }

pub count_edit-requires-clause-small : goal.count_edit-requires-clause-small
count_edit-requires-clause-small c =
    let x = c.index-events-d.result in
    omega (arith, c.count_of-before.ensures, c.loop-d.invariant.counted x.replica, edits_before-le c.args.events.now c.loop-d.d x.replica (omega (arith, c.loop-d-test.true)))
