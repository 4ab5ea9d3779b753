use Rattle.std.proofs.Common.{◌∙◌, ◌++◌, ap, sym, not, arith, List, map}
use Rattle.std.specs.Prelude.{filter}
use Rattle.std.specs.HashSet.{contains as set_contains}
use Rattle.std.proofs.lemmas.List.{append-nil, take_all}
use Rattle.ot_model.specs.declared.trace.Placed.{Placed}
use Rattle.ot_model.specs.Trace.{same_tag}
use Rattle.ot_judge.proofs.Grown.{passed_over, pushed}
use Rattle.ot_judge.proofs.TagLemmas.{filter-tags-more, no_tag}
use Rattle.ot_judge.proofs.contents.push_inserted.Goals.{then-not-contains+in_ok-push, else-not-contains}
use Rattle.ot_judge.proofs.contents.push_inserted.Goals as goal

pub loop-p-init : goal.loop-p-init
loop-p-init c = sym (append-nil _)

pub loop-p-preserved : goal.loop-p-preserved
loop-p-preserved c =
    let more = filter-tags-more (λ a. not (set_contains same_tag c.args.gone.now a)) c.args.inserted.now c.loop-p.p-index (record { tag = no_tag; place = 0 }) c.loop-p-test.true in
    elim c.if-not-contains.branch [
      | then-not-contains+in_ok-push w ↦ rw w.kept-is (pushed _ _ _ _ _ _ _ more c.loop-p.invariant (ap not (sym c.contains.ensures ∙ w.if-not-contains.true)) w.in_ok-push.ensures.items)
      | else-not-contains w ↦ rw w.kept-is (passed_over _ _ _ _ _ _ more c.loop-p.invariant (ap not (sym c.contains.ensures ∙ w.if-not-contains.false)))
    ]

pub returns : goal.returns
returns c =
    c.loop-p.invariant ∙ ap (λ (ps : List Placed). c.args.kept.now.items ++ filter (λ a. not (set_contains same_tag c.args.gone.now a)) (map (λ (p : Placed). p.tag) ps)) (take_all c.loop-p.p-index c.args.inserted.now (omega arith))
