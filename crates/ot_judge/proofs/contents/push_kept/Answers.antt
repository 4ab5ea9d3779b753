use Rattle.std.proofs.Common.{◌∙◌, ◌++◌, ap, sym, not, arith, List}
use Rattle.std.specs.Prelude.{filter}
use Rattle.std.specs.HashSet.{contains as set_contains}
use Rattle.std.proofs.lemmas.List.{append-nil, take_all}
use Rattle.std.proofs.lemmas.List.Elements.{filter_more}
use Rattle.ot_isa.specs.declared.elements.Tag.{Tag}
use Rattle.ot_model.specs.Trace.{same_tag}
use Rattle.ot_judge.proofs.Grown.{passed_over, pushed}
use Rattle.ot_judge.proofs.TagLemmas.{no_tag}
use Rattle.ot_judge.proofs.contents.push_kept.Goals.{then-not-contains+in_ok-push, else-not-contains}
use Rattle.ot_judge.proofs.contents.push_kept.Goals as goal

pub loop-a-init : goal.loop-a-init
loop-a-init c = sym (append-nil _)

pub loop-a-preserved : goal.loop-a-preserved
loop-a-preserved c =
    let more = filter_more (λ a. not (set_contains same_tag c.args.gone.now a)) c.args.tags.now c.loop-a.a-index no_tag c.loop-a-test.true in
    elim c.if-not-contains.branch [
      | then-not-contains+in_ok-push w ↦ rw w.kept-is (pushed _ _ _ _ _ _ _ more c.loop-a.invariant (ap not (sym c.contains.ensures ∙ w.if-not-contains.true)) w.in_ok-push.ensures.items)
      | else-not-contains w ↦ rw w.kept-is (passed_over _ _ _ _ _ _ more c.loop-a.invariant (ap not (sym c.contains.ensures ∙ w.if-not-contains.false)))
    ]

pub returns : goal.returns
returns c =
    c.loop-a.invariant ∙ ap (λ (xs : List Tag). c.args.kept.now.items ++ filter (λ a. not (set_contains same_tag c.args.gone.now a)) xs) (take_all c.loop-a.a-index c.args.tags.now (omega arith))
