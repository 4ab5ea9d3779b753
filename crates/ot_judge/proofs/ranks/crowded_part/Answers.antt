use Rattle.std.proofs.Common.{[], ◌∙◌, ap, sym}
use Rattle.std.specs.HashSet.{contains}
use Rattle.std.specs.Prelude.{nat_eq}
use Rattle.std.proofs.lemmas.List.Elements.{filter_more}
use Rattle.ot_judge.specs.Ranks.{is_crowded}
use Rattle.ot_judge.proofs.Grown.{passed_over, pushed}
use Rattle.ot_judge.proofs.TagLemmas.{no_tag}
use Rattle.ot_judge.proofs.ranks.crowded_part.Goals.{then-contains+in_ok-push, else-contains}
use Rattle.ot_judge.proofs.ranks.crowded_part.Goals as goal

pub loop-a-preserved : goal.loop-a-preserved
loop-a-preserved c =
    let more = filter_more (is_crowded c.args.ranks.now c.args.crowded.now) c.args.xs.now c.loop-a.a-index no_tag c.loop-a-test.true in
    let is = ap (contains nat_eq c.args.crowded.now) (sym c.place_in.ensures) ∙ sym c.contains.ensures in
    elim c.if-contains.branch [
      | then-contains+in_ok-push w ↦ rw w.kept-is (pushed [] _ _ _ _ _ _ more c.loop-a.invariant (is ∙ w.if-contains.true) w.in_ok-push.ensures.items)
      | else-contains w ↦ rw w.kept-is (passed_over [] _ _ _ _ _ more c.loop-a.invariant (is ∙ w.if-contains.false))
    ]
