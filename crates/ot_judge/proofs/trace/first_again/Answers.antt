use Rattle.std.proofs.Common.{◌∙◌, sym, arith}
use Rattle.std.proofs.lemmas.Bool.{not-false, not-true}
use Rattle.ot_judge.proofs.Repeated.{again-end, again-here, again-on}
use Rattle.ot_judge.proofs.TagLemmas.{no_tag, set-more}
use Rattle.ot_judge.proofs.trace.first_again.Goals as goal

pub loop-a-preserved : goal.loop-a-preserved
loop-a-preserved c = record {
  same = λ q. set-more c.args.tags.now c.loop-a.a-index q no_tag _ _ c.loop-a-test.true (c.loop-a.invariant.same q) (c.in_ok-insert.ensures.updates.0 q);
  left = again-on c.args.tags.now c.loop-a.a-index no_tag c.loop-a-test.true (sym (c.loop-a.invariant.same _) ∙ not-true _ (sym c.in_ok-insert.ensures.added ∙ c.if-not-branch.false)) c.loop-a.invariant.left;
}

pub returns-then-not-branch : goal.returns-then-not-branch
returns-then-not-branch c = again-here c.args.tags.now c.loop-a.a-index no_tag c.loop-a-test.true (sym (c.loop-a.invariant.same _) ∙ not-false _ (sym c.in_ok-insert.ensures.added ∙ c.if-not-branch.true)) c.loop-a.invariant.left

pub returns : goal.returns
returns c = again-end c.args.tags.now c.loop-a.a-index (omega arith) c.loop-a.invariant.left
