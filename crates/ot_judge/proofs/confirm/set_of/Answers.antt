use Rattle.std.proofs.Common.{◌∙◌, sym, subst, arith, List}
use Rattle.std.specs.HashSet.{contains as set_contains}
use Rattle.std.proofs.lemmas.Bool.{not-true}
use Rattle.std.proofs.lemmas.List.{take_all}
use Rattle.ot_isa.specs.declared.elements.Tag.{Tag}
use Rattle.ot_model.specs.Trace.{same_tag}
use Rattle.ot_judge.specs.Turns.{StandsOnce}
use Rattle.ot_judge.proofs.Exactly.{once-more}
use Rattle.ot_judge.proofs.confirm.set_of.Goals as goal

pub loop-a-preserved : goal.loop-a-preserved
loop-a-preserved c = λ q. once-more c.args.list.now c.loop-a.a-index q _ _ _ c.loop-a-test.true (c.loop-a.invariant q) (c.loop-a.invariant _) (not-true _ (sym c.in_ok-insert.ensures.added ∙ c.if-not-branch.false)) (c.in_ok-insert.ensures.updates.0 q)

pub returns : goal.returns
returns c = λ q. subst (λ (xs : List Tag). StandsOnce xs q (set_contains same_tag c.loop-a.set q)) (take_all c.loop-a.a-index c.args.list.now (omega arith)) (c.loop-a.invariant q)
