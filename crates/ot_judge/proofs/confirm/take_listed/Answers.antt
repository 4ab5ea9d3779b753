use Rattle.std.proofs.Common.{arith, refl}
use Rattle.ot_model.specs.Trace.{contains}
use Rattle.ot_model.specs.WeakList.{known_deletions}
use Rattle.ot_judge.specs.Views.{views}
use Rattle.ot_judge.proofs.TagLemmas.{no_tag}
use Rattle.ot_judge.proofs.Exactly.{taken-all, taken-next}
use Rattle.ot_judge.proofs.confirm.take_listed.Goals as goal

pub loop-i-preserved : goal.loop-i-preserved
loop-i-preserved c = λ visible.
    taken-next _ _ _ (contains (known_deletions (views c.args.events.now) c.args.e)) c.args.list.now c.loop-i.i _ no_tag c.loop-i-test.true refl (c.loop-i.invariant visible) (c.if-not-take_one.ensures refl visible)

pub returns : goal.returns
returns c = λ done visible. taken-all _ _ (contains (known_deletions (views c.args.events.now) c.args.e)) c.args.list.now c.loop-i.i (omega arith) (c.loop-i.invariant visible)
