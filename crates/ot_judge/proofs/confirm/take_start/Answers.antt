use Rattle.std.proofs.Common.{arith, refl}
use Rattle.ot_model.specs.Trace.{contains}
use Rattle.ot_model.specs.WeakList.{known_deletions}
use Rattle.ot_judge.specs.Views.{views}
use Rattle.ot_judge.proofs.TagLemmas.{no_tag}
use Rattle.ot_judge.proofs.Exactly.{taken-all, taken-next}
use Rattle.ot_judge.proofs.confirm.take_start.Goals as goal

pub loop-n-preserved : goal.loop-n-preserved
loop-n-preserved c = λ visible.
    taken-next _ _ _ (contains (known_deletions (views c.args.events.now) c.args.e)) c.args.start.now c.loop-n.n _ no_tag c.loop-n-test.true refl (c.loop-n.invariant visible) (c.if-not-take_one.ensures refl visible)

pub returns : goal.returns
returns c = λ done visible. taken-all _ _ (contains (known_deletions (views c.args.events.now) c.args.e)) c.args.start.now c.loop-n.n (omega arith) (c.loop-n.invariant visible)
