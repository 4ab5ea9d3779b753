use Rattle.ot_judge.specs.Views.{views}
use Rattle.ot_judge.proofs.Known.{contains-grown}
use Rattle.ot_judge.proofs.contents.deletions.Goals as goal

pub loop-d-preserved : goal.loop-d-preserved
loop-d-preserved c = λ q. contains-grown (views c.args.events.now) c.args.e (λ x. x.deleted) c.loop-d.d q _ _ _ (c.loop-d.invariant q) (c.in_ok-add_all.ensures q) c.known_deleted.ensures
