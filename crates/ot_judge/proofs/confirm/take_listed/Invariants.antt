use Rattle.std.proofs.Common.{◌&&◌, not, take}
use Rattle.std.specs.HashSet.{contains as set_contains}
use Rattle.ot_model.specs.Trace.{contains, same_tag}
use Rattle.ot_model.specs.Visibility.{SeesRightly}
use Rattle.ot_model.specs.WeakList.{known_deletions}
use Rattle.ot_judge.specs.Turns.{IsTaken}
use Rattle.ot_judge.specs.Views.{views}
use Rattle.ot_judge.proofs.confirm.take_listed.Given as goal

abbrev pub invariant-loop-i : goal.invariant-loop-i
invariant-loop-i l = SeesRightly (views l.events) l.e → IsTaken (set_contains same_tag l.fn.set) (set_contains same_tag l.set) (λ q. contains (take l.i l.list) q && not (contains (known_deletions (views l.events) l.e) q))
