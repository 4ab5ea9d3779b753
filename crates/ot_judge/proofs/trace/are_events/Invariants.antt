use Rattle.std.proofs.Common.{◌≡◌, take, true}
use Rattle.std.specs.List.{list_all}
use Rattle.ot_judge.specs.Making.{is_event}
use Rattle.ot_judge.specs.Views.{views}
use Rattle.ot_judge.proofs.trace.are_events.Given as goal

abbrev pub invariant-loop-x : goal.invariant-loop-x
invariant-loop-x l = list_all (is_event l.replicas) (views (take l.x-index l.events)) ≡ true
