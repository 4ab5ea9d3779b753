use Rattle.ot_judge.specs.Replicas.{IsOwn}
use Rattle.ot_judge.proofs.search.own_of.Given as goal

abbrev pub invariant-loop-e : goal.invariant-loop-e
invariant-loop-e l = IsOwn l.actors l.e l.replica l.own.items
