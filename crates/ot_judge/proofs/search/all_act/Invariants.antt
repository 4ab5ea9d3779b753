use Rattle.std.proofs.Common.{◌<◌, ℕ}
use Rattle.ot_judge.specs.Replicas.{entry_of}
use Rattle.ot_judge.proofs.search.all_act.Given as goal

abbrev pub invariant-loop-e : goal.invariant-loop-e
invariant-loop-e l = (e : ℕ) → e < l.e → entry_of l.actors e < l.replicas
