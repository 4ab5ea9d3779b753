use Rattle.std.proofs.Common.{◌≡◌, ℕ, true, false, get_or}
use Rattle.ot_judge.specs.Turns.{HoldsAfter, IsLastOf}
use Rattle.ot_judge.specs.Views.{views}
use Rattle.ot_judge.proofs.confirm.confirm_replica.Given as goal

abbrev pub invariant-loop-e : goal.invariant-loop-e
invariant-loop-e l = record {
  last : IsLastOf (views l.events) l.e l.replica l.last;
  marks : ((k : ℕ) → get_or l.fn.marks k false ≡ true → HoldsAfter l.start (views l.events) k) → (k : ℕ) → get_or l.marks k false ≡ true → HoldsAfter l.start (views l.events) k;
}
