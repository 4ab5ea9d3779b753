use Rattle.std.proofs.Common.{◌≡◌, ℕ, true, false, get_or, length}
use Rattle.ot_judge.specs.Turns.{HoldsAfter}
use Rattle.ot_judge.specs.Views.{views}
use Rattle.ot_judge.proofs.confirm.confirmed.Given as goal

abbrev pub invariant-loop-replica : goal.invariant-loop-replica
invariant-loop-replica l = record {
  long : length l.marks.items ≡ length l.events;
  holds : (k : ℕ) → get_or l.marks.items k false ≡ true → HoldsAfter l.start (views l.events) k;
}
