use Rattle.std.proofs.Common.{◌≡◌, ℕ, take, true}
use Rattle.std.specs.Prelude.{nat_eq}
use Rattle.std.specs.HashSet.{contains as set_contains}
use Rattle.ot_judge.specs.Ranks.{IsAccounted}
use Rattle.ot_judge.proofs.ranks.add_crowded.Given as goal

abbrev pub invariant-loop-a : goal.invariant-loop-a
invariant-loop-a l = record {
  grown : (n : ℕ) → set_contains nat_eq l.fn.crowded n ≡ true → set_contains nat_eq l.crowded n ≡ true;
  accounted : IsAccounted l.ranks l.owners l.crowded (take l.a-index l.xs);
}
