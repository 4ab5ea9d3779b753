use Rattle.std.proofs.Common.{◌≡◌, ◌++◌, take, drop, reverse, vec_capacity}
use Rattle.ot_list.proofs.moves.move_last.Given as goal

abbrev pub invariant-loop-moved : goal.invariant-loop-moved
invariant-loop-moved g l = record {
  to_is : l.to.items ≡ l.initial.to.items ++ take l._moved (reverse l.initial.from.items);
  from_is : reverse l.from.items ≡ drop l._moved (reverse l.initial.from.items);
  to_capacity : vec_capacity l.to ≡ vec_capacity l.initial.to;
}
