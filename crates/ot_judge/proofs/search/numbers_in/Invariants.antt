use Rattle.std.proofs.Common.{◌≡◌, map, take}
use Rattle.ot_judge.specs.Ranks.{rank_of}
use Rattle.ot_judge.proofs.search.numbers_in.Given as goal

abbrev pub invariant-loop-a : goal.invariant-loop-a
invariant-loop-a l = l.list.items ≡ map (rank_of l.numbers) (take l.a-index l.xs)
