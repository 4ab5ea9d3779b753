use Rattle.std.specs.Prelude.{◌≡◌, take, filter}
use Rattle.ot_judge.specs.Ranks.{is_crowded}
use Rattle.ot_judge.proofs.ranks.crowded_part.Given as goal

abbrev pub invariant-loop-a : goal.invariant-loop-a
invariant-loop-a l = l.kept.items ≡ filter (is_crowded l.ranks l.crowded) (take l.a-index l.xs)
