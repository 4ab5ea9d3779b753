use Rattle.std.proofs.Common.{◌<◌, ℕ, get_or, map}
use Rattle.ot_model.specs.WeakList.{nth}
use Rattle.ot_judge.specs.Seats.{IsSeated}
use Rattle.ot_judge.proofs.seats.first_unseated.Given as goal

abbrev pub invariant-loop-turn : goal.invariant-loop-turn
invariant-loop-turn l = (k : ℕ) → k < l.turn → IsSeated l.seats (nth (map (λ v. v.items) l.lists) (get_or l.own k 0)) k
