use Rattle.std.proofs.Common.{ℕ, Vec, Global, arith, below_more, get_or, map, refl}
use Rattle.ot_model.specs.WeakList.{nth}
use Rattle.ot_judge.specs.Seats.{IsSeated}
use Rattle.ot_judge.proofs.seats.first_unseated.Goals as goal

pub loop-turn-preserved : goal.loop-turn-preserved
loop-turn-preserved c =
    below_more (λ k. IsSeated c.args.seats.now (nth (map (λ (v : Vec ℕ Global). v.items) c.args.lists.now) (get_or c.args.own.now k 0)) k) c.loop-turn.turn c.loop-turn.invariant (c.if-not-is_seated_at.ensures refl)

pub returns : goal.returns
returns c = λ _ k lt. c.loop-turn.invariant k (omega (arith, lt))
