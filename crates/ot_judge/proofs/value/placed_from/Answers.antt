use Rattle.ot_judge.proofs.Spelled.{placed_from-none}
use Rattle.ot_judge.proofs.value.placed_from.Goals as goal

pub returns-then-items-ne3 : goal.returns-then-items-ne3
returns-then-items-ne3 c = placed_from-none c.args.items.now c.if-items-ne3.true
