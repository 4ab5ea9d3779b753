use Rattle.ot_judge.proofs.Spelled.{tag_from-none}
use Rattle.ot_judge.proofs.value.tag_from.Goals as goal

pub returns-then-items-ne2 : goal.returns-then-items-ne2
returns-then-items-ne2 c = tag_from-none c.args.items.now c.if-items-ne2.true
