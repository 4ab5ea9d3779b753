use Rattle.ot_list.proofs.Leaved.{leaves_few}
use Rattle.ot_list.proofs.laws.leaves_are_few.Goals as goal

pub returns : goal.returns
returns g c = leaves_few g.E.Item.CAP c.args.list.now c.leaf_count.ensures.leaves
