use Rattle.ot_text.proofs.Writing.{found_left}
use Rattle.ot_text.proofs.place.Place.after.Goals as goal

pub returns-clause-left : goal.returns-clause-left
returns-clause-left g c = found_left c.args.list.now 0 c.find-leaf.result.0 c.find-leaf.result.1 c.args.count c.find-leaf.ensures.order c.find-leaf.ensures.count
