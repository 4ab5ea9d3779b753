use Rattle.std.proofs.Common.{◌<◌, [], length, get_or, ap, arith}
use Rattle.std.proofs.lemmas.List.{length-drop}
use Rattle.ot_list.proofs.Leaved.{leaf_small}
use Rattle.ot_text.proofs.Writing.{skipped}
use Rattle.ot_text.proofs.place.Place.advance.Goals as goal

pub overflow_add-self : goal.overflow_add-self
overflow_add-self g c =
    let small = leaf_small g.T.Item.CAP c.args.list.now c.args.self.now.leaf c.leaf_count.ensures.leaves in
    let bounds = g.met.T.Item.bounds in
    omega (arith, length-drop c.args.self.now.offset (get_or c.args.list.now c.args.self.now.leaf []), bounds.2, ap length c.rest-rest.ensures.value)

pub returns-clause-left : goal.returns-clause-left
returns-clause-left g c =
    let there : c.args.self.now.leaf < length c.args.list.now = c.rest-rest.ensures.there in
    let inside = c.requires.inside there in
    skipped c.args.list.now c.args.self.now.leaf c.args.self.now.offset c.find-leaf.result.0 c.find-leaf.result.1 c.args.count (length c.rest-rest.result.now) there (omega (arith, inside)) (ap length c.rest-rest.ensures.value) (omega arith) c.find-leaf.ensures.order c.find-leaf.ensures.count
