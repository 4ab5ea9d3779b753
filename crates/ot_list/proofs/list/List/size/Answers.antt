use Rattle.std.proofs.Common.{◌≡◌, ◌≤◌, length, get_or, [], arith}
use Rattle.ot_list.proofs.Leaved.{leaf_small}
use Rattle.ot_list.proofs.Replacing.{leaf_size}
use Rattle.ot_list.proofs.list.List.size.Goals as goal

pub returns : goal.returns
returns g c =
    let sums = rw c.self.view_is at c.self.invariant.0 in
    let whole = rw c.self.view_is at c.self.invariant.1 in
    let n : c.count.result ≡ length (get_or c.args.self.now c.args.place []) =
    leaf_size g.E.Item.CAP g.E.Item.total g.E.Item.count_of g.met.E.Item.counts c.args.self.now whole c.self.inside.sums.items sums c.args.place c.requires c.index.result.now c.index.ensures c.count.result c.count.ensures in
    let small : length (get_or c.args.self.now c.args.place []) ≤ g.E.Item.CAP = leaf_small g.E.Item.CAP c.args.self.now c.args.place whole in
    record { value = n; small = omega arith; cap = g.met.E.Item.bounds.2 }
