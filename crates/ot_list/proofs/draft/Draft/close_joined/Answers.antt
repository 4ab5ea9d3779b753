use Rattle.std.proofs.Common.{◌≡◌, ◌≤◌, ◌++◌, length, take, length-append, refl, arith}
use Rattle.ot_list.specs.Leaves.{last_leaf}
use Rattle.ot_list.specs.Written.{front_of}
use Rattle.ot_list.proofs.Drafted.{closed_joined, may_join}
use Rattle.ot_list.proofs.draft.Draft.close_joined.Goals as goal

pub add-requires-clause-end : goal.add-requires-clause-end
add-requires-clause-end g c =
    let longer : length (last_leaf (front_of c.args.old.now c.args.self.now)) ≤ length c.extend_from_slice-2.new.self.items = rw (c.in_ok-extend_from_slice-2.ensures.items, c.in_ok-extend_from_slice.ensures.items, c.in_ok-leaf.ensures.items, c.last_items-last.ensures, length-append) (omega arith) in
    may_join g.E.Item.CAP g.E.Item.total c.args.old.now c.args.self.now c.drop_last.new.self (length c.extend_from_slice-2.new.self.items) c.requires.draft c.drop_last.ensures longer

pub returns : goal.returns
returns g c =
    let d = c.args.self.now in
    let is : c.extend_from_slice-2.new.self.items ≡ last_leaf (front_of c.args.old.now d) ++ take c.args.count d.pending.items = rw (c.in_ok-extend_from_slice-2.ensures.items, c.in_ok-extend_from_slice.ensures.items, c.in_ok-leaf.ensures.items, c.last_items-last.ensures, c.as_slice-pending.ensures.value) refl in
    closed_joined g.E.Item.CAP g.E.Item.total c.args.old.now d c.drop_last.new.self c.add.new.self _ c.extend_from_slice-2.new.self.items c.args.count c.requires.draft c.drop_last.ensures c.in_ok-add.ensures is c.requires.enough
    (record { spans = refl; leaves = refl; sums = refl; first = refl; kept = refl; place = refl }) c.drop_front.ensures
