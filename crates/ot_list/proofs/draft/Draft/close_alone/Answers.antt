use Rattle.std.proofs.Common.{refl}
use Rattle.ot_list.specs.declared.draft.Draft.{Draft}
use Rattle.ot_list.proofs.Drafted.{closed_alone}
use Rattle.ot_list.proofs.draft.Draft.close_alone.Goals as goal

pub returns : goal.returns
returns g c =
    let d = c.args.self.now in
    let e : Draft g.row.E.Denot g.row.E-Sum.Denot = record { pending = c.take_front.new.items; spans = d.spans; leaves = d.leaves; sums = d.sums; first = d.first; kept = d.kept; place = d.place } in
    closed_alone g.E.Item.CAP g.E.Item.total c.args.old.now d e c.add.new.self c.in_ok-leaf.leaf.items c.args.count (record { spans = refl; leaves = refl; sums = refl; first = refl; kept = refl; place = refl })
    c.in_ok-leaf.ensures.rest c.in_ok-add.ensures c.in_ok-leaf.ensures.front c.requires.enough
