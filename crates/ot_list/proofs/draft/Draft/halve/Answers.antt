use Rattle.std.proofs.Common.{arith}
use Rattle.ot_list.proofs.Drafted.{halved}
use Rattle.ot_list.proofs.draft.Draft.halve.Goals as goal

pub returns : goal.returns
returns g c =
    let short = c.requires.draft.short in
    halved g.E.Item.CAP g.E.Item.total c.args.old.now c.args.self.now c.close.new.self c.args.next c.len-count.result c.max-left.result c.in_ok-close.ensures (omega arith) (omega arith) (omega arith) (omega arith) (omega arith) (omega arith)
