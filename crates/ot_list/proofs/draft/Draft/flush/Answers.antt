use Rattle.std.proofs.Common.{arith}
use Rattle.ot_list.proofs.Drafted.{flushed}
use Rattle.ot_list.proofs.draft.Draft.flush.Goals as goal

pub returns : goal.returns
returns g c = flushed g.E.Item.CAP g.E.Item.total c.args.old.now c.args.self.now c.halve.new.self c.close.new.self c.args.next c.len-left.result c.in_ok-halve.ensures c.in_ok-close.ensures (omega arith) (omega arith)
