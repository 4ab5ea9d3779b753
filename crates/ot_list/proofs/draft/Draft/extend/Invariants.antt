use Rattle.std.proofs.Common.{◌-◌, length}
use Rattle.ot_list.proofs.Drafted.{IsWriting}
use Rattle.ot_list.proofs.draft.Draft.extend.Given as goal

abbrev pub invariant-loop-at : goal.invariant-loop-at
invariant-loop-at g l = IsWriting g.E.Item.CAP g.E.Item.total l.old l.initial.self l.self l.items l.at

abbrev pub decreases-loop-at : goal.decreases-loop-at
decreases-loop-at g l = length l.items - l.at
