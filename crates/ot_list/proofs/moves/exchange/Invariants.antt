use Rattle.ot_list.proofs.Merging.{IsExchanging}
use Rattle.ot_list.proofs.moves.exchange.Given as goal

abbrev pub invariant-loop-span : goal.invariant-loop-span
invariant-loop-span g l = IsExchanging l.spans l.initial.list l.initial.others l.span-index l.at l.from l.list l.others
