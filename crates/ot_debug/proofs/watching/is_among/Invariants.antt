use Rattle.ot_debug.proofs.Firsts.{NoneUpTo}
use Rattle.ot_debug.proofs.watching.is_among.Given as goal

abbrev pub invariant-loop-number : goal.invariant-loop-number
invariant-loop-number l = NoneUpTo l.watches l.firsts l.watch l.number-index
