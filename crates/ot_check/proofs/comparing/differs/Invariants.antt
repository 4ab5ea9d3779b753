use Rattle.std.proofs.Common.{◌≡◌, drop}
use Rattle.ot_check.specs.Convergence.{first_from, first_difference, difference_at}
use Rattle.ot_check.proofs.comparing.differs.Given as goal

abbrev pub invariant-loop-number : goal.invariant-loop-number
invariant-loop-number l = first_difference l.documents l.server ≡ first_from (difference_at l.server) l.number (drop l.number l.documents)
