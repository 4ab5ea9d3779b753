use Rattle.ot_verdict.proofs.Arrivals.{arrivals_end, what_waits_can_come}
use Rattle.ot_verdict.proofs.laws.arrivals_end.Goals as goal

pub returns-clause-few : goal.returns-clause-few
returns-clause-few c = arrivals_end

pub returns-clause-next : goal.returns-clause-next
returns-clause-next c = what_waits_can_come
