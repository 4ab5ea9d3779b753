use Rattle.ot_generate.proofs.Reading.{IsReadTo}
use Rattle.ot_generate.proofs.generating.read_all.Given as goal

abbrev pub invariant-loop-client : goal.invariant-loop-client
invariant-loop-client l = IsReadTo l.initial.walk l.walk l.client
