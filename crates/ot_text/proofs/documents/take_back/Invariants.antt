use Rattle.ot_text.proofs.Inverse.{TakesBack}
use Rattle.ot_text.proofs.documents.take_back.Given as goal

abbrev pub invariant-loop-component : goal.invariant-loop-component
invariant-loop-component g l = TakesBack l.initial.component-iterator l.component-iterator l.document l.at l.inverse
