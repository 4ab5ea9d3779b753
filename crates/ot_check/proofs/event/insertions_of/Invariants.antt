use Rattle.ot_check.proofs.Placing.{IsPlacedTo}
use Rattle.ot_check.proofs.event.insertions_of.Given as goal

abbrev pub invariant-loop-component : goal.invariant-loop-component
invariant-loop-component l = IsPlacedTo l.initial.component-iterator l.component-iterator l.origin l.first l.serial l.place l.placed.items
