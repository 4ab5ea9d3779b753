use Rattle.std.proofs.Common.{take, ◌≡◌, ◌++◌, map}
use Rattle.ot_model.specs.declared.trace.Placed.{Placed}
use Rattle.ot_judge.proofs.trace.push_tags.Given as goal

abbrev pub invariant-loop-p : goal.invariant-loop-p
invariant-loop-p l = l.tags.items ≡ l.fn.tags.items ++ map (λ (p : Placed). p.tag) (take l.p-index l.inserted)
