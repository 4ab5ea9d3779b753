use Rattle.std.proofs.Common.{◌≡◌, ℕ, map, take}
use Rattle.std.specs.Prelude.{All}
use Rattle.ot_judge.specs.declared.elements.Element.{Element}
use Rattle.ot_judge.specs.Elements.{IsDeletedBy}
use Rattle.ot_judge.proofs.elements.fresh.Given as goal

abbrev pub invariant-loop-a : goal.invariant-loop-a
invariant-loop-a l = record {
  tags : map (λ (x : Element). x.tag) l.all.items ≡ take l.a-index l.tags;
  none : All (λ (x : Element). (k : ℕ) → IsDeletedBy x k → ⊥) l.all.items;
}
