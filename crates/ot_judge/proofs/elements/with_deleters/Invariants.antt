use Rattle.std.proofs.Common.{◌≡◌, map}
use Rattle.std.specs.Prelude.{All}
use Rattle.ot_judge.specs.declared.elements.Element.{Element}
use Rattle.ot_judge.specs.Elements.{IsElement}
use Rattle.ot_judge.specs.Views.{views}
use Rattle.ot_judge.proofs.elements.with_deleters.Given as goal

abbrev pub invariant-loop-d : goal.invariant-loop-d
invariant-loop-d l = record {
  tags : map (λ (x : Element). x.tag) l.all.items ≡ l.tags;
  each : All (IsElement (views l.events) l.d) l.all.items;
}
