use Rattle.std.proofs.Common.{◌≡◌, map, take}
use Rattle.std.specs.Prelude.{All}
use Rattle.ot_judge.specs.declared.elements.Element.{Element}
use Rattle.ot_model.specs.Trace.{event_at}
use Rattle.ot_judge.specs.Views.{views}
use Rattle.ot_judge.proofs.Deleters.{IsPartly}
use Rattle.ot_judge.proofs.elements.note_deletions.Given as goal

abbrev pub invariant-loop-a : goal.invariant-loop-a
invariant-loop-a l = record {
  tags : map (λ (x : Element). x.tag) l.all ≡ map (λ (x : Element). x.tag) l.fn.all;
  each : All (IsPartly (views l.events) l.d (take l.a-index (event_at (views l.events) l.d).deleted)) l.all;
}
