use Rattle.std.proofs.Common.{◌≡◌, ◌∙◌, ℕ, List, ap, sym, arith, length, map, subst}
use Rattle.std.specs.Prelude.{All}
use Rattle.ot_isa.specs.declared.elements.Tag.{Tag}
use Rattle.ot_judge.specs.declared.elements.Element.{Element}
use Rattle.ot_judge.specs.Elements.{IsElement}
use Rattle.ot_judge.specs.Places.{IsIndex}
use Rattle.ot_judge.specs.Views.{views}
use Rattle.ot_judge.proofs.Deleters.{all-fresh}
use Rattle.ot_judge.proofs.Exactly.{written}
use Rattle.ot_judge.proofs.elements.with_deleters.Goals as goal

pub loop-d-init : goal.loop-d-init
loop-d-init c = record { tags = c.in_ok-all.ensures.tags; each = all-fresh (views c.args.events.now) c.in_ok-all.all.items c.in_ok-all.ensures.none }

pub note_deletions-requires-clause-index : goal.note_deletions-requires-clause-index
note_deletions-requires-clause-index c =
    subst (λ (ts : List Tag). IsIndex c.args.index.now ts) (sym (ap (map (λ (x : Element). x.tag)) c.as_mut_slice.ensures.value ∙ c.loop-d.invariant.tags)) c.requires

pub loop-d-preserved : goal.loop-d-preserved
loop-d-preserved c =
    let was : length c.loop-d.all.items ≡ c.loop-d.all.len = omega (arith, c.loop-d.all.ok.0) in
    let now : length c.note_deletions.new.all ≡ c.loop-d.all.len = omega (arith, c.note_deletions.auto.all, c.as_mut_slice.ensures.len) in
    rw (written c.loop-d.all.len c.note_deletions.new.all c.loop-d.all.items now was) (record {
      tags = c.in_ok-note_deletions.ensures.tags ∙ ap (map (λ (x : Element). x.tag)) c.as_mut_slice.ensures.value ∙ c.loop-d.invariant.tags;
      each = c.in_ok-note_deletions.ensures.after;
    })

pub returns : goal.returns
returns c = subst (λ (n : ℕ). All (IsElement (views c.args.events.now) n) c.loop-d.all.items) (omega arith) c.loop-d.invariant.each
