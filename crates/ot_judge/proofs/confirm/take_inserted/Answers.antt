use Rattle.std.proofs.Common.{sym, arith, refl, map, List}
use Rattle.ot_isa.specs.declared.elements.Tag.{Tag}
use Rattle.ot_model.specs.declared.trace.Placed.{Placed}
use Rattle.ot_model.specs.Trace.{contains}
use Rattle.ot_model.specs.WeakList.{known_deletions}
use Rattle.ot_judge.specs.Views.{views}
use Rattle.ot_judge.proofs.TagLemmas.{no_tag}
use Rattle.std.proofs.lemmas.List.{get_or-map, length-map}
use Rattle.ot_judge.proofs.Exactly.{taken-all, taken-next}
use Rattle.ot_judge.proofs.confirm.take_inserted.Goals as goal

abbrev tags_of : List Placed → List Tag
tags_of = map (λ (p : Placed). p.tag)

pub loop-i-preserved : goal.loop-i-preserved
loop-i-preserved c = λ visible.
    taken-next _ _ _ (contains (known_deletions (views c.args.events.now) c.args.e)) (tags_of c.args.inserted.now) c.loop-i.i _ no_tag (omega (arith, c.loop-i-test.true, length-map c.args.inserted.now (λ (p : Placed). p.tag))) (sym (get_or-map (λ (p : Placed). p.tag) c.args.inserted.now c.loop-i.i _ no_tag c.loop-i-test.true)) (c.loop-i.invariant visible) (c.if-not-take_one.ensures refl visible)

pub returns : goal.returns
returns c = λ done visible. taken-all _ _ (contains (known_deletions (views c.args.events.now) c.args.e)) (tags_of c.args.inserted.now) c.loop-i.i (omega (arith, length-map c.args.inserted.now (λ (p : Placed). p.tag))) (c.loop-i.invariant visible)
