use Rattle.std.proofs.Common.{rules, refl, length, sym}
use Rattle.std.proofs.lemmas.List.{length-map}
use Rattle.ot_machine.specs.Parts.{head_in}
use Rattle.ot_machine.proofs.Parting.{are_at, first_unequal, first_next, first_all}
use Rattle.ot_machine.proofs.part.are_first.Goals as goal

pub returns-then-not-is_message : goal.returns-then-not-is_message
returns-then-not-is_message c = (
  λ no. search (rules, no),
  λ first. absurd (first_unequal c.args.incoming.now.items c.args.entries.now c.args.client c.loop-place.place c.in-Some.message.now c.index-entries-place.result
      (are_at c.args.incoming.now.items c.args.entries.now c.args.client c.loop-place.place (length c.args.entries.now) c.in-Some.message.now c.index-entries-place.result (sym c.in-Some.ensures) refl (search rules) c.index-entries-place.is)
      (λ equal. search (rules, c.is_message.ensures.1 equal)) first),
)

pub loop-place-preserved : goal.loop-place-preserved
loop-place-preserved c =
    first_next c.args.incoming.now.items c.args.entries.now c.args.client c.loop-place.place c.in-Some.message.now c.index-entries-place.result
    (are_at c.args.incoming.now.items c.args.entries.now c.args.client c.loop-place.place (length c.args.entries.now) c.in-Some.message.now c.index-entries-place.result (sym c.in-Some.ensures) refl (search rules) c.index-entries-place.is)
    (c.is_message.ensures.0 (search rules)) c.loop-place.invariant

pub returns : goal.returns
returns c = (
  λ yes. first_all _ _ c.loop-place.place c.loop-place.invariant (search (rules, length-map c.args.incoming.now.items head_in)),
  λ first. search rules,
)
