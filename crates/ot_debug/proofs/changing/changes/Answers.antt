use Rattle.std.proofs.Common.{◌∷◌, ◌∙◌, ap, refl}
use Rattle.ot_text.specs.Components.{run_of}
use Rattle.ot_debug.proofs.Compared.{begun, deleted_same, finished, inserted_other, inserted_same, retained_other, retained_same}
use Rattle.ot_debug.proofs.changing.changes.Goals as goal

pub loop-component-init : goal.loop-component-init
loop-component-init c = rw c.into_iter-component-iterator.ensures.into_iter_gives (begun _ _ _ c.components-component-items.ensures.spells c.requires)

pub returns-then-not-repeats : goal.returns-then-not-repeats
returns-then-not-repeats c =
    retained_other _ c.next.new.self _ _ _ _ c.loop-component.invariant c.in-Retain.count (c.in-Some.ensures.steps ∙ ap (λ k. run_of k ∷ c.next.new.self) c.in-Retain.is)
    (λ e. let t = c.repeats.ensures.1 e in let u = c.if-not-repeats.true in cc)

pub loop-component-preserved-in-Retain : goal.loop-component-preserved-in-Retain
loop-component-preserved-in-Retain c =
    retained_same _ c.next.new.self _ _ _ _ c.loop-component.invariant c.in-Retain.count (c.in-Some.ensures.steps ∙ ap (λ k. run_of k ∷ c.next.new.self) c.in-Retain.is)
    (c.repeats.ensures.0 c.if-not-repeats.false)

pub returns-then-not-has_text : goal.returns-then-not-has_text
returns-then-not-has_text c =
    inserted_other _ c.next.new.self _ _ _ _ c.loop-component.invariant c.in-Insert.text.now (c.in-Some.ensures.steps ∙ ap (λ k. run_of k ∷ c.next.new.self) c.in-Insert.is)
    (λ e. let t = c.has_text.ensures.1 e in let u = c.if-not-has_text.true in cc)

pub loop-component-preserved-in-Insert : goal.loop-component-preserved-in-Insert
loop-component-preserved-in-Insert c =
    inserted_same _ c.next.new.self _ _ _ _ c.loop-component.invariant c.in-Insert.text.now (c.in-Some.ensures.steps ∙ ap (λ k. run_of k ∷ c.next.new.self) c.in-Insert.is)
    (c.has_text.ensures.0 c.if-not-has_text.false)

pub loop-component-preserved : goal.loop-component-preserved
loop-component-preserved c =
    deleted_same _ c.next.new.self _ _ _ _ c.loop-component.invariant c.in-Delete.count (c.in-Some.ensures.steps ∙ ap (λ k. run_of k ∷ c.next.new.self) c.in-Delete.is)

pub returns : goal.returns
returns c = finished _ _ _ _ _ c.in-None.ensures.steps.0 c.loop-component.invariant c.len-length.result _ c.len-length.ensures.value refl
