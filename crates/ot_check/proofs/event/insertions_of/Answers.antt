use Rattle.std.proofs.Common.{◌∷◌, ◌∙◌, ap, arith, length}
use Rattle.ot_operation.specs.Operation.{news}
use Rattle.ot_operation.specs.Run.{image_from}
use Rattle.ot_text.specs.Components.{run_of}
use Rattle.ot_check.proofs.Placing.{placed_insert, placed_retain, retain_fits, serials_fit}
use Rattle.ot_check.proofs.event.insertions_of.Goals as goal

pub overflow_add-place : goal.overflow_add-place
overflow_add-place c =
    let h = retain_fits c.loop-component.invariant c.in-Retain.count (c.in-Some.ensures.steps ∙ ap (λ k. run_of k ∷ c.next.new.self) c.in-Retain.is) in
    omega (arith, h, c.requires.target, ap (λ rs. length (image_from 0 rs)) c.into_iter-component-iterator.ensures.into_iter_gives)

pub loop-component-preserved-in-Retain : goal.loop-component-preserved-in-Retain
loop-component-preserved-in-Retain c = placed_retain c.loop-component.invariant c.in-Retain.count (c.in-Some.ensures.steps ∙ ap (λ k. run_of k ∷ c.next.new.self) c.in-Retain.is)

pub push_placed-requires-clause-serials : goal.push_placed-requires-clause-serials
push_placed-requires-clause-serials c =
    let h = serials_fit c.loop-component.invariant c.in-Insert.text.now (c.in-Some.ensures.steps ∙ ap (λ k. run_of k ∷ c.next.new.self) c.in-Insert.is) in
    omega (arith, h, c.requires.serials, ap (λ rs. length (news (image_from 0 rs))) c.into_iter-component-iterator.ensures.into_iter_gives)

pub loop-component-preserved-in-Insert : goal.loop-component-preserved-in-Insert
loop-component-preserved-in-Insert c =
    rw c.in_ok-push_placed-in-Insert.ensures
    (placed_insert c.loop-component.invariant c.in-Insert.text.now (c.in-Some.ensures.steps ∙ ap (λ k. run_of k ∷ c.next.new.self) c.in-Insert.is))
