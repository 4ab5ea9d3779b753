use Rattle.std.proofs.Common.{◌∷◌, ◌∙◌, ap, subst, length, arith}
use Rattle.ot_operation.specs.Operation.{IsTooLong, invert, with_insert}
use Rattle.ot_operation.specs.Run.{image_from, operation_of}
use Rattle.ot_operation.proofs.Refused.{OnOk-at_ok}
use Rattle.ot_text.specs.Components.{run_of}
use Rattle.ot_text.proofs.Inverse.{none_back, all_back, keep_back, keep_short, add_back, add_short, skip_back, skip_short}
use Rattle.ot_text.proofs.documents.take_back.Goals as goal

pub loop-component-init : goal.loop-component-init
loop-component-init g c = rw (c.new-inverse.ensures, c.into_iter-component-iterator.ensures.into_iter_gives) (none_back _ _ c.requires.base)

pub loop-component-preserved-in-Retain : goal.loop-component-preserved-in-Retain
loop-component-preserved-in-Retain g c =
    rw (OnOk-at_ok c.retain.result c.in_ok-only_memory-in-Retain.ensures c.retain.ensures.ok)
    (keep_back _ _ _ _ _ _ c.loop-component.invariant c.in-Retain.count (c.in-Some.ensures.steps ∙ ap (λ k. run_of k ∷ c.next.new.self) c.in-Retain.is))

pub loop-component-preserved-in-Continue-branch-2 : goal.loop-component-preserved-in-Continue-branch-2
loop-component-preserved-in-Continue-branch-2 g c =
    rw (OnOk-at_ok c.delete.result c.in_ok-only_memory-in-Insert.ensures c.delete.ensures.ok)
    (add_back _ _ _ _ _ _ c.loop-component.invariant c.in-Insert.text.now (c.in-Some.ensures.steps ∙ ap (λ k. run_of k ∷ c.next.new.self) c.in-Insert.is))

pub loop-component-preserved : goal.loop-component-preserved
loop-component-preserved g c =
    rw (OnOk-at_ok c.insert_vec.result c.in_ok-only_memory-in-Delete.ensures c.insert_vec.ensures.ok, c.in_ok-gone-in-Delete.ensures)
    (skip_back _ _ _ _ _ _ c.loop-component.invariant c.in-Delete.count (c.in-Some.ensures.steps ∙ ap (λ k. run_of k ∷ c.next.new.self) c.in-Delete.is))

pub only_memory-requires : goal.only_memory-requires
only_memory-requires g c = λ k.
    keep_short _ _ _ _ _ _ c.loop-component.invariant c.in-Retain.count (c.in-Some.ensures.steps ∙ ap (λ k. run_of k ∷ c.next.new.self) c.in-Retain.is)
    (omega (arith, c.requires.target_fits, ap (λ rs. length (image_from 0 rs)) c.into_iter-component-iterator.ensures.into_iter_gives)) c.requires.base_fits (c.retain.ensures.too_long.0 k)

pub only_memory-requires-in-Insert : goal.only_memory-requires-in-Insert
only_memory-requires-in-Insert g c = λ k.
    add_short _ _ _ _ _ _ c.loop-component.invariant c.in-Insert.text.now (c.in-Some.ensures.steps ∙ ap (λ k. run_of k ∷ c.next.new.self) c.in-Insert.is)
    (omega (arith, c.requires.target_fits, ap (λ rs. length (image_from 0 rs)) c.into_iter-component-iterator.ensures.into_iter_gives)) c.requires.base_fits (c.delete.ensures.too_long.0 k)

pub only_memory-requires-in-Delete : goal.only_memory-requires-in-Delete
only_memory-requires-in-Delete g c = λ k.
    skip_short _ _ _ _ _ _ c.loop-component.invariant c.in-Delete.count (c.in-Some.ensures.steps ∙ ap (λ k. run_of k ∷ c.next.new.self) c.in-Delete.is)
    (omega (arith, c.requires.target_fits, ap (λ rs. length (image_from 0 rs)) c.into_iter-component-iterator.ensures.into_iter_gives)) c.requires.base_fits
    (subst (λ t. IsTooLong (with_insert c.loop-component.inverse t)) c.in_ok-gone-in-Delete.ensures (c.insert_vec.ensures.too_long.0 k))

pub returns : goal.returns
returns g c =
    all_back _ _ _ _ _ c.in-None.ensures.steps.0 c.loop-component.invariant
    ∙ ap (λ rs. invert (operation_of rs) c.args.document.now) c.into_iter-component-iterator.ensures.into_iter_gives
