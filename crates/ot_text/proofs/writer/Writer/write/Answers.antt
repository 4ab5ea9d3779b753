use Rattle.std.proofs.Common.{[], ◌∷◌, ◌++◌, ◌∙◌, ap}
use Rattle.ot_operation.specs.Operation.{apply}
use Rattle.ot_operation.specs.Run.{operation_of}
use Rattle.ot_list.specs.Written.{written}
use Rattle.ot_text.specs.Components.{run_of}
use Rattle.ot_text.specs.Writing.{left_of}
use Rattle.ot_text.proofs.Writing.{on_way_keep, on_way_add, on_way_skip, on_way_all}
use Rattle.ot_text.proofs.writer.Writer.write.Goals as goal

pub loop-component-preserved-in-Continue-1 : goal.loop-component-preserved-in-Continue-1
loop-component-preserved-in-Continue-1 g c =
    on_way_keep g.T.Item.CAP g.T.Item.total c.args.old.now _ _ _ _ c.loop-component.invariant _ c.in-Retain.count (c.in-Some.ensures.steps ∙ ap (λ k. run_of k ∷ c.next.new.self) c.in-Retain.is) c.in_ok-keep-in-Retain.ensures

pub loop-component-preserved-in-Continue-branch-2 : goal.loop-component-preserved-in-Continue-branch-2
loop-component-preserved-in-Continue-branch-2 g c =
    on_way_add g.T.Item.CAP g.T.Item.total c.args.old.now _ _ _ _ c.loop-component.invariant _ c.in-Insert.text.now (c.in-Some.ensures.steps ∙ ap (λ k. run_of k ∷ c.next.new.self) c.in-Insert.is) c.in_ok-insert-in-Insert.ensures

pub loop-component-preserved : goal.loop-component-preserved
loop-component-preserved g c =
    on_way_skip g.T.Item.CAP g.T.Item.total c.args.old.now _ _ _ _ c.loop-component.invariant _ c.in-Delete.count (c.in-Some.ensures.steps ∙ ap (λ k. run_of k ∷ c.next.new.self) c.in-Delete.is) c.delete.ensures

pub returns-clause-written : goal.returns-clause-written
returns-clause-written g c =
    on_way_all g.T.Item.CAP g.T.Item.total c.args.old.now c.loop-component.self c.loop-component.component-iterator [] _ c.loop-component.invariant c.in-None.ensures.steps.0
    ∙ ap (λ rs. written c.args.old.now c.args.self.now.draft ++ apply (operation_of rs) (left_of c.args.old.now c.args.self.now)) c.into_iter-component-iterator.ensures.into_iter_gives
