use Rattle.std.proofs.Common.{◌∙◌, ◌++◌, map, ap, sym, append-nil}
use Rattle.ot_operation.specs.Run.{normal_runs}
use Rattle.ot_text.specs.Components.{run_of, run_of_list}
use Rattle.ot_text.proofs.Runs.{listed}
use Rattle.ot_text.proofs.TextOp.to_components.Goals as goal

pub loop-component-init : goal.loop-component-init
loop-component-init g c = rw c.new-list.ensures.items (c.into_iter-component-iterator.ensures.into_iter_gives ∙ c.components-component-items.ensures.form)

pub loop-component-preserved : goal.loop-component-preserved
loop-component-preserved g c =
    listed c.loop-component.list.items c.push.new.self.items c.in_ok-copy.copy (run_of c.in-Some.component) c.loop-component.component-iterator c.next.new.self (normal_runs c.args.self.now)
    c.in_ok-push.ensures.items c.in_ok-copy.ensures c.in-Some.ensures.steps c.loop-component.invariant

pub returns : goal.returns
returns g c =
    sym (append-nil (map run_of_list c.loop-component.list.items)) ∙ ap (λ rs. map run_of_list c.loop-component.list.items ++ rs) (sym c.in-None.ensures.steps.0) ∙ c.loop-component.invariant
