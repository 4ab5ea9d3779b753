use Rattle.std.proofs.Common.{sym, ◌∙◌}
use Rattle.serde_json.specs.View.{view}
use Rattle.ot_judge.proofs.Spelled.{length-fit, length-unfit, length-unread}
use Rattle.ot_judge.proofs.reading.list_length.Goals.{else-is_fitting-via-then-is_fitting+else-has_items, else-is_fitting-via-else-is_fitting}
use Rattle.ot_judge.proofs.reading.list_length.Goals as goal

pub returns-then-has_items : goal.returns-then-has_items
returns-then-has_items c =
    length-fit c.args.replicas (view c.args.value.now) c.in_ok-x.x c.in_ok-x.ensures (sym c.is_fitting.ensures ∙ c.if-is_fitting.true) (sym c.has_items.ensures ∙ c.if-has_items.true)

pub returns-else-is_fitting : goal.returns-else-is_fitting
returns-else-is_fitting c = elim c.else-is_fitting.branch [
  | else-is_fitting-via-then-is_fitting+else-has_items w ↦ length-unread c.args.replicas (view c.args.value.now) c.in_ok-x.x c.in_ok-x.ensures (sym w.has_items.ensures ∙ w.if-has_items.false)
  | else-is_fitting-via-else-is_fitting w ↦ length-unfit c.args.replicas (view c.args.value.now) c.in_ok-x.x c.in_ok-x.ensures (sym c.is_fitting.ensures ∙ w.if-is_fitting.false)
]
