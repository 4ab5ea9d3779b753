use Rattle.std.proofs.Common.{◌∙◌}
use Rattle.ot_plan.specs.Typing.{typing_view}
use Rattle.ot_threads.proofs.Carried.{shared_from}
use Rattle.ot_threads.proofs.carrying.shared_of.Goals as goal

pub new-requires : goal.new-requires
new-requires c =
    shared_from c.args.plan.now c.in_ok-board.board (typing_view c.in_ok-typing.typing.items) _ _ _ c.clients.ensures.limits c.clients.ensures.value c.present.ensures c.start.ensures
    c.in_ok-board.ensures (c.in_ok-typing.ensures ∙ c.typing.ensures)
