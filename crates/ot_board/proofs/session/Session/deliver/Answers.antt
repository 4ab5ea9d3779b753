use Rattle.std.proofs.Common.{rules}
use Rattle.ot_board.proofs.Moves.{moved_delivered}
use Rattle.ot_board.proofs.session.Session.deliver.Goals as goal

pub invariant_of-self-2 : goal.invariant_of-self-2
invariant_of-self-2 g c = (
  (moved_delivered c.args.self c.self.inside.start c.self.inside.steps.items c.push_reserved.new.self.items (g.S.ClientState.as_state c.self.inside.state) (g.S.ClientState.as_state c.in-Ok-given.state)
      c.self.inside.list c.change.new.self c.self.inside.count c.self.inside.incoming.items c.pop.new.self.items c.self.inside.sent c.in-Ok.op.now c.in-Ok-given.applied
      c.self.view_is c.self.invariant.0 c.in-Ok.ensures.ok c.in-Ok-given.ensures.revision c.in-Ok-given.ensures.phase c.in-Ok-given.ensures.applied
      c.in-Ok-change.ensures.ok c.pop.ensures.rest c.push_reserved.ensures.items).allowed,
  search rules,
)
