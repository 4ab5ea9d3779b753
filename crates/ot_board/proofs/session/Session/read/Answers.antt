use Rattle.std.proofs.Common.{rules}
use Rattle.ot_board.proofs.Moves.{moved_read}
use Rattle.ot_board.proofs.session.Session.read.Goals as goal

pub invariant_of-self : goal.invariant_of-self
invariant_of-self g c = (
  (moved_read c.args.self c.self.inside.start c.self.inside.steps.items c.push_reserved.new.self.items (g.S.ClientState.as_state c.self.inside.state)
      c.self.inside.list c.self.inside.count c.self.inside.incoming.items c.self.inside.sent
      c.self.view_is c.self.invariant.0 (search rules) c.push_reserved.ensures.items).allowed,
  search rules,
)
