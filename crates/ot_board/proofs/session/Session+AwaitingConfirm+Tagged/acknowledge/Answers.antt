use Rattle.std.proofs.Common.{◌<◌, rules, sym, subst}
use Rattle.ot_client.specs.Values.{confirming, synchronized}
use Rattle.ot_model.specs.Session.{Session, IsAllowed}
use Rattle.ot_board.proofs.Moves.{next_below, moved_acknowledged, acknowledged_confirm}
use Rattle.ot_board.proofs.session.Session+AwaitingConfirm+Tagged.acknowledge.Goals as goal

pub acknowledge-requires : goal.acknowledge-requires
acknowledge-requires c =
    subst (λ (x : Session). x.now.client.revision < 1000000) (sym c.self.view_is) (next_below c.args.self (subst IsAllowed c.self.view_is c.self.invariant.0) c.in-Ok.ensures.ok)

pub invariant_of-result : goal.invariant_of-result
invariant_of-result c = (
  (moved_acknowledged c.args.self c.self.inside.start c.self.inside.steps.items c.push_reserved.new.self.items (confirming c.self.inside.state) (synchronized c.acknowledge.result)
      c.self.inside.list c.self.inside.count c.self.inside.incoming.items c.pop.new.self.items c.self.inside.sent c.self.inside.sent
      c.self.view_is c.self.invariant.0 c.in-Ok.ensures.ok
      (acknowledged_confirm c.self.inside.start c.self.inside.steps.items c.self.inside.state c.acknowledge.result c.self.inside.list c.self.inside.count c.self.inside.incoming.items c.self.inside.sent c.acknowledge.ensures)
      c.pop.ensures.rest c.push_reserved.ensures.items).allowed,
  search rules,
)
