use Rattle.std.proofs.Common.{◌≡◌, ℕ, ◌<◌, Some, None, ap, rules, sym, subst}
use Rattle.ot_client.specs.Values.{Buffering, buffering, confirming}
use Rattle.ot_isa.specs.declared.elements.Tagged.{Tagged}
use Rattle.ot_isa.specs.declared.instruction.Instr.TheVariants.{Acknowledge}
use Rattle.ot_model.specs.Session.{Session, IsAllowed}
use Rattle.ot_board.specs.Sessions.{IsNext}
use Rattle.ot_board.proofs.Moves.{IsMoved, next_below, moved_acknowledged, acknowledged_buffer}
use Rattle.ot_board.proofs.session.Session+AwaitingWithBuffer+Tagged.acknowledge.Goals as goal

pub acknowledge-requires : goal.acknowledge-requires
acknowledge-requires c =
    subst (λ (x : Buffering Tagged). x.revision < 1000000) (sym c.in-Ok-copy.ensures)
    (subst (λ (x : Session). x.now.client.revision < 1000000) (sym c.self.view_is) (next_below c.args.self (subst IsAllowed c.self.view_is c.self.invariant.0) c.in-Ok.ensures.ok))

pub invariant_of-result : goal.invariant_of-result
invariant_of-result c = (
  (moved_acknowledged c.args.self c.self.inside.start c.self.inside.steps.items c.push_reserved.new.self.items (buffering c.self.inside.state) (confirming c.in-Ok-acknowledge.state)
      c.self.inside.list c.self.inside.count c.self.inside.incoming.items c.pop.new.self.items c.self.inside.sent (Some c.in-Ok-acknowledge.sent)
      c.self.view_is c.self.invariant.0 c.in-Ok.ensures.ok
      (acknowledged_buffer c.self.inside.start c.self.inside.steps.items c.self.inside.state c.in-Ok-copy.copy c.in-Ok-acknowledge.state c.self.inside.list c.self.inside.count c.self.inside.incoming.items c.self.inside.sent c.in-Ok-acknowledge.sent
      c.in-Ok-copy.ensures c.in-Ok-acknowledge.ensures.state c.in-Ok-acknowledge.ensures.sent)
      c.pop.ensures.rest c.push_reserved.ensures.items).allowed,
  search rules,
)

-- the number in the instruction is the session's
numbered : (x y : Session) (n : ℕ) → IsMoved x (Acknowledge n) None y → n ≡ x.start.number → IsNext x (Acknowledge x.start.number) None y
numbered x y n is same = subst (λ k. IsNext x (Acknowledge k) None y) same is.next

pub returns-clause-ok : goal.returns-clause-ok
returns-clause-ok c =
    let moved =
    moved_acknowledged c.args.self c.self.inside.start c.self.inside.steps.items c.push_reserved.new.self.items (buffering c.self.inside.state) (confirming c.in-Ok-acknowledge.state)
    c.self.inside.list c.self.inside.count c.self.inside.incoming.items c.pop.new.self.items c.self.inside.sent (Some c.in-Ok-acknowledge.sent)
    c.self.view_is c.self.invariant.0 c.in-Ok.ensures.ok
    (acknowledged_buffer c.self.inside.start c.self.inside.steps.items c.self.inside.state c.in-Ok-copy.copy c.in-Ok-acknowledge.state c.self.inside.list c.self.inside.count c.self.inside.incoming.items c.self.inside.sent c.in-Ok-acknowledge.sent
    c.in-Ok-copy.ensures c.in-Ok-acknowledge.ensures.state c.in-Ok-acknowledge.ensures.sent)
    c.pop.ensures.rest c.push_reserved.ensures.items in
    numbered c.args.self _ c.self.inside.start.number moved (ap (λ (x : Session). x.start.number) c.self.view_is)
