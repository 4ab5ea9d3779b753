use Rattle.std.proofs.Common.{ap, ◌∙◌, subst}
use Rattle.ot_isa.specs.declared.elements.Tagged.{Tagged}
use Rattle.ot_operation.specs.Operation.{Operation}
use Rattle.ot_model.specs.Session.{Session, IsAllowed}
use Rattle.ot_board.proofs.Moves.{next_follows}
use Rattle.ot_board.proofs.session.Session.edited.Goals as goal

pub edited-requires : goal.edited-requires
edited-requires g c =
    next_follows c.args.self.now (g.S.ClientState.as_state c.self.inside.state).phase c.in_ok-copy.field-0 (subst IsAllowed c.self.view_is c.self.invariant.0)
    (ap (λ (x : Session). x.now.client.phase) c.self.view_is)
    (ap (λ (o : Operation Tagged). o.base) c.in_ok-copy.ensures ∙ ap (λ (o : Operation Tagged). o.base) c.in_ok-made.ensures ∙ c.requires.base)
