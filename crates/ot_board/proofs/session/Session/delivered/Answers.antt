use Rattle.std.proofs.Common.{◌<◌, ap, sym, ◌∙◌, subst}
use Rattle.ot_isa.specs.declared.elements.Tagged.{Tagged}
use Rattle.ot_operation.specs.Operation.{Operation}
use Rattle.ot_model.specs.Laws.{MayDeliver}
use Rattle.ot_model.specs.Table.{Phase, against_pending}
use Rattle.ot_model.specs.Session.{Session, IsAllowed}
use Rattle.ot_board.proofs.Moves.{next_deliverable, operations_in, against_pending_in}
use Rattle.std.proofs.lemmas.Result.{IfOk-weaker}
use Rattle.ot_board.proofs.session.Session.delivered.Goals as goal

pub delivered-requires-clause-revision : goal.delivered-requires-clause-revision
delivered-requires-clause-revision g c =
    let fits = next_deliverable c.args.self.now c.args.op.now (subst IsAllowed c.self.view_is c.self.invariant.0) c.requires in
    subst (λ (x : Session). x.now.client.revision < 1000000) (sym c.self.view_is) fits.revision

pub delivered-requires-clause-operations : goal.delivered-requires-clause-operations
delivered-requires-clause-operations g c =
    let fits = next_deliverable c.args.self.now c.args.op.now (subst IsAllowed c.self.view_is c.self.invariant.0) c.requires in
    let may = subst (λ (x : Session). MayDeliver x.now.client.phase c.args.op.now) (sym c.self.view_is) fits.operations in
    operations_in _ c.args.op.now may

pub returns-clause-base : goal.returns-clause-base
returns-clause-base g c =
    let fits = next_deliverable c.args.self.now c.args.op.now (subst IsAllowed c.self.view_is c.self.invariant.0) c.requires in
    let phase = (g.S.ClientState.as_state c.self.inside.state).phase in
    let same = ap (λ (x : Session). x.now.client.phase) c.self.view_is in
    let op = c.args.op.now in
    IfOk-weaker c.delivered.result _ _ (λ given is. ap (λ (o : Operation Tagged). o.base) (is ∙ sym (against_pending_in phase op) ∙ ap (λ (p : Phase). against_pending p op) same) ∙ fits.base) c.delivered.ensures.applied
