use Rattle.std.proofs.Common.{rules, ap, sym, ◌∙◌, subst, Some}
use Rattle.ot_model.specs.Session.{Session, IsAllowed}
use Rattle.ot_machine.specs.declared.part.Message.TheVariants.{Ack, Op}
use Rattle.ot_board.proofs.Heads.{next_head, deliver_wrong}
use Rattle.ot_board.proofs.Moves.{no_next_ack}
use Rattle.ot_board.proofs.session.Session.next_operation.Goals as goal

pub returns-in-Some-Ack-clause-err : goal.returns-in-Some-Ack-clause-err
returns-in-Some-Ack-clause-err g c = (
  search rules,
  deliver_wrong c.args.self.now (ap (λ (x : Session). x.now.number) (sym c.self.view_is) ∙ ap (λ (x : Session). x.start.number) c.self.view_is)
      (next_head c.args.self.now c.self.inside.incoming.items Ack (ap (λ (x : Session). x.now.incoming) c.self.view_is) (search rules) (sym c.in-Some-Ack.ensures ∙ ap Some c.in-Some-Ack.field-0-is)),
)

pub returns-in-Some-Op-clause-ok : goal.returns-in-Some-Op-clause-ok
returns-in-Some-Op-clause-ok g c =
    next_head c.args.self.now c.self.inside.incoming.items (Op c.in-Some-Op.op) (ap (λ (x : Session). x.now.incoming) c.self.view_is) (search rules) (sym c.in-Some-Op.ensures ∙ ap Some c.in-Some-Op.field-0-is)

pub returns-in-Some-Ack-clause-never : goal.returns-in-Some-Ack-clause-never
returns-in-Some-Ack-clause-never g c =
    λ synchronized.
    absurd (no_next_ack c.args.self.now (subst IsAllowed c.self.view_is c.self.invariant.0) synchronized
    (next_head c.args.self.now c.self.inside.incoming.items Ack (ap (λ (x : Session). x.now.incoming) c.self.view_is) (search rules) (sym c.in-Some-Ack.ensures ∙ ap Some c.in-Some-Ack.field-0-is)))
