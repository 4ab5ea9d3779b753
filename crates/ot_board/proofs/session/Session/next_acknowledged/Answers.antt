use Rattle.std.proofs.Common.{rules, ap, sym, ◌∙◌, Some}
use Rattle.ot_model.specs.Session.{Session}
use Rattle.ot_machine.specs.declared.part.Message.TheVariants.{Ack, Op}
use Rattle.ot_board.proofs.Heads.{next_head, acknowledge_wrong}
use Rattle.ot_board.proofs.session.Session.next_acknowledged.Goals as goal

pub returns-in-Some-Ack-clause-ok : goal.returns-in-Some-Ack-clause-ok
returns-in-Some-Ack-clause-ok g c =
    next_head c.args.self.now c.self.inside.incoming.items Ack (ap (λ (x : Session). x.now.incoming) c.self.view_is) (search rules) (sym c.in-Some-Ack.ensures ∙ ap Some c.in-Some-Ack.field-0-is)

pub returns-in-Some-Op-clause-err : goal.returns-in-Some-Op-clause-err
returns-in-Some-Op-clause-err g c = (
  search rules,
  acknowledge_wrong c.args.self.now c.in-Some-Op.field-0-0 (ap (λ (x : Session). x.now.number) (sym c.self.view_is) ∙ ap (λ (x : Session). x.start.number) c.self.view_is)
      (next_head c.args.self.now c.self.inside.incoming.items (Op c.in-Some-Op.field-0-0) (ap (λ (x : Session). x.now.incoming) c.self.view_is) (search rules) (sym c.in-Some-Op.ensures ∙ ap Some c.in-Some-Op.field-0-is)),
)
