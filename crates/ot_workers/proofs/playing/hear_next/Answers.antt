use Rattle.std.proofs.Common.{sym, subst}
use Rattle.ot_model.specs.Table.{Ack}
use Rattle.ot_board.specs.declared.lent.Lent.{Lent}
use Rattle.ot_board.specs.Lents.{session_of}
use Rattle.ot_board.specs.Sessions.{IsNextHead, IsStepRefusal}
use Rattle.ot_board.specs.declared.refusal.SessionRefusal.{SessionRefusal}
use Rattle.ot_isa.specs.declared.instruction.Instr.TheVariants.{Deliver}
use Rattle.ot_workers.specs.Playing.{HasHeard}
use Rattle.ot_workers.proofs.Heard.{ack_next, heard_ack, heard_op}
use Rattle.ot_workers.proofs.playing.hear_next.Goals as goal

pub acknowledge-requires : goal.acknowledge-requires
acknowledge-requires c =
    let x = session_of c.args.lent in
    let refused = subst (λ (r : SessionRefusal). IsStepRefusal x (Deliver x.start.number) r) c.in-Err-WrongHead-default.field-0-0-is c.in-Err-WrongHead-default.ensures.refused in
    subst (λ (l : Lent). IsNextHead (session_of l) Ack) (sym c.in-Err-WrongHead-default.ensures.back) (ack_next x refused.0 refused.1)

pub returns-in-Ok-clause-ok : goal.returns-in-Ok-clause-ok
returns-in-Ok-clause-ok c = heard_op (session_of c.args.lent) (session_of c.in-Ok.next) c.in-Ok.ensures.ok

pub returns-in-Ok-acknowledge-clause-ok : goal.returns-in-Ok-acknowledge-clause-ok
returns-in-Ok-acknowledge-clause-ok c =
    subst (λ (l : Lent). HasHeard (session_of l) (session_of c.in-Ok-acknowledge.next)) c.in-Err-WrongHead-default.ensures.back
    (heard_ack (session_of c.in-Err-WrongHead-default.lent) (session_of c.in-Ok-acknowledge.next) c.in-Ok-acknowledge.ensures.ok)
