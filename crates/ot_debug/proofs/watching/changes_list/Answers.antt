use Rattle.ot_debug.proofs.Foretelling.{join_changes, list_rest}
use Rattle.ot_debug.proofs.watching.changes_list.Goals as goal

pub returns-in-Join : goal.returns-in-Join
returns-in-Join c =
    rw c.in-Join.is
    (join_changes c.args.machine.now c.in-Join.own c.server_document.result.now c.document.result.now c.equals.result c.server_document.ensures c.document.ensures c.equals.ensures.0 c.equals.ensures.1)

pub returns-in_default : goal.returns-in_default
returns-in_default c = list_rest c.args.machine.now c.args.instr.now c.in_default.not-Edit c.in_default.not-Deliver c.in_default.not-Join
