use Rattle.ot_commands.proofs.FaultLines.{one_before}
use Rattle.ot_commands.proofs.KeptFaults.{has_before, has_none}
use Rattle.ot_commands.proofs.part.first_fault.Goals as goal

pub returns-in-Ok-clause-kept : goal.returns-in-Ok-clause-kept
returns-in-Ok-clause-kept c unread lines breaks = has_none unread c.args.text.now lines c.args.stop breaks

pub returns-then-fault-stop-clause-fault : goal.returns-then-fault-stop-clause-fault
returns-then-fault-stop-clause-fault c unread lines breaks = one_before unread c.args.text.now lines c.args.stop breaks c.in-Err.fault c.in-Err.ensures.err c.in-Err.ensures.other c.in-Err.ensures.faultless c.if-fault-stop.true

pub returns-then-fault-stop-clause-kept : goal.returns-then-fault-stop-clause-kept
returns-then-fault-stop-clause-kept c unread lines breaks = has_before unread c.args.text.now lines c.args.stop breaks c.in-Err.fault c.in-Err.ensures.err c.if-fault-stop.true

pub returns-else-fault-stop-clause-kept : goal.returns-else-fault-stop-clause-kept
returns-else-fault-stop-clause-kept c unread lines breaks = has_none unread c.args.text.now lines c.args.stop breaks
