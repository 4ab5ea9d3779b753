use Rattle.ot_debug.proofs.Foretelling.{acknowledge_moves, join_moves, phase_rest}
use Rattle.ot_debug.proofs.watching.changes_phase.Goals as goal

pub returns-in-Acknowledge : goal.returns-in-Acknowledge
returns-in-Acknowledge c = rw c.in-Acknowledge.is (acknowledge_moves c.args.machine.now _)

pub returns-in-Join : goal.returns-in-Join
returns-in-Join c = rw c.in-Join.is (join_moves c.args.machine.now _)

pub returns-in_default : goal.returns-in_default
returns-in_default c = phase_rest c.args.machine.now c.args.instr.now c.in_default.not-Edit c.in_default.not-Acknowledge c.in_default.not-Join
