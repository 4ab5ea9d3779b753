use Rattle.ot_every.proofs.Printed.{printed_are_sessions}
use Rattle.ot_every.proofs.laws.printed_are_sessions.Goals as goal

pub returns : goal.returns
returns c = printed_are_sessions
