use Rattle.std.proofs.Common.{sym}
use Rattle.ot_verdict.proofs.Ending.{only_joined}
use Rattle.ot_verdict.proofs.verdict.ending.Goals as goal

pub received-requires-clause-joined : goal.received-requires-clause-joined
received-requires-clause-joined c = only_joined c.args.machine.now c.in-Some.client.now c.args.clients.now c.requires.sound c.requires.untaken c.requires.few (sym c.in-Some.ensures.value)
