use Rattle.std.proofs.Common.{subst}
use Rattle.ot_machine.specs.Effects.{delivery_of}
use Rattle.ot_machine.specs.Readers.{ClientHas}
use Rattle.ot_debug.proofs.Foretelling.{delivery_changes}
use Rattle.ot_debug.proofs.watching.delivery_changes.Goals as goal

pub returns-in-Some : goal.returns-in-Some
returns-in-Some c =
    delivery_changes c.args.machine.now c.args.own c.in-Some.op c.document.result.now c.changes.result c.document.ensures
    (subst (ClientHas c.args.machine.now c.args.own (delivery_of c.args.machine.now c.args.own)) c.in-Some.is c.in_ok-op.ensures.value) c.changes.ensures
