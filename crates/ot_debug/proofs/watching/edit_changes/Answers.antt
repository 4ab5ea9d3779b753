use Rattle.ot_debug.proofs.Foretelling.{edit_changes}
use Rattle.ot_debug.proofs.watching.edit_changes.Goals as goal

pub returns : goal.returns
returns c =
    edit_changes c.args.machine.now c.args.own c.inserted-first.result c.args.op.now c.in_ok-op.op c.document-list.result.now c.changes.result
    c.document-list.ensures c.inserted-first.ensures c.in_ok-op.ensures c.changes.ensures
