use Rattle.ot_every.proofs.Lettering.{texts_next}
use Rattle.ot_every.proofs.edits.texts.Goals as goal

pub loop-edit-preserved : goal.loop-edit-preserved
loop-edit-preserved c = texts_next c.args.count c.loop-edit.edit c.loop-edit.texts.items c.push.new.self.items c.in_ok-text.text c.loop-edit.invariant c.in_ok-push.ensures.items c.in_ok-text.ensures
