use Rattle.ot_every.proofs.Stepping.{edit_next}
use Rattle.ot_every.proofs.listing.made_after.Goals as goal

pub returns-in-Edit-clause-texts : goal.returns-in-Edit-clause-texts
returns-in-Edit-clause-texts c texts = edit_next c.args.instr.now c.in-Edit.field-0 c.in-Edit.field-1 c.args.made texts c.in-Edit.is
