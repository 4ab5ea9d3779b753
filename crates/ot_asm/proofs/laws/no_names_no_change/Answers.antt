use Rattle.ot_asm.proofs.ByNumber.{same}
use Rattle.ot_asm.proofs.laws.no_names_no_change.Goals as goal

pub returns : goal.returns
returns c = same c.args.text.now
