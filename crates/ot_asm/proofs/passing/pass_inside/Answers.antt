use Rattle.ot_asm.proofs.Runs.{inside_passed}
use Rattle.ot_asm.proofs.passing.pass_inside.Goals as goal

pub returns : goal.returns
returns c = inside_passed c.args.text.now c.cut_before.result.0.now c.cut_before.result.1.now c.cut_before.ensures.whole c.cut_before.ensures.neither
