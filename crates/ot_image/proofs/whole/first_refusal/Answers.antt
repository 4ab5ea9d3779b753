use Rattle.std.proofs.Common.{◌∙◌, ap, arith, sym}
use Rattle.std.specs.Prelude.{Some}
use Rattle.ot_image.proofs.FieldSteps.{short_refusal}
use Rattle.ot_image.proofs.whole.first_refusal.Goals as goal

pub returns-then-bytes-lt4 : goal.returns-then-bytes-lt4
returns-then-bytes-lt4 c = ap Some c.magic_refusal.ensures ∙ sym (short_refusal c.args.bytes.now (omega arith))
