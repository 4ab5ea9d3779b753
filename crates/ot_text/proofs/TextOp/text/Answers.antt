use Rattle.std.proofs.Common.{◌∙◌}
use Rattle.ot_text.proofs.Parts.{parts_of}
use Rattle.ot_text.proofs.TextOp.text.Goals as goal

pub returns : goal.returns
returns g c = c.as_slice.ensures ∙ (parts_of c.self.inside.codes c.self.inside.text c.args.self.now c.self.invariant c.self.view_is).text_is
