use Rattle.std.proofs.Common.{◌∙◌}
use Rattle.ot_text.proofs.Parts.{parts_of}
use Rattle.ot_text.proofs.Counted.{same_count}
use Rattle.ot_text.proofs.TextOp.component_count.Goals as goal

pub returns-clause-value : goal.returns-clause-value
returns-clause-value g c =
    c.count.ensures.value ∙ same_count (parts_of c.self.inside.codes c.self.inside.text c.args.self.now c.self.invariant c.self.view_is)
