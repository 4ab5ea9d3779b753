use Rattle.std.proofs.Common.{◌∙◌}
use Rattle.ot_reasons.proofs.Each.{tag_parts-long}
use Rattle.ot_reasons.proofs.checks.tag_parts.Goals as goal

pub returns-then-items-ne2 : goal.returns-then-items-ne2
returns-then-items-ne2 c = c.wants.ensures ∙ tag_parts-long c.args.place c.args.items.now c.if-items-ne2.true
