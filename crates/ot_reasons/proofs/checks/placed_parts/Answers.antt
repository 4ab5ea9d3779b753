use Rattle.std.proofs.Common.{◌∙◌}
use Rattle.ot_reasons.proofs.Each.{placed_parts-long}
use Rattle.ot_reasons.proofs.checks.placed_parts.Goals as goal

pub returns-then-items-ne3 : goal.returns-then-items-ne3
returns-then-items-ne3 c = c.wants.ensures ∙ placed_parts-long c.args.place c.args.items.now c.if-items-ne3.true
