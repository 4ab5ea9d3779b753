use Rattle.ot_verdict.proofs.Ending.{every_order_ends}
use Rattle.ot_verdict.proofs.laws.every_order_ends.Goals as goal

pub returns : goal.returns
returns c = every_order_ends
