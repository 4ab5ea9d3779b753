use Rattle.ot_model.proofs.order_laws.same_instructions.Goals as goal
use Rattle.ot_model.proofs.Reordering.{same_instructions}

pub returns : goal.returns
returns c = same_instructions
