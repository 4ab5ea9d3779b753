use Rattle.ot_steps.proofs.Running.{downlinks_follow}
use Rattle.ot_steps.proofs.laws.downlinks_follow.Goals as goal

pub returns : goal.returns
returns c = downlinks_follow
