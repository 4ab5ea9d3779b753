use Rattle.ot_model.proofs.part_laws.session_block.Goals as goal
use Rattle.ot_model.proofs.Sessions.{session_block}

pub returns : goal.returns
returns c = session_block
