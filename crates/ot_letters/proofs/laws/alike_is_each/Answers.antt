use Rattle.ot_letters.proofs.laws.alike_is_each.Goals as goal
use Rattle.ot_letters.proofs.Alike.{alike_is_each}

pub returns : goal.returns
returns c = alike_is_each
