use Rattle.ot_letters.proofs.laws.deliver_maps.Goals as goal
use Rattle.ot_letters.proofs.Sides.{delivered-mapped, against_pending-mapped}

pub returns : goal.returns
returns g c = λ f state op. (delivered-mapped f state op, against_pending-mapped f state.phase op)
