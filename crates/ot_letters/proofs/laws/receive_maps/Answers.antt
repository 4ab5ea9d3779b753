use Rattle.ot_letters.proofs.laws.receive_maps.Goals as goal
use Rattle.ot_letters.proofs.Sides.{fault_of-mapped, transform_over-mapped, received-mapped}

pub returns : goal.returns
returns g c = λ f history maker revision op. (fault_of-mapped f history revision op, transform_over-mapped f op history.log, received-mapped f history maker revision op)
