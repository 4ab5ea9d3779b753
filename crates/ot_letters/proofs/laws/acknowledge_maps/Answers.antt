use Rattle.ot_letters.proofs.laws.acknowledge_maps.Goals as goal
use Rattle.ot_letters.proofs.Sides.{phase_acknowledged-mapped, message_acknowledged-mapped}

pub returns : goal.returns
returns g c = λ f revision phase. (phase_acknowledged-mapped f phase, message_acknowledged-mapped f revision phase)
