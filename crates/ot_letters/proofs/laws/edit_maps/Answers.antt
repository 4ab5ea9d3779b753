use Rattle.ot_letters.proofs.laws.edit_maps.Goals as goal
use Rattle.ot_letters.proofs.Sides.{edited-mapped, message_edited-mapped}

pub returns : goal.returns
returns g c = λ f state op. (edited-mapped f state op, message_edited-mapped f state.revision state.phase op)
