use Rattle.ot_every.proofs.laws.parts.Goals as goal
use Rattle.ot_every.proofs.Parts.{parts_at}

pub returns : goal.returns
returns c = λ parts part k xs less. parts_at parts part k xs less
