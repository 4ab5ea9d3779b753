use Rattle.ot_letters.proofs.laws.schedule_maps.Goals as goal
use Rattle.ot_letters.proofs.Runs.{done-mapped, place_at-mapped}

pub returns : goal.returns
returns c = λ f s n. (done-mapped f s, place_at-mapped f s n)
