use Rattle.ot_letters.proofs.laws.run_maps.Goals as goal
use Rattle.ot_letters.proofs.Runs.{run-mapped, performed-mapped, refusal-mapped}

pub returns : goal.returns
returns c = λ f is p. (run-mapped f is p, performed-mapped f is p.state, refusal-mapped f is p.state)
