use Rattle.ot_conform.proofs.Counting.{places_are_not_counted}
use Rattle.ot_conform.proofs.laws.places_are_not_counted.Goals as goal

pub returns : goal.returns
returns c = places_are_not_counted
