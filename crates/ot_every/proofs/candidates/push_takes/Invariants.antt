use Rattle.std.proofs.Common.{ℕ, ◌++◌, List, take}
use Rattle.ot_every.specs.Listing.{Earlier, takes}
use Rattle.ot_every.specs.Walking.{LeadOn}
use Rattle.ot_every.proofs.candidates.push_takes.Given as goal

abbrev pub invariant-loop-client : goal.invariant-loop-client
invariant-loop-client l =
    (inserts count : ℕ) (texts : List (List ℕ)) (path : List Earlier)
    → LeadOn inserts count texts path l.machine l.next.items (l.initial.next.items ++ takes 0 (take l.client l.machine.clients))
