use Rattle.std.proofs.Common.{ℕ, List, length, map, take, drop}
use Rattle.std.specs.Prelude.{vec_items}
use Rattle.ot_every.specs.Listing.{Earlier}
use Rattle.ot_every.specs.Walking.{AreMarks, LeadOn, tried_at}
use Rattle.ot_every.proofs.candidates.candidates.Given as goal

abbrev pub invariant-loop-client : goal.invariant-loop-client
invariant-loop-client l =
    (count : ℕ) (path : List Earlier) → AreMarks path (length l.marks) l.marks
    → LeadOn l.inserts count (drop l.made (map vec_items l.texts)) path l.machine l.next.items (tried_at l.inserts (drop l.made (map vec_items l.texts)) path 0 (take l.client l.machine.clients))
