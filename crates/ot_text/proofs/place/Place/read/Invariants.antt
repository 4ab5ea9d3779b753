use Rattle.std.proofs.Common.{take, drop, ◌++◌, ◌≤◌}
use Rattle.ot_text.specs.Places.{left_at}
use Rattle.ot_text.proofs.Reading.{IsReading}
use Rattle.ot_text.proofs.place.Place.read.Given as goal

abbrev pub invariant-loop-ahead : goal.invariant-loop-ahead
invariant-loop-ahead g l = record {
  reading : IsReading l.list l.self.leaf l.self.offset l.ahead l.items.items
      (l.initial.items.items ++ take l.count (left_at l.list l.initial.self.leaf l.initial.self.offset))
      (drop l.count (left_at l.list l.initial.self.leaf l.initial.self.offset));
  later : l.initial.self.leaf ≤ l.self.leaf;
}

abbrev pub decreases-loop-ahead : goal.decreases-loop-ahead
decreases-loop-ahead g l = l.ahead
