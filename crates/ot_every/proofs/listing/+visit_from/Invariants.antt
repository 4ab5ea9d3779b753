use Rattle.std.proofs.Common.{List, length, map, take, drop}
use Rattle.std.specs.Prelude.{flat_map, vec_items, ◌-◌}
use Rattle.ot_every.specs.Listing.{Earlier}
use Rattle.ot_every.specs.Walking.{AreMarks, IsSame, Visits, behind_all, sessions_by}
use Rattle.ot_every.proofs.listing.+visit_from.Given as goal

abbrev pub decreases-visit_from : goal.decreases-visit_from
decreases-visit_from g l = l.room

abbrev pub invariant-loop-place : goal.invariant-loop-place
invariant-loop-place g l = record {
  same : IsSame l.initial.walk l.walk;
  visited : (path : List Earlier) → AreMarks path (length l.initial.walk.marks.items) l.initial.walk.marks.items
      → Visits g.V.Visitor.visits l.initial.visitor l.initial.output
      (behind_all l.initial.walk.instrs.items (flat_map (sessions_by l.inserts (l.room - 1) (drop l.made (map vec_items l.texts)) path l.initial.walk.machine) (take l.place l.next))) l.visitor l.output;
}
