use Rattle.std.specs.List.{flat_map, range_with_len}
use Rattle.ot_every.specs.Listing.{sessions_of}
use Rattle.ot_every.specs.Walking.{IsBegun, Visits}
use Rattle.ot_every.proofs.listing.visit_edits.Given as goal

abbrev pub invariant-loop-room : goal.invariant-loop-room
invariant-loop-room g l = record {
  begun : IsBegun l.space l.walk;
  visited : Visits g.V.Visitor.visits l.initial.visitor l.initial.output (flat_map (sessions_of l.space l.edits) (range_with_len 0 l.room)) l.visitor l.output;
}
