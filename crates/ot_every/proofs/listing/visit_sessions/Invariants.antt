use Rattle.std.specs.Prelude.{suc}
use Rattle.std.specs.List.{flat_map, range_with_len}
use Rattle.ot_every.specs.Listing.{most, sessions_of}
use Rattle.ot_every.specs.Walking.{IsBegun, Visits}
use Rattle.ot_every.proofs.listing.visit_sessions.Given as goal

abbrev pub invariant-loop-edits : goal.invariant-loop-edits
invariant-loop-edits g l = record {
  begun : IsBegun l.space l.walk;
  visited : Visits g.V.Visitor.visits l.initial.visitor l.initial.output
      (flat_map (λ edits. flat_map (sessions_of l.space edits) (range_with_len 0 (suc (most l.space edits)))) (range_with_len 0 l.edits)) l.visitor l.output;
}
