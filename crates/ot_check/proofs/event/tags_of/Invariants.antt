use Rattle.std.proofs.Common.{length}
use Rattle.ot_check.proofs.Tags.{AreTagsBefore}
use Rattle.ot_check.proofs.event.tags_of.Given as goal

abbrev pub invariant-loop-piece : goal.invariant-loop-piece
invariant-loop-piece l = AreTagsBefore l.document l.ahead l.found.items

abbrev pub decreases-loop-piece : goal.decreases-loop-piece
decreases-loop-piece l = length l.ahead
