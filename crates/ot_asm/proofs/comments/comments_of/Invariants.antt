use Rattle.std.proofs.Common.{length}
use Rattle.ot_asm.proofs.Reading.{HasRead}
use Rattle.ot_asm.proofs.comments.comments_of.Given as goal

abbrev pub invariant-loop-line : goal.invariant-loop-line
invariant-loop-line l = HasRead l.text l.rest l.comments

abbrev pub decreases-loop-line : goal.decreases-loop-line
decreases-loop-line l = length l.rest
