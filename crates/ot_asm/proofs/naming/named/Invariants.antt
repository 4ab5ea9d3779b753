use Rattle.std.proofs.Common.{length}
use Rattle.ot_asm.proofs.ByNumber.{IsNamed}
use Rattle.ot_asm.proofs.naming.named.Given as goal

abbrev pub invariant-loop-front : goal.invariant-loop-front
invariant-loop-front l = IsNamed l.comments.names l.text l.shown.items l.rest

abbrev pub decreases-loop-front : goal.decreases-loop-front
decreases-loop-front l = length l.rest
