use Rattle.std.proofs.Common.{◌+◌, ◌-◌, map, vec_len}
use Rattle.ot_asm.proofs.Listing.{Pads}
use Rattle.ot_asm.proofs.comments.set_name.Given as goal

abbrev pub invariant-loop-alloc : goal.invariant-loop-alloc
invariant-loop-alloc l = Pads (map (λ v. v.items) l.fn.names.items) (map (λ v. v.items) l.names.items) l.client

abbrev pub decreases-loop-alloc : goal.decreases-loop-alloc
decreases-loop-alloc l = (l.client + 1) - vec_len l.names
