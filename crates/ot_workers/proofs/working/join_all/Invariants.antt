use Rattle.std.proofs.Common.{◌≡◌, ◌+◌, ◌≤◌, length, vec_capacity, vec_len}
use Rattle.ot_workers.proofs.working.join_all.Given as goal

abbrev pub invariant-loop-handle : goal.invariant-loop-handle
invariant-loop-handle g l = (vec_len l.ends ≡ vec_len l.fn.ends + length l.yielded) × (vec_len l.fn.ends + vec_len l.fn.handles ≤ vec_capacity l.ends)
