use Rattle.std.proofs.Common.{◌≡◌, ◌≤◌, vec_capacity, vec_len}
use Rattle.ot_workers.proofs.working.fn.run_workers.scope.Given as goal

abbrev pub invariant-loop-worker : goal.invariant-loop-worker
invariant-loop-worker g l = (vec_len l.handles ≤ l.worker) × (l.count ≤ vec_capacity l.handles) × (vec_len l.ends ≡ 0) × (l.count ≤ vec_capacity l.ends)
