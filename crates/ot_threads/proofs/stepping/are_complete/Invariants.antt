use Rattle.std.proofs.Common.{◌≡◌, ℕ, ◌<◌, length}
use Rattle.std.specs.Prelude.{slice_index}
use Rattle.ot_threads.specs.Follows.{actions_of}
use Rattle.ot_threads.proofs.stepping.are_complete.Given as goal

abbrev pub invariant-loop-place : goal.invariant-loop-place
invariant-loop-place l = (c : ℕ) → c < l.place → slice_index l.counts c ≡ length (actions_of l.plan c)
