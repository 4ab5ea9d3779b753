use Rattle.std.proofs.Common.{◌≡◌, ◌<◌, ℕ, length}
use Rattle.std.specs.Prelude.{nat_eq, slice_index}
use Rattle.std.specs.HashMap.{get}
use Rattle.std.specs.Map.{count_at}
use Rattle.ot_model.specs.Trace.{event_at}
use Rattle.ot_judge.specs.Views.{views}
use Rattle.ot_model.specs.Visibility.{edits_before}
use Rattle.ot_judge.proofs.visibility.numbers_of.Given as goal

abbrev pub invariant-loop-d : goal.invariant-loop-d
invariant-loop-d l = record {
  long : length l.numbers.items ≡ l.d;
  each : (k : ℕ) → k < l.d → slice_index l.numbers.items k ≡ edits_before (views l.events) k (event_at (views l.events) k).replica;
  counted : (r : ℕ) → count_at (get nat_eq l.counts) r ≡ edits_before (views l.events) l.d r;
}
