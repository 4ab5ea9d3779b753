use Rattle.std.proofs.Common.{◌≡◌, ◌<◌, ◌⊎◌, ℕ, length, true}
use Rattle.std.specs.Prelude.{All}
use Rattle.std.specs.List.{Contains}
use Rattle.ot_model.specs.Trace.{event_at}
use Rattle.ot_model.specs.Visibility.{edits_before, is_edit_of, seen_of}
use Rattle.ot_judge.specs.Turns.{IsKnown, knew}
use Rattle.ot_judge.specs.Views.{views}
use Rattle.ot_judge.proofs.news.news_of.Given as goal

abbrev pub invariant-loop-replica : goal.invariant-loop-replica
invariant-loop-replica l = record {
  known : All (IsKnown (views l.events) l.e) l.news.items;
  own : Contains l.news.items l.e;
  rest : (r : ℕ) → r < l.replica → (d : ℕ) → d < length (views l.events) → is_edit_of r (event_at (views l.events) d) ≡ true → edits_before (views l.events) d r < seen_of (event_at (views l.events) l.e) r → (knew (views l.events) l.last d ≡ true) ⊎ Contains l.news.items d;
}
