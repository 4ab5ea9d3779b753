use Rattle.std.proofs.Common.{◌≡◌}
use Rattle.serde_json.specs.View.{view}
use Rattle.ot_conform.specs.Counted.{count_each, counted_keys, tells}
use Rattle.ot_conform.proofs.Places.{counted_to}
use Rattle.ot_conform.proofs.counts.Counts.with_line.Given as goal

abbrev pub invariant-loop-place : goal.invariant-loop-place
invariant-loop-place l = count_each (λ k. tells k (view l.line)) counted_keys l.fn.self.values ≡ counted_to (λ k. tells k (view l.line)) counted_keys l.self.values l.place
