use Rattle.std.proofs.Common.{◌≡◌}
use Rattle.ot_steps.specs.Held.{printed_of}
use Rattle.ot_conform.specs.Counted.{count_each, counted_keys, has}
use Rattle.ot_conform.proofs.Places.{counted_to}
use Rattle.ot_conform.proofs.counts.Counts.with_printed.Given as goal

abbrev pub invariant-loop-place : goal.invariant-loop-place
invariant-loop-place l = count_each (λ k. has k (printed_of l.documents l.line)) counted_keys l.fn.self.values ≡ counted_to (λ k. has k (printed_of l.documents l.line)) counted_keys l.self.values l.place
