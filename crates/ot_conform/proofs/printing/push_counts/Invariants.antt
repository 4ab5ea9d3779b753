use Rattle.std.proofs.Common.{◌≡◌, ◌++◌, drop, string_bytes}
use Rattle.ot_conform.specs.Answers.{counts_text}
use Rattle.ot_conform.specs.Counted.{counted_keys}
use Rattle.ot_conform.proofs.printing.push_counts.Given as goal

abbrev pub invariant-loop-place : goal.invariant-loop-place
invariant-loop-place l =
    string_bytes l.text ++ counts_text (drop l.place counted_keys) (drop l.place l.counts.values)
    ≡ string_bytes l.fn.text ++ counts_text counted_keys l.counts.values
