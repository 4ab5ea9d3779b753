use Rattle.std.proofs.Common.{◌≡◌, [], drop, string_bytes}
use Rattle.ot_conform.specs.Counted.{counted_keys}
use Rattle.ot_conform.specs.Json.{count_items}
use Rattle.ot_values.specs.Items.{with_items}
use Rattle.ot_conform.proofs.members.count_items.Given as goal

abbrev pub invariant-loop-place : goal.invariant-loop-place
invariant-loop-place l =
    with_items (string_bytes l.items) (count_items (drop l.place counted_keys) (drop l.place l.counts.values))
    ≡ with_items [] (count_items counted_keys l.counts.values)
