use Rattle.std.proofs.Common.{◌≡◌, [], drop, map, string_bytes}
use Rattle.ot_conform.specs.Json.{unknown_json}
use Rattle.ot_values.specs.Items.{with_items}
use Rattle.ot_conform.specs.Unknown.{all_named}
use Rattle.ot_conform.proofs.members.unknown_items.Given as goal

abbrev pub invariant-loop-unknown : goal.invariant-loop-unknown
invariant-loop-unknown l = with_items (string_bytes l.items) (map unknown_json (all_named (drop l.unknown-index l.keys))) ≡ with_items [] (map unknown_json (all_named l.keys))
