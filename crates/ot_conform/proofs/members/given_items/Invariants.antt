use Rattle.std.proofs.Common.{◌≡◌, [], drop, map, string_bytes}
use Rattle.ot_rules.specs.Text.{given_values}
use Rattle.ot_conform.specs.Json.{given_json}
use Rattle.ot_values.specs.Items.{with_items}
use Rattle.ot_conform.proofs.members.given_items.Given as goal

abbrev pub invariant-loop-value : goal.invariant-loop-value
invariant-loop-value l = with_items (string_bytes l.items) (map given_json (given_values (drop l.value-index l.given))) ≡ with_items [] (map given_json (given_values l.given))
