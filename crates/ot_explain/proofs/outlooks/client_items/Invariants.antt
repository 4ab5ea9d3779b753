use Rattle.std.proofs.Common.{◌≡◌, [], drop, map, string_bytes}
use Rattle.std.specs.Prelude.{decimal}
use Rattle.ot_values.specs.Items.{with_items}
use Rattle.ot_explain.proofs.outlooks.client_items.Given as goal

abbrev pub invariant-loop-client : goal.invariant-loop-client
invariant-loop-client l = with_items (string_bytes l.items) (map decimal (drop l.client-index l.clients)) ≡ with_items [] (map decimal l.clients)
