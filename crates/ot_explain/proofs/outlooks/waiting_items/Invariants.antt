use Rattle.std.proofs.Common.{◌≡◌, [], drop, map, string_bytes}
use Rattle.ot_values.specs.Items.{with_items}
use Rattle.ot_explain.specs.OutlookJson.{waiting_json}
use Rattle.ot_explain.proofs.outlooks.waiting_items.Given as goal

abbrev pub invariant-loop-one : goal.invariant-loop-one
invariant-loop-one l = with_items (string_bytes l.items) (map (waiting_json l.machine) (drop l.one-index l.waiting)) ≡ with_items [] (map (waiting_json l.machine) l.waiting)
