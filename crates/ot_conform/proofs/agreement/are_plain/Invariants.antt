use Rattle.std.proofs.Common.{◌≡◌, drop}
use Rattle.serde_json.specs.View.{items_view}
use Rattle.ot_conform.specs.Keys.{are_plain}
use Rattle.ot_conform.proofs.agreement.are_plain.Given as goal

-- the values before were plain
abbrev pub invariant-loop-value : goal.invariant-loop-value
invariant-loop-value l = are_plain (items_view l.values) ≡ are_plain (items_view (drop l.value-index l.values))
