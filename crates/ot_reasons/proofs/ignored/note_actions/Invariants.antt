use Rattle.std.proofs.Common.{◌≡◌, drop}
use Rattle.serde_json.specs.View.{items_view}
use Rattle.ot_reasons.specs.Ignored.{key_values, with_action}
use Rattle.ot_reasons.specs.Namings.{note_each}
use Rattle.ot_reasons.proofs.ignored.note_actions.Given as goal

abbrev pub invariant-loop-k : goal.invariant-loop-k
invariant-loop-k l =
    note_each (with_action l.place) l.k (items_view (drop l.k l.actions)) (key_values l.found.items) ≡ note_each (with_action l.place) 0 (items_view l.actions) (key_values l.fn.found.items)
