use Rattle.std.proofs.Common.{◌≡◌, drop}
use Rattle.serde_json.specs.View.{items_view}
use Rattle.ot_reasons.specs.Ignored.{key_values, with_row}
use Rattle.ot_reasons.specs.Namings.{note_each}
use Rattle.ot_reasons.proofs.ignored.note_rows.Given as goal

abbrev pub invariant-loop-k : goal.invariant-loop-k
invariant-loop-k l =
    note_each with_row l.k (items_view (drop l.k l.rows)) (key_values l.found.items) ≡ note_each with_row 0 (items_view l.rows) (key_values l.fn.found.items)
