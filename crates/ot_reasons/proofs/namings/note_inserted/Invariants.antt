use Rattle.std.proofs.Common.{◌≡◌, drop}
use Rattle.serde_json.specs.View.{items_view}
use Rattle.ot_reasons.specs.Namings.{note_placed, note_each}
use Rattle.ot_reasons.proofs.namings.note_inserted.Given as goal

abbrev pub invariant-loop-k : goal.invariant-loop-k
invariant-loop-k l = note_each (note_placed l.tag l.place) l.k (items_view (drop l.k l.items)) l.found ≡ note_each (note_placed l.tag l.place) 0 (items_view l.items) l.initial.found
