use Rattle.std.proofs.Common.{◌<◌}
use Rattle.ot_rules.specs.Notes.{IsTrueOf, asked_value, rank}
use Rattle.ot_rules.specs.declared.note.Note.{Note}
use Rattle.ot_rules.proofs.note.first_note.Given as goal

abbrev pub invariant-loop-note : goal.invariant-loop-note
invariant-loop-note l = (n : Note) → rank n < l.note-index → IsTrueOf n (asked_value l.asked) → ⊥
