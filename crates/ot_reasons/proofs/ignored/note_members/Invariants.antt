use Rattle.std.proofs.Common.{◌≡◌}
use Rattle.serde_json.specs.View.{members_view}
use Rattle.ot_reasons.specs.Ignored.{key_values, with_members}
use Rattle.ot_reasons.proofs.ignored.note_members.Given as goal

-- the members before are noted
abbrev pub invariant-loop-key : goal.invariant-loop-key
invariant-loop-key l =
    with_members l.part l.place (members_view l.fn.members.entries) (key_values l.fn.found.items) ≡ with_members l.part l.place (members_view l.key-iterator) (key_values l.found.items)
