use Rattle.std.proofs.Common.{◌≡◌}
use Rattle.serde_json.specs.View.{members_view}
use Rattle.ot_conform.specs.Unknown.{all_named, with_members}
use Rattle.ot_conform.proofs.unknown.note_members.Given as goal

-- the members before are noted
abbrev pub invariant-loop-name : goal.invariant-loop-name
invariant-loop-name l =
    with_members l.line l.part (members_view l.fn.members.entries) (all_named l.fn.keys.items) ≡ with_members l.line l.part (members_view l.name-iterator) (all_named l.keys.items)
