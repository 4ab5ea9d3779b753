use Rattle.std.proofs.Common.{◌≡◌, drop}
use Rattle.serde_json.specs.View.{view}
use Rattle.ot_conform.specs.Differences.{first_key}
use Rattle.ot_conform.specs.Due.{due_of}
use Rattle.ot_conform.proofs.meeting.first_field.Given as goal

-- the keys before agree
abbrev pub invariant-loop-key : goal.invariant-loop-key
invariant-loop-key l = first_key l.keys (due_of l.due).line (view l.line) ≡ first_key (drop l.key-index l.keys) (due_of l.due).line (view l.line)
