use Rattle.std.proofs.Common.{◌≡◌, ◌++◌, ℕ, Bool, List, length}
use Rattle.serde_json.specs.Written.{comma_if}
use Rattle.ot_json.proofs.PlainText.{Gone}
use Rattle.ot_json.proofs.plain.read_plain.Given as goal

abbrev pub invariant-loop-part : goal.invariant-loop-part
invariant-loop-part l = (later : Bool) × (before : List ℕ) × Gone later l.bytes before l.op × (before ≡ comma_if later ++ l.rest)

abbrev pub decreases-loop-part : goal.decreases-loop-part
decreases-loop-part l = length l.rest
