-- The components of the reader as runs.
use Rattle.std.specs.Prelude.{◌≡◌, ℕ, length}
use Rattle.ot_operation.specs.Operation.{Operation}
use Rattle.std.specs.Str.{chars}
use Rattle.ot_operation.specs.Run.{Run, Keep, Add, Skip}
use Rattle.ot_json.specs.declared.part.Part.{Part}
use Rattle.ot_json.specs.declared.part.Part.TheVariants.{Retain, Insert, Delete}

abbrev pub run_of_part : Part → Run ℕ
run_of_part (Retain n) = Keep n
run_of_part (Insert s) = Add (chars s.now)
run_of_part (Delete n) = Skip n

-- the base length and the target length are the operation's
abbrev pub HasLengths : Operation ℕ → ℕ × ℕ → Type 0
HasLengths op lengths = (lengths.0 ≡ op.base) × (lengths.1 ≡ length op.image)
