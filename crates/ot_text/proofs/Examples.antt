-- An example that the checker evaluates: the change of the crate's picture.
use Rattle.std.proofs.Common.{◌≡◌, ℕ, List, [], ◌∷◌, refl}
use Rattle.ot_operation.specs.Operation.{Old, New, Operation, apply}
use Rattle.ot_codes.specs.declared.code.Code.{Code}
use Rattle.ot_codes.specs.declared.code.Code.TheVariants.{Retain, Insert, Delete}
use Rattle.ot_codes.specs.Codes.{spelled}
use Rattle.ot_codes.specs.Shape.{filled}

abbrev codes : List Code
codes = Retain 1 ∷ Insert 2 ∷ Delete 2 ∷ Retain 1 ∷ []

abbrev op : Operation ℕ
op = filled (spelled codes) (8 ∷ 9 ∷ [])

pub op_is : op ≡ record { base = 4; image = Old 0 ∷ New 8 ∷ New 9 ∷ Old 3 ∷ [] }
op_is = refl

pub made : apply op (1 ∷ 2 ∷ 3 ∷ 4 ∷ []) ≡ 1 ∷ 8 ∷ 9 ∷ 4 ∷ []
unfolding apply
made = refl
