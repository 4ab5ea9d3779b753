-- Worked examples of the definitions, by computation.
use Rattle.std.proofs.Common.{◌≡◌, ℕ, List, [], ◌∷◌, refl, arith}
use Rattle.ot_operation.specs.Operation.{Operation, Old, New}
use Rattle.ot_codes.specs.declared.code.Code.{Code}
use Rattle.ot_codes.specs.declared.code.Code.TheVariants.{Retain, Insert, Delete}
use Rattle.ot_codes.specs.declared.cut.Cut.{Cut}
use Rattle.ot_codes.specs.Codes.{spelled, without}
use Rattle.ot_codes.specs.Shape.{shape, filled}
use Rattle.ot_codes.specs.Cuts.{assembled, with_cut}
use Rattle.ot_codes.specs.Ends.{start, AreEnds}

-- [2,"xy",-3,1,"z"], with 7, 8 and 9 for its elements
codes : List Code
codes = Retain 2 ∷ Insert 2 ∷ Delete 3 ∷ Retain 1 ∷ Insert 1 ∷ []

operation : Operation ℕ
operation = record { base = 6; image = Old 0 ∷ Old 1 ∷ New 7 ∷ New 8 ∷ Old 5 ∷ New 9 ∷ [] }

spells_shape : spelled codes ≡ shape operation
unfolding codes operation
spells_shape = refl

fills : filled (spelled codes) (7 ∷ 8 ∷ 9 ∷ []) ≡ operation
unfolding codes operation
fills = refl

-- the first code in part, and as a whole
part : without 1 codes ≡ Retain 1 ∷ Insert 2 ∷ Delete 3 ∷ Retain 1 ∷ Insert 1 ∷ []
unfolding codes
part = refl

whole : without 2 codes ≡ Insert 2 ∷ Delete 3 ∷ Retain 1 ∷ Insert 1 ∷ []
unfolding codes
whole = refl

-- "xyz", of which "y" goes, and "uv" comes there
cuts : List Cut
cuts = record { at = 1; gone = 1; from = 0; put = 2 } ∷ []

assembles : assembled {A = ℕ} cuts (1 ∷ 2 ∷ 3 ∷ []) (7 ∷ 8 ∷ []) ≡ 1 ∷ 7 ∷ 8 ∷ 3 ∷ []
unfolding cuts
assembles = refl

-- a cut that begins where the last one ends lengthens it, and another one does not
joins : with_cut (record { at = 1; gone = 0; from = 0; put = 2 } ∷ []) (record { at = 1; gone = 1; from = 2; put = 0 }) ≡ cuts
unfolding cuts
joins = refl

stands_apart :
    with_cut (record { at = 0; gone = 1; from = 0; put = 0 } ∷ []) (record { at = 2; gone = 0; from = 0; put = 3 })
    ≡ record { at = 0; gone = 1; from = 0; put = 0 } ∷ record { at = 2; gone = 0; from = 0; put = 3 } ∷ []
stands_apart = refl

-- the first two codes are a block with an end, and the other three are the last block
in_blocks : AreEnds start codes (record { sum = record { kept = 2; deleted = 0; inserted = 2 }; count = 2 } ∷ [])
unfolding codes
in_blocks = (record { some = omega arith; two = λ some. omega arith; few = omega arith; within = omega arith; sum_is = refl }, (omega arith, λ some. omega arith))
