-- How long the image of runs is.
use Rattle.std.proofs.Common.{◌≡◌, ℕ, ◌+◌, List, [], ◌∷◌, length, refl, arith, length-append}
use Rattle.std.proofs.lemmas.List.{length-map}
use Rattle.ot_operation.specs.Run.{Run, image_from, Keep, Add, Skip}
use Rattle.ot_operation.proofs.RunLemmas.{length-olds}
use Rattle.ot_operation.specs.Steps.{target_of}

pub length-image_from : {A : Type 0} (i : ℕ) (runs : List (Run A)) → length (image_from i runs) ≡ target_of runs
length-image_from i [] = refl
length-image_from {A} i (Keep count ∷ runs) =
    simp length-append (omega (arith, length-olds A i count, length-image_from (i + count) runs))
length-image_from i (Add text ∷ runs) = simp (length-append, length-map) (omega (arith, length-image_from i runs))
length-image_from i (Skip count ∷ runs) = length-image_from (i + count) runs
