-- Being an operation: one proof at most, and every list of runs makes one.
use Rattle.std.proofs.Common.{◌≡◌, ℕ, suc, zero, ◌+◌, ◌≤◌, List, [], ◌∷◌, ◌++◌, map, refl, arith}
use Rattle.ot_operation.specs.Operation.{Item, New, Operation, olds, RisesFrom, IsOperation}
use Rattle.ot_operation.specs.Run.{Run, Keep, Add, Skip, base_of, image_from, operation_of}
use Rattle.ot_operation.proofs.ApplyLaws.{RisesFrom-weaker}

rises_past_olds :
    {A : Type 0} (low base i next count : ℕ) (rest : List (Item A)) → low ≤ i → next ≡ i + count → next ≤ base
    → RisesFrom next base rest → RisesFrom low base (olds i count ++ rest)
rises_past_olds low base i next zero rest less e fits rises = RisesFrom-weaker low next base rest (omega arith) rises
rises_past_olds low base i next (suc count) rest less e fits rises =
    (less, omega (arith, e, fits), rises_past_olds (suc i) base (suc i) next count rest (omega arith) (omega (arith, e)) fits rises)

rises_past_news : {A : Type 0} (low base : ℕ) (text : List A) (rest : List (Item A)) → RisesFrom low base rest → RisesFrom low base (map New text ++ rest)
rises_past_news low base [] rest rises = rises
rises_past_news low base (x ∷ text) rest rises = rises_past_news low base text rest rises

image_rises : {A : Type 0} (i base : ℕ) (runs : List (Run A)) → i + base_of runs ≤ base → RisesFrom i base (image_from i runs)
image_rises i base [] fits = tt
image_rises i base (Keep count ∷ runs) fits =
    rises_past_olds i base i (i + count) count (image_from (i + count) runs) (omega arith) refl (omega (arith, fits))
    (image_rises (i + count) base runs (omega (arith, fits)))
image_rises i base (Add text ∷ runs) fits = rises_past_news i base text (image_from i runs) (image_rises i base runs fits)
image_rises i base (Skip count ∷ runs) fits =
    RisesFrom-weaker i (i + count) base (image_from (i + count) runs) (omega arith) (image_rises (i + count) base runs (omega (arith, fits)))

pub operation_of-IsOperation : {A : Type 0} (runs : List (Run A)) → IsOperation (operation_of runs)
operation_of-IsOperation runs = image_rises 0 (base_of runs) runs (omega arith)

-- what runs spell is an operation
pub is_operation : {A : Type 0} (runs : List (Run A)) (op : Operation A) → operation_of runs ≡ op → IsOperation op
is_operation runs op same = rw (← same) (operation_of-IsOperation runs)
