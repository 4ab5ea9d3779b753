-- The arms of transform's loop, over plain variables.
use Rattle.std.proofs.Common.{◌≡◌, ◌+◌, ◌≤◌, List, length, arith}
use Rattle.ot_operation.specs.Operation.{Operation, IsOperation, news, IsTooLong}
use Rattle.ot_operation.specs.Run.{Run, operation_of}
use Rattle.ot_operation.proofs.OperationLaws.{is_operation}
use Rattle.ot_operation.proofs.TransformProgress.{progress_small, Progress}

-- what the arms add is never too long

pub record Whole {A : Type 0} (a b : Operation A) : Type 0 where
  pub first_rises : IsOperation a
  pub second_rises : IsOperation b
  pub same : a.base ≡ b.base
  pub fits : a.base + length (news a.image) + length (news b.image) ≤ 1000000

pub small :
    {A : Type 0} (a b first second : Operation A) (xs ys : List (Run A)) → Whole a b → Progress a b first second xs ys
    → (IsTooLong first → ⊥) × (IsTooLong second → ⊥)
small a b first second xs ys whole w =
    let bounds = progress_small 1000000 a b first second xs ys w whole.first_rises whole.second_rises whole.same whole.fits in
    let f = bounds.0 in
    let g = bounds.1 in
    (λ long. omega (arith, f, long), λ long. omega (arith, g, long))

pub whole_of :
    {A : Type 0} (a b : Operation A) (xs ys : List (Run A)) → operation_of xs ≡ a → operation_of ys ≡ b → a.base ≡ b.base
    → a.base + length (news a.image) + length (news b.image) ≤ 1000000 → Whole a b
whole_of a b xs ys a_is b_is same fits =
    record { first_rises = is_operation xs a a_is; second_rises = is_operation ys b b_is; same = same; fits = fits }
