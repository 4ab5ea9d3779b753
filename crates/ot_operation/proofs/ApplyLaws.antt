-- Laws of apply: each item of an image stands for an element.
use Rattle.std.proofs.Common.{◌≡◌, ℕ, suc, zero, ◌≤◌, List, [], ◌∷◌, length, refl, arith}
use Rattle.ot_operation.specs.Operation.{Item, Old, New, Operation, RisesFrom, IsOperation, apply, value_in}
use Rattle.ot_operation.proofs.Lists.{GivesEach, slice_get_below, length-filter_map}

-- each item stands for an element, where the Olds are within the document
pub each_value :
    {A : Type 0} (document : List A) (low base : ℕ) (image : List (Item A))
    → RisesFrom low base image → base ≤ length document → GivesEach (value_in document) image
each_value document low base [] rises fits = tt
each_value document low base (Old i ∷ image) rises fits =
    (slice_get_below document i (omega arith), each_value document (suc i) base image rises.2 fits)
each_value document low base (New x ∷ image) rises fits = ((x, refl), each_value document low base image rises fits)

-- the result has the length of the image
pub length-apply :
    {A : Type 0} (op : Operation A) (document : List A)
    → IsOperation op → op.base ≤ length document → length (apply op document) ≡ length op.image
unfolding apply
length-apply op document rises fits = length-filter_map (value_in document) op.image (each_value document zero op.base op.image rises fits)

pub RisesFrom-weaker :
    {A : Type 0} (low higher base : ℕ) (image : List (Item A)) → low ≤ higher → RisesFrom higher base image → RisesFrom low base image
RisesFrom-weaker low higher base [] less rises = tt
RisesFrom-weaker low higher base (New x ∷ image) less rises = RisesFrom-weaker low higher base image less rises
RisesFrom-weaker low higher base (Old i ∷ image) less rises = (omega arith, rises.1, rises.2)
