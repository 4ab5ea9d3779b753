-- What runs make of a document, one after the other.
use Rattle.std.proofs.Common.{◌≡◌, ℕ, ◌+◌, List, [], ◌∷◌, ◌++◌, map, take, drop, refl}
use Rattle.ot_operation.specs.Operation.{New, olds, apply}
use Rattle.ot_operation.specs.Run.{Run, Keep, Add, Skip, image_from, operation_of}
use Rattle.ot_operation.proofs.Applied.{values-append, values-olds, values-news, values-shift}

pub apply-none : {A : Type 0} (d : List A) → apply (operation_of []) d ≡ []
unfolding apply
apply-none d = refl

module _ {A : Type 0} (runs : List (Run A)) (d : List A) where
  pub apply-keep : (n : ℕ) → apply (operation_of (Keep n ∷ runs)) d ≡ take n d ++ apply (operation_of runs) (drop n d)
  unfolding apply
  apply-keep n = rw (values-append (olds 0 n) (image_from (0 + n) runs) d, values-olds 0 n d, values-shift 0 n runs d) refl

  pub apply-add : (text : List A) → apply (operation_of (Add text ∷ runs)) d ≡ text ++ apply (operation_of runs) d
  unfolding apply
  apply-add text = rw (values-append (map New text) (image_from 0 runs) d, values-news text d) refl

  pub apply-skip : (n : ℕ) → apply (operation_of (Skip n ∷ runs)) d ≡ apply (operation_of runs) (drop n d)
  unfolding apply
  apply-skip n = values-shift 0 n runs d
