-- What an operation keeps is what it was, and in its order.
use Rattle.std.proofs.Common.{◌≡◌, ℕ, suc, zero, ◌<◌, List, [], ◌∷◌, Some, ap, ◌∙◌, arith}
use Rattle.std.specs.List.{slice_get}
use Rattle.std.specs.Option.{option_and_then}
use Rattle.ot_operation.specs.Operation.{Item, RisesFrom, apply, value_in, Old, New}
use Rattle.ot_operation.proofs.ApplyLaws.{each_value}
use Rattle.ot_operation.proofs.InvertLaws.{place_stands}
use Rattle.ot_operation.proofs.Lists.{StandsAt-whole, slice_get-filter_map}
use Rattle.ot_operation.specs.Laws.{ApplyKeepsOrder}
use Rattle.ot_operation.proofs.SidesLaws.{old_from}

in_order :
    {A : Type 0} (low base : ℕ) (image : List (Item A)) (i j p q : ℕ) → RisesFrom low base image
    → slice_get image p ≡ Some (Old i) → slice_get image q ≡ Some (Old j) → i < j → p < q
in_order low base [] i j p q rises e f less = absurd cc
in_order low base (New x ∷ image) i j zero q rises e f less = absurd cc
in_order low base (New x ∷ image) i j (suc p) zero rises e f less = absurd cc
in_order low base (New x ∷ image) i j (suc p) (suc q) rises e f less = let more = in_order low base image i j p q rises e f less in omega arith
in_order low base (Old k ∷ image) i j zero zero rises e f less = let is : k ≡ i = cc in let also : k ≡ j = cc in absurd (omega (arith, is, also, less))
in_order low base (Old k ∷ image) i j zero (suc q) rises e f less = omega arith
in_order low base (Old k ∷ image) i j (suc p) zero rises e f less =
    let is : k ≡ j = cc in let more = old_from (suc k) base image i p rises.2 e in absurd (omega (arith, is, more, less))
in_order low base (Old k ∷ image) i j (suc p) (suc q) rises e f less = let more = in_order (suc k) base image i j p q rises.2 e f less in omega arith

pub apply_keeps_order : {A : Type 0} → ApplyKeepsOrder A
unfolding apply
apply_keeps_order op document i j p q rises fits in_p in_q less =
    let at_p = place_stands op.image 0 op.image i (StandsAt-whole op.image) p in_p in
    let at_q = place_stands op.image 0 op.image j (StandsAt-whole op.image) q in_q in
    let given = each_value document zero op.base op.image rises (omega (arith, fits)) in (
      in_order 0 op.base op.image i j p q rises at_p at_q less,
      slice_get-filter_map (value_in document) op.image given p ∙ ap (option_and_then (value_in document)) at_p,
      slice_get-filter_map (value_in document) op.image given q ∙ ap (option_and_then (value_in document)) at_q,
    )
