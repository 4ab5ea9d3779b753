use Rattle.std.proofs.Common.{◌∙◌, ◌++◌, ◌∷◌, [], ap, None, Option, List}
use Rattle.std.proofs.lemmas.List.{replicate-append-replicate}
use Rattle.ot_board.specs.declared.lent.Lent.{Lent}
use Rattle.ot_board.proofs.board.empty_slots.Goals as goal

pub loop-place-preserved : goal.loop-place-preserved
loop-place-preserved c =
    c.in_ok-push.ensures.items ∙ ap (λ (xs : List (Option Lent)). xs ++ None ∷ []) c.loop-place.invariant ∙ replicate-append-replicate c.loop-place.place 1 None
