-- An inverse is an operation.
use Rattle.std.proofs.Common.{◌≡◌, ℕ, suc, ◌≤◌, List, [], ◌∷◌, ◌++◌, length, map, sym, ap, ◌∙◌, arith}
use Rattle.ot_operation.specs.Operation.{Item, Operation, RisesFrom, IsOperation, invert, place_from, place_of, restored, restored_from, New, apply}
use Rattle.ot_operation.proofs.Slots.{Slot, gap_of, slots_image, slots_of, after, past, slot_place, place_past_front, place_here, place_later}
use Rattle.ot_operation.proofs.Slots.Slot.{Stays, Gone}
use Rattle.ot_operation.proofs.ApplyLaws.{RisesFrom-weaker}
use Rattle.ot_operation.proofs.TransformedLaws.{after-length, end_of, end_of_within, HasSlots, has_slots}
use Rattle.ot_operation.specs.Compose.{compose}
use Rattle.ot_operation.specs.Merge.{merge, merged, first_after, second_after}

rises_restored :
    {A : Type 0} (low base place : ℕ) (s : Slot A) (x : A) (rest : List (Item A)) → low ≤ place → past s place ≤ base
    → RisesFrom (past s place) base rest → RisesFrom low base (restored (slot_place s place) x ∷ rest)
rises_restored low base place Gone x rest less fits rises = RisesFrom-weaker low place base rest less rises
rises_restored low base place (Stays gap) x rest less fits rises = (less, omega arith, rises)

restored_rises :
    {A : Type 0} (image : List (Item A)) (base place i : ℕ) (front : List A) (slots : List (Slot A)) (document : List A)
    → ((k : ℕ) → i ≤ k → place_of image k ≡ place_from place (map New front ++ slots_image i slots) k)
    → end_of (after place front) slots ≤ base → length document ≡ length slots
    → RisesFrom place base (restored_from image i document)
restored_rises image base place i front slots [] agree fits same = tt
restored_rises image base place i front [] (x ∷ document) agree fits same = absurd (omega (arith, same))
restored_rises image base place i front (s ∷ slots) (x ∷ document) agree fits same =
    let here : place_of image i ≡ slot_place s (after place front) =
    agree i (omega arith) ∙ place_past_front place front (slots_image i (s ∷ slots)) i ∙ place_here (after place front) i s slots in
    let rest : RisesFrom (past s (after place front)) base (restored_from image (suc i) document) =
    restored_rises image base (past s (after place front)) (suc i) (gap_of s) slots document
    (λ k later. agree k (omega arith) ∙ place_past_front place front (slots_image i (s ∷ slots)) k ∙ place_later (after place front) i s slots k later)
    fits (omega (arith, same)) in
    rw here
    (rises_restored place base (after place front) s x (restored_from image (suc i) document)
    (omega (arith, after-length place front))
    (omega (arith, fits, after-length (past s (after place front)) (gap_of s), end_of_within (after (past s (after place front)) (gap_of s)) slots))
    rest)

pub invert-IsOperation :
    {A : Type 0} (op : Operation A) (document : List A) → IsOperation op → op.base ≡ length document → IsOperation (invert op document)
unfolding apply compose invert merge merged first_after second_after
invert-IsOperation {A} op document rises fits =
    restored_rises op.image (length op.image) 0 0 front slots document
    (λ k later. ap (λ image. place_from 0 image k) (sym form.image_is))
    (omega (arith, form.end_is)) (omega (arith, form.length_is, fits))
  where
    front : List A
    front = (slots_of 0 op.base op.image).0

    slots : List (Slot A)
    slots = (slots_of 0 op.base op.image).1

    form : HasSlots op (slots_of 0 op.base op.image).0 (slots_of 0 op.base op.image).1
    form = has_slots op rises
