-- The merge of two operations is the merge of their slots; what follows for the two transformed operations.
use Rattle.std.proofs.Common.{◌≡◌, ℕ, suc, zero, ◌<◌, ◌≤◌, List, [], ◌∷◌, ◌++◌, length, map, None, refl, ap, ◌∙◌, arith, append_assoc, append-nil}
use borrow.Author.Tests.{eq-eqb, ne_eqb}
use Rattle.ot_operation.specs.Operation.{Item, Operation, place_from, New, apply, invert}
use Rattle.ot_operation.specs.Merge.{Merged, gap_from, kept_by_both, merge_from, merge, merged, first_after, second_after}
use Rattle.ot_operation.specs.Merge.Merged.{First, Second}
use Rattle.ot_operation.proofs.Slots.{Slot, gap_of, slots_image, after, past, slot_place, placed, slots_merged, gap_in_front, gap_past_front, gap_before_slots, place_past_front, gap_later, place_here, place_later}
use Rattle.ot_operation.specs.Compose.{compose}

-- the merge at k of two parts of images, whose first places are p and q, with gap `at` open
abbrev joined : {A : Type 0} → ℕ → ℕ → ℕ → List (Item A) → List (Item A) → ℕ → List (Merged A)
joined p q at a b k = gap_from First p at a k ++ gap_from Second q at b k ++ kept_by_both k (place_from p a k) (place_from q b k)

abbrev joined_from : {A : Type 0} → (ℕ → List (Merged A)) → ℕ → ℕ → List (Merged A)
joined_from joins k zero = joins k
joined_from joins k (suc count) = joins k ++ joined_from joins (suc k) count

joined_from-same :
    {A : Type 0} (f g : ℕ → List (Merged A)) (k count : ℕ) → ((j : ℕ) → k ≤ j → f j ≡ g j)
    → joined_from f k count ≡ joined_from g k count
joined_from-same f g k zero same = same k (omega arith)
joined_from-same f g k (suc count) same =
    let here : f k ≡ g k = same k (omega arith) in
    let rest : joined_from f (suc k) count ≡ joined_from g (suc k) count = joined_from-same f g (suc k) count (λ j h. same j (omega arith)) in
    cc

merge_from-joined_from :
    {A : Type 0} (a b : List (Item A)) (i count : ℕ) → merge_from a b i count ≡ joined_from (joined 0 0 0 a b) i count
merge_from-joined_from a b i zero = refl
merge_from-joined_from a b i (suc count) = ap (λ rest. joined 0 0 0 a b i ++ rest) (merge_from-joined_from a b (suc i) count)

front_here :
    {A : Type 0} (mark : ℕ → A → Merged A) (place i : ℕ) (front : List A) (slots : List (Slot A))
    → gap_from mark place i (map New front ++ slots_image i slots) i ≡ placed mark place front
front_here mark place i front slots =
    gap_in_front mark place i front (slots_image i slots) i (eq-eqb i i refl)
    ∙ ap (λ rest. placed mark place front ++ rest) (gap_before_slots mark (after place front) i i slots i (omega arith))
    ∙ append-nil (placed mark place front)

front_later :
    {A : Type 0} (mark : ℕ → A → Merged A) (place i : ℕ) (front : List A) (s : Slot A) (slots : List (Slot A)) (k : ℕ) → i < k
    → gap_from mark place i (map New front ++ slots_image i (s ∷ slots)) k
    ≡ gap_from mark (past s (after place front)) (suc i) (map New (gap_of s) ++ slots_image (suc i) slots) k
front_later mark place i front s slots k later =
    gap_past_front mark place i front (slots_image i (s ∷ slots)) k (ne_eqb i k (omega arith))
    ∙ gap_later mark (after place front) i s slots k

place_front_later :
    {A : Type 0} (place i : ℕ) (front : List A) (s : Slot A) (slots : List (Slot A)) (k : ℕ) → i < k
    → place_from place (map New front ++ slots_image i (s ∷ slots)) k
    ≡ place_from (past s (after place front)) (map New (gap_of s) ++ slots_image (suc i) slots) k
place_front_later place i front s slots k later =
    place_past_front place front (slots_image i (s ∷ slots)) k ∙ place_later (after place front) i s slots k later

-- what is merged from the gaps g and h on
joined_slots :
    {A : Type 0} (p q i : ℕ) (g h : List A) (ss ts : List (Slot A)) → length ss ≡ length ts
    → joined_from (joined p q i (map New g ++ slots_image i ss) (map New h ++ slots_image i ts)) i (length ss)
    ≡ placed First p g ++ (placed Second q h ++ slots_merged (after p g) (after q h) i ss ts)
joined_slots p q i g h [] (t ∷ ts) same = absurd (omega (arith, same))
joined_slots p q i g h (s ∷ ss) [] same = absurd (omega (arith, same))
joined_slots p q i g h [] [] same =
    let no_place : place_from p (map New g ++ []) i ≡ None = place_past_front p g [] i in
    rw (front_here First p i g [], front_here Second q i h [], no_place) (append_assoc (placed First p g) (placed Second q h) [])
joined_slots {A} p q i g h (s ∷ ss) (t ∷ ts) same =
    let first_place : place_from p (map New g ++ slots_image i (s ∷ ss)) i ≡ slot_place s (after p g) =
    place_past_front p g (slots_image i (s ∷ ss)) i ∙ place_here (after p g) i s ss in
    let second_place : place_from q (map New h ++ slots_image i (t ∷ ts)) i ≡ slot_place t (after q h) =
    place_past_front q h (slots_image i (t ∷ ts)) i ∙ place_here (after q h) i t ts in
    let here : joined p q i (map New g ++ slots_image i (s ∷ ss)) (map New h ++ slots_image i (t ∷ ts)) i
    ≡ placed First p g ++ placed Second q h ++ kept_by_both i (slot_place s (after p g)) (slot_place t (after q h)) =
    rw (front_here First p i g (s ∷ ss), front_here Second q i h (t ∷ ts), first_place, second_place) refl in
    let rest : joined_from (joined p q i (map New g ++ slots_image i (s ∷ ss)) (map New h ++ slots_image i (t ∷ ts))) (suc i) (length ss)
    ≡ joined_from (joined (past s (after p g)) (past t (after q h)) (suc i) (map New (gap_of s) ++ slots_image (suc i) ss) (map New (gap_of t) ++ slots_image (suc i) ts)) (suc i) (length ss) =
    joined_from-same _ _ (suc i) (length ss) (λ k later.
    rw (front_later First p i g s ss k later, front_later Second q i h t ts k later, place_front_later p i g s ss k later, place_front_later q i h t ts k later) refl) in
    let later : joined_from (joined (past s (after p g)) (past t (after q h)) (suc i) (map New (gap_of s) ++ slots_image (suc i) ss) (map New (gap_of t) ++ slots_image (suc i) ts)) (suc i) (length ss)
    ≡ _ = joined_slots (past s (after p g)) (past t (after q h)) (suc i) (gap_of s) (gap_of t) ss ts (omega (arith, same)) in
    rw (here, rest, later) (simp append_assoc)

-- the merge of operations is that of their slots
pub merge-slots_merged :
    {A : Type 0} (a b : Operation A) (g h : List A) (ss ts : List (Slot A))
    → map New g ++ slots_image 0 ss ≡ a.image → map New h ++ slots_image 0 ts ≡ b.image
    → length ss ≡ a.base → length ts ≡ a.base
    → merge a b ≡ placed First 0 g ++ (placed Second 0 h ++ slots_merged (after 0 g) (after 0 h) 0 ss ts)
unfolding apply compose invert merge merged first_after second_after
merge-slots_merged a b g h ss ts first second first_base second_base =
    rw (← first, ← second, ← first_base)
    (merge_from-joined_from (map New g ++ slots_image 0 ss) (map New h ++ slots_image 0 ts) 0 (length ss)
    ∙ joined_slots 0 0 0 g h ss ts (omega arith))
