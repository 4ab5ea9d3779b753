-- An operation by its slots: what it inserts at the front, and for each place of the document whether
-- the element stays, with what is inserted directly after it, or goes.
-- Each operation has one such form, and each such form is an operation.
use Rattle.std.proofs.Common.{◌≡◌, ℕ, suc, zero, ◌+◌, ◌-◌, ◌<◌, ◌≤◌, List, [], ◌∷◌, ◌++◌, length, map, replicate, true, false, Option, Some, None, refl, ap, ◌∙◌, arith, nat_eq, length-append}
use Rattle.std.proofs.lemmas.List.{length-replicate}
use borrow.Author.Tests.{eq-eqb, ne_eqb}
use Rattle.ot_operation.specs.Operation.{Item, RisesFrom, place_from, Old, New}
use Rattle.ot_operation.specs.Merge.{Merged, gap_from, kept_by_both}
use Rattle.ot_operation.specs.Merge.Merged.{First, Second}

pub data Slot (A : Type 0) : Type 0 where
  Stays : List A → Slot A
  Gone : Slot A

-- what is inserted directly after the slot's element
abbrev pub gap_of : {A : Type 0} → Slot A → List A
gap_of (Stays gap) = gap
gap_of Gone = []

-- the image of the slots, whose first place in the document is i
abbrev pub slots_image : {A : Type 0} → ℕ → List (Slot A) → List (Item A)
slots_image i [] = []
slots_image i (Stays gap ∷ slots) = Old i ∷ map New gap ++ slots_image (suc i) slots
slots_image i (Gone ∷ slots) = slots_image (suc i) slots

-- the slots of an image, between the places i and base of the document, with the gap before them
abbrev pub slots_of : {A : Type 0} → ℕ → ℕ → List (Item A) → List A × List (Slot A)
slots_of i base [] = ([], replicate (base - i) Gone)
slots_of i base (New x ∷ image) = (x ∷ (slots_of i base image).0, (slots_of i base image).1)
slots_of i base (Old j ∷ image) = ([], replicate (j - i) Gone ++ (Stays (slots_of (suc j) base image).0 ∷ (slots_of (suc j) base image).1))

pub slots_image-gone :
    {A : Type 0} (i j count : ℕ) (slots : List (Slot A)) → j ≡ i + count
    → slots_image i (replicate count Gone ++ slots) ≡ slots_image j slots
slots_image-gone i j zero slots e = ap (λ k. slots_image k slots) (let here : i ≡ j = omega (arith, e) in here)
slots_image-gone i j (suc count) slots e = slots_image-gone (suc i) j count slots (omega (arith, e))

slots_image-all_gone : {A : Type 0} (i count : ℕ) → slots_image {A = A} i (replicate count Gone) ≡ []
slots_image-all_gone i zero = refl
slots_image-all_gone i (suc count) = slots_image-all_gone (suc i) count

-- an operation is the image of its slots
pub slots_image-slots_of :
    {A : Type 0} (i base : ℕ) (image : List (Item A)) → RisesFrom i base image
    → map New (slots_of i base image).0 ++ slots_image i (slots_of i base image).1 ≡ image
slots_image-slots_of i base [] rises = slots_image-all_gone i (base - i)
slots_image-slots_of i base (New x ∷ image) rises = ap (λ rest. New x ∷ rest) (slots_image-slots_of i base image rises)
slots_image-slots_of i base (Old j ∷ image) rises =
    slots_image-gone i j (j - i) _ (omega arith)
    ∙ ap (λ rest. Old j ∷ rest) (slots_image-slots_of (suc j) base image rises.2)

-- and has as many slots as places
pub length-slots_of :
    {A : Type 0} (i base : ℕ) (image : List (Item A)) → RisesFrom i base image → i ≤ base
    → i + length (slots_of i base image).1 ≡ base
length-slots_of {A} i base [] rises fits = rw (length-replicate {A = Slot A} (base - i) Gone) (omega arith)
length-slots_of i base (New x ∷ image) rises fits = length-slots_of i base image rises fits
length-slots_of {A} i base (Old j ∷ image) rises fits =
    let rest : suc j + length (slots_of (suc j) base image).1 ≡ base = length-slots_of (suc j) base image rises.2 (omega arith) in
    simp (length-append, length-replicate) (omega (arith, rest))

-- the place after the gap's elements, the first of which stands at `place`
abbrev pub after : {A : Type 0} → ℕ → List A → ℕ
after place [] = place
after place (x ∷ gap) = after (suc place) gap

-- the place after the slot's element
abbrev pub past : {A : Type 0} → Slot A → ℕ → ℕ
past (Stays gap) place = suc place
past Gone place = place

abbrev pub slot_place : {A : Type 0} → Slot A → ℕ → Option ℕ
slot_place (Stays gap) place = Some place
slot_place Gone place = None

-- the gap's elements with their places
abbrev pub placed : {A : Type 0} → (ℕ → A → Merged A) → ℕ → List A → List (Merged A)
placed mark place [] = []
placed mark place (x ∷ gap) = mark place x ∷ placed mark (suc place) gap

-- the merge of two operations, slot by slot: p and q are the places in the two images
abbrev pub slots_merged : {A : Type 0} → ℕ → ℕ → ℕ → List (Slot A) → List (Slot A) → List (Merged A)
slots_merged p q i [] ts = []
slots_merged p q i (s ∷ ss) [] = []
slots_merged p q i (s ∷ ss) (t ∷ ts) =
    kept_by_both i (slot_place s p) (slot_place t q)
    ++ (placed First (past s p) (gap_of s) ++ (placed Second (past t q) (gap_of t)
    ++ slots_merged (after (past s p) (gap_of s)) (after (past t q) (gap_of t)) (suc i) ss ts))

pub gap_in_front :
    {A : Type 0} (mark : ℕ → A → Merged A) (place at : ℕ) (front : List A) (image : List (Item A)) (i : ℕ) → nat_eq at i ≡ true
    → gap_from mark place at (map New front ++ image) i ≡ placed mark place front ++ gap_from mark (after place front) at image i
gap_in_front mark place at [] image i same = refl
gap_in_front mark place at (x ∷ front) image i same =
    rw same (ap (λ rest. mark place x ∷ rest) (gap_in_front mark (suc place) at front image i same))

pub gap_past_front :
    {A : Type 0} (mark : ℕ → A → Merged A) (place at : ℕ) (front : List A) (image : List (Item A)) (i : ℕ) → nat_eq at i ≡ false
    → gap_from mark place at (map New front ++ image) i ≡ gap_from mark (after place front) at image i
gap_past_front mark place at [] image i other = refl
gap_past_front mark place at (x ∷ front) image i other = rw other (gap_past_front mark (suc place) at front image i other)

pub gap_before_slots :
    {A : Type 0} (mark : ℕ → A → Merged A) (place at i : ℕ) (slots : List (Slot A)) (k : ℕ) → k ≤ i
    → gap_from mark place at (slots_image i slots) k ≡ []
gap_before_slots mark place at i [] k before = refl
gap_before_slots mark place at i (Gone ∷ slots) k before = gap_before_slots mark place at (suc i) slots k (omega arith)
gap_before_slots mark place at i (Stays gap ∷ slots) k before =
    gap_past_front mark (suc place) (suc i) gap (slots_image (suc i) slots) k (ne_eqb (suc i) k (omega arith))
    ∙ gap_before_slots mark (after (suc place) gap) (suc i) (suc i) slots k (omega arith)

gap_of_slots :
    {A : Type 0} (mark : ℕ → A → Merged A) (place at else_at i : ℕ) (slots : List (Slot A)) (k : ℕ)
    → gap_from mark place at (slots_image i slots) k ≡ gap_from mark place else_at (slots_image i slots) k
gap_of_slots mark place at else_at i [] k = refl
gap_of_slots mark place at else_at i (Gone ∷ slots) k = gap_of_slots mark place at else_at (suc i) slots k
gap_of_slots mark place at else_at i (Stays gap ∷ slots) k = refl

pub place_past_front :
    {A : Type 0} (place : ℕ) (front : List A) (image : List (Item A)) (i : ℕ)
    → place_from place (map New front ++ image) i ≡ place_from (after place front) image i
place_past_front place [] image i = refl
place_past_front place (x ∷ front) image i = place_past_front (suc place) front image i

pub place_before_slots :
    {A : Type 0} (place i : ℕ) (slots : List (Slot A)) (k : ℕ) → k < i → place_from place (slots_image i slots) k ≡ None
place_before_slots place i [] k before = refl
place_before_slots place i (Gone ∷ slots) k before = place_before_slots place (suc i) slots k (omega arith)
place_before_slots place i (Stays gap ∷ slots) k before =
    rw (ne_eqb i k (omega arith))
    (place_past_front (suc place) gap (slots_image (suc i) slots) k
    ∙ place_before_slots (after (suc place) gap) (suc i) slots k (omega arith))

-- past the first slot
pub gap_later :
    {A : Type 0} (mark : ℕ → A → Merged A) (place i : ℕ) (s : Slot A) (slots : List (Slot A)) (k : ℕ)
    → gap_from mark place i (slots_image i (s ∷ slots)) k
    ≡ gap_from mark (past s place) (suc i) (map New (gap_of s) ++ slots_image (suc i) slots) k
gap_later mark place i (Stays gap) slots k = refl
gap_later mark place i Gone slots k = gap_of_slots mark place i (suc i) (suc i) slots k

pub place_here :
    {A : Type 0} (place i : ℕ) (s : Slot A) (slots : List (Slot A))
    → place_from place (slots_image i (s ∷ slots)) i ≡ slot_place s place
place_here place i (Stays gap) slots = rw (eq-eqb i i refl) refl
place_here place i Gone slots = place_before_slots place (suc i) slots i (omega arith)

pub place_later :
    {A : Type 0} (place i : ℕ) (s : Slot A) (slots : List (Slot A)) (k : ℕ) → i < k
    → place_from place (slots_image i (s ∷ slots)) k
    ≡ place_from (past s place) (map New (gap_of s) ++ slots_image (suc i) slots) k
place_later place i (Stays gap) slots k later = rw (ne_eqb i k (omega arith)) refl
place_later place i Gone slots k later = refl
