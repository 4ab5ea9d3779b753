-- More laws of transform: how long the merge is, and that it keeps the order of each side.
use Rattle.std.proofs.Common.{◌≡◌, ℕ, suc, ◌+◌, ◌≤◌, List, [], ◌∷◌, ◌++◌, length, map, Option, Some, None, refl, sym, ap, ◌∙◌, arith, length-append}
use Rattle.std.specs.List.{filter_map}
use Rattle.ot_operation.specs.Operation.{Item, Operation, IsOperation, news, place_from, place_of, RisesFrom, Old, New}
use Rattle.ot_operation.specs.Merge.{Merged, kept_by_both, merge}
use Rattle.ot_operation.specs.Merge.Merged.{First, Second, Both}
use Rattle.ot_operation.proofs.Slots.{Slot, gap_of, slots_image, slots_of, after, past, slot_place, placed, slots_merged, place_past_front, place_here, place_later}
use Rattle.ot_operation.proofs.Slots.Slot.{Stays, Gone}
use Rattle.ot_operation.proofs.SlotsMerged.{merge-slots_merged}
use Rattle.ot_operation.proofs.TransformedLaws.{HasSlots, has_slots, news-append_gap}

length-placed : {A : Type 0} (mark : ℕ → A → Merged A) (place : ℕ) (gap : List A) → length (placed mark place gap) ≡ length gap
length-placed mark place [] = refl
length-placed mark place (x ∷ gap) = ap suc (length-placed mark (suc place) gap)

length-kept : (A : Type 0) (i : ℕ) (p q : Option ℕ) → length (kept_by_both {A = A} i p q) ≤ 1
length-kept A i None q = omega arith
length-kept A i (Some p) None = omega arith
length-kept A i (Some p) (Some q) = omega arith

length-news_slot : {A : Type 0} (i : ℕ) (s : Slot A) (slots : List (Slot A)) → length (news (slots_image i (s ∷ slots))) ≡ length (gap_of s) + length (news (slots_image (suc i) slots))
length-news_slot i Gone slots = omega arith
length-news_slot i (Stays gap) slots = ap length (news-append_gap gap (slots_image (suc i) slots)) ∙ length-append gap (news (slots_image (suc i) slots))

length-slots_merged :
    {A : Type 0} (p q i : ℕ) (ss ts : List (Slot A)) → length ss ≡ length ts
    → length (slots_merged p q i ss ts) ≤ length ss + length (news (slots_image i ss)) + length (news (slots_image i ts))
length-slots_merged p q i [] ts same = omega arith
length-slots_merged p q i (s ∷ ss) [] same = absurd (omega (arith, same))
length-slots_merged {A} p q i (s ∷ ss) (t ∷ ts) same =
    let rest = length-slots_merged (after (past s p) (gap_of s)) (after (past t q) (gap_of t)) (suc i) ss ts (omega (arith, same)) in
    simp length-append
    (omega (
      arith,
      rest,
      length-kept A i (slot_place s p) (slot_place t q),
      length-placed First (past s p) (gap_of s),
      length-placed Second (past t q) (gap_of t),
      length-news_slot i s ss,
      length-news_slot i t ts,
    ))

-- neither transformed operation makes more than the document and all insertions together
pub length-merge :
    {A : Type 0} (a b : Operation A) → IsOperation a → IsOperation b → a.base ≡ b.base
    → length (merge a b) ≤ a.base + length (news a.image) + length (news b.image)
length-merge {A} a b a_rises b_rises same =
    let s = slots_of 0 a.base a.image in
    let t = slots_of 0 b.base b.image in
    let a_slots : HasSlots a (slots_of 0 a.base a.image).0 (slots_of 0 a.base a.image).1 = has_slots a a_rises in
    let b_slots : HasSlots b (slots_of 0 b.base b.image).0 (slots_of 0 b.base b.image).1 = has_slots b b_rises in
    let as_slots = merge-slots_merged a b s.0 t.0 s.1 t.1 a_slots.image_is b_slots.image_is a_slots.length_is (omega (arith, b_slots.length_is, same)) in
    let a_news : length (news a.image) ≡ length s.0 + length (news (slots_image 0 s.1)) =
    ap (λ image. length (news image)) (sym a_slots.image_is) ∙ ap length (news-append_gap s.0 (slots_image 0 s.1)) ∙ length-append s.0 (news (slots_image 0 s.1)) in
    let b_news : length (news b.image) ≡ length t.0 + length (news (slots_image 0 t.1)) =
    ap (λ image. length (news image)) (sym b_slots.image_is) ∙ ap length (news-append_gap t.0 (slots_image 0 t.1)) ∙ length-append t.0 (news (slots_image 0 t.1)) in
    let whole : length (merge a b) ≡ length (placed First 0 s.0 ++ (placed Second 0 t.0 ++ slots_merged (after 0 s.0) (after 0 t.0) 0 s.1 t.1)) = ap length as_slots in
    let parts : length (placed First 0 s.0 ++ (placed Second 0 t.0 ++ slots_merged (after 0 s.0) (after 0 t.0) 0 s.1 t.1))
    ≡ length s.0 + (length t.0 + length (slots_merged (after 0 s.0) (after 0 t.0) 0 s.1 t.1)) =
    simp (length-append, length-placed) in
    let less = length-slots_merged (after 0 s.0) (after 0 t.0) 0 s.1 t.1 (omega (arith, a_slots.length_is, b_slots.length_is, same)) in
    omega (arith, whole, parts, less, a_news, b_news, a_slots.length_is)

-- the items of a merge that stem from the first, as items over the document
abbrev pub of_first : {A : Type 0} → Merged A → Option (Item A)
of_first (First place x) = Some (New x)
of_first (Second place x) = None
of_first (Both i p q) = Some (Old i)

abbrev pub of_second : {A : Type 0} → Merged A → Option (Item A)
of_second (First place x) = None
of_second (Second place x) = Some (New x)
of_second (Both i p q) = Some (Old i)

-- an item of one image, where the other image keeps it
abbrev pub if_found : {A : Type 0} → Option ℕ → Item A → Option (Item A)
if_found None item = None
if_found (Some place) item = Some item

abbrev pub if_kept : {A : Type 0} → List (Item A) → Item A → Option (Item A)
if_kept other (Old i) = if_found (place_of other i) (Old i)
if_kept other (New x) = Some (New x)

of_first_First : {A : Type 0} (place : ℕ) (gap : List A) (rest : List (Merged A))
    → filter_map of_first (placed First place gap ++ rest) ≡ map New gap ++ filter_map of_first rest
of_first_First place [] rest = refl
of_first_First place (x ∷ gap) rest = ap (λ more. New x ∷ more) (of_first_First (suc place) gap rest)

of_first_Second : {A : Type 0} (place : ℕ) (gap : List A) (rest : List (Merged A))
    → filter_map of_first (placed Second place gap ++ rest) ≡ filter_map of_first rest
of_first_Second place [] rest = refl
of_first_Second place (x ∷ gap) rest = of_first_Second (suc place) gap rest

of_second_First : {A : Type 0} (place : ℕ) (gap : List A) (rest : List (Merged A))
    → filter_map of_second (placed First place gap ++ rest) ≡ filter_map of_second rest
of_second_First place [] rest = refl
of_second_First place (x ∷ gap) rest = of_second_First (suc place) gap rest

of_second_Second : {A : Type 0} (place : ℕ) (gap : List A) (rest : List (Merged A))
    → filter_map of_second (placed Second place gap ++ rest) ≡ map New gap ++ filter_map of_second rest
of_second_Second place [] rest = refl
of_second_Second place (x ∷ gap) rest = ap (λ more. New x ∷ more) (of_second_Second (suc place) gap rest)

news_kept : {A : Type 0} (other : List (Item A)) (gap : List A) (rest : List (Item A))
    → filter_map (if_kept other) (map New gap ++ rest) ≡ map New gap ++ filter_map (if_kept other) rest
news_kept other [] rest = refl
news_kept other (x ∷ gap) rest = ap (λ more. New x ∷ more) (news_kept other gap rest)

-- the slots of the other image, seen from i on
abbrev Agrees : {A : Type 0} → List (Item A) → ℕ → ℕ → List A → List (Slot A) → Type 0
Agrees other place i front slots = (k : ℕ) → i ≤ k → place_of other k ≡ place_from place (map New front ++ slots_image i slots) k

agrees_here :
    {A : Type 0} (other : List (Item A)) (q i : ℕ) (front : List A) (t : Slot A) (ts : List (Slot A)) → Agrees other q i front (t ∷ ts)
    → place_of other i ≡ slot_place t (after q front)
agrees_here other q i front t ts agrees =
    agrees i (omega arith) ∙ place_past_front q front (slots_image i (t ∷ ts)) i ∙ place_here (after q front) i t ts

agrees_later :
    {A : Type 0} (other : List (Item A)) (q i : ℕ) (front : List A) (t : Slot A) (ts : List (Slot A)) → Agrees other q i front (t ∷ ts)
    → Agrees other (past t (after q front)) (suc i) (gap_of t) ts
agrees_later other q i front t ts agrees =
    λ k below. agrees k (omega arith) ∙ place_past_front q front (slots_image i (t ∷ ts)) k ∙ place_later (after q front) i t ts k below

abbrev slot_image : {A : Type 0} → ℕ → Slot A → List (Item A) → List (Item A)
slot_image i Gone image = image
slot_image i (Stays gap) image = Old i ∷ map New gap ++ image

first_slot_kept :
    {A : Type 0} (other : List (Item A)) (p q i : ℕ) (s t : Slot A) (image : List (Item A)) (rest : List (Merged A))
    → place_of other i ≡ slot_place t q → filter_map of_first rest ≡ filter_map (if_kept other) image
    → filter_map of_first (kept_by_both i (slot_place s p) (slot_place t q) ++ (placed First (past s p) (gap_of s) ++ (placed Second (past t q) (gap_of t) ++ rest)))
    ≡ filter_map (if_kept other) (slot_image i s image)
first_slot_kept other p q i Gone t image rest found same = of_first_Second (past t q) (gap_of t) rest ∙ same
first_slot_kept other p q i (Stays g) Gone image rest found same =
    rw found
    (of_first_First (suc p) g rest ∙ ap (λ more. map New g ++ more) same ∙ sym (news_kept other g image))
first_slot_kept other p q i (Stays g) (Stays h) image rest found same =
    rw found
    (ap (λ more. Old i ∷ more)
    (of_first_First (suc p) g (placed Second (suc q) h ++ rest)
    ∙ ap (λ more. map New g ++ more) (of_first_Second (suc q) h rest ∙ same) ∙ sym (news_kept other g image)))

slots_image-cons : {A : Type 0} (i : ℕ) (s : Slot A) (slots : List (Slot A)) → slot_image i s (slots_image (suc i) slots) ≡ slots_image i (s ∷ slots)
slots_image-cons i Gone slots = refl
slots_image-cons i (Stays g) slots = refl

first_kept :
    {A : Type 0} (other : List (Item A)) (p q i : ℕ) (front : List A) (ss ts : List (Slot A)) → length ss ≡ length ts
    → Agrees other q i front ts
    → filter_map of_first (slots_merged p (after q front) i ss ts) ≡ filter_map (if_kept other) (slots_image i ss)
first_kept other p q i front [] ts same agrees = refl
first_kept other p q i front (s ∷ ss) [] same agrees = absurd (omega (arith, same))
first_kept other p q i front (s ∷ ss) (t ∷ ts) same agrees =
    first_slot_kept other p (after q front) i s t (slots_image (suc i) ss) _ (agrees_here other q i front t ts agrees)
    (first_kept other (after (past s p) (gap_of s)) (past t (after q front)) (suc i) (gap_of t) ss ts (omega (arith, same)) (agrees_later other q i front t ts agrees))
    ∙ ap (filter_map (if_kept other)) (slots_image-cons i s ss)

-- the items of the merge that stem from the first are the first's items that the second keeps, in their order
pub merge-of_first :
    {A : Type 0} (a b : Operation A) → IsOperation a → IsOperation b → a.base ≡ b.base
    → filter_map of_first (merge a b) ≡ filter_map (if_kept b.image) a.image
merge-of_first {A} a b a_rises b_rises same =
    let s = slots_of 0 a.base a.image in
    let t = slots_of 0 b.base b.image in
    let a_slots : HasSlots a (slots_of 0 a.base a.image).0 (slots_of 0 a.base a.image).1 = has_slots a a_rises in
    let b_slots : HasSlots b (slots_of 0 b.base b.image).0 (slots_of 0 b.base b.image).1 = has_slots b b_rises in
    let as_slots = merge-slots_merged a b s.0 t.0 s.1 t.1 a_slots.image_is b_slots.image_is a_slots.length_is (omega (arith, b_slots.length_is, same)) in
    ap (filter_map of_first) as_slots
    ∙ of_first_First 0 s.0 _
    ∙ ap (λ more. map New s.0 ++ more)
    (of_first_Second 0 t.0 _
    ∙ first_kept b.image (after 0 s.0) 0 0 t.0 s.1 t.1 (omega (arith, a_slots.length_is, b_slots.length_is, same))
    (λ k below. ap (λ image. place_from 0 image k) (sym b_slots.image_is)))
    ∙ sym (news_kept b.image s.0 (slots_image 0 s.1))
    ∙ ap (filter_map (if_kept b.image)) a_slots.image_is

-- and likewise the second's

second_slot_kept :
    {A : Type 0} (other : List (Item A)) (p q i : ℕ) (s t : Slot A) (image : List (Item A)) (rest : List (Merged A))
    → place_of other i ≡ slot_place s p → filter_map of_second rest ≡ filter_map (if_kept other) image
    → filter_map of_second (kept_by_both i (slot_place s p) (slot_place t q) ++ (placed First (past s p) (gap_of s) ++ (placed Second (past t q) (gap_of t) ++ rest)))
    ≡ filter_map (if_kept other) (slot_image i t image)
second_slot_kept other p q i Gone Gone image rest found same = same
second_slot_kept other p q i (Stays g) Gone image rest found same = of_second_First (suc p) g rest ∙ same
second_slot_kept other p q i Gone (Stays h) image rest found same =
    rw found (of_second_Second (suc q) h rest ∙ ap (λ more. map New h ++ more) same ∙ sym (news_kept other h image))
second_slot_kept other p q i (Stays g) (Stays h) image rest found same =
    rw found
    (ap (λ more. Old i ∷ more)
    (of_second_First (suc p) g (placed Second (suc q) h ++ rest)
    ∙ of_second_Second (suc q) h rest ∙ ap (λ more. map New h ++ more) same ∙ sym (news_kept other h image)))

second_kept :
    {A : Type 0} (other : List (Item A)) (p q i : ℕ) (front : List A) (ss ts : List (Slot A)) → length ss ≡ length ts
    → Agrees other p i front ss
    → filter_map of_second (slots_merged (after p front) q i ss ts) ≡ filter_map (if_kept other) (slots_image i ts)
second_kept other p q i front [] [] same agrees = refl
second_kept other p q i front [] (t ∷ ts) same agrees = absurd (omega (arith, same))
second_kept other p q i front (s ∷ ss) [] same agrees = absurd (omega (arith, same))
second_kept other p q i front (s ∷ ss) (t ∷ ts) same agrees =
    second_slot_kept other (after p front) q i s t (slots_image (suc i) ts) _ (agrees_here other p i front s ss agrees)
    (second_kept other (past s (after p front)) (after (past t q) (gap_of t)) (suc i) (gap_of s) ss ts (omega (arith, same)) (agrees_later other p i front s ss agrees))
    ∙ ap (filter_map (if_kept other)) (slots_image-cons i t ts)

pub merge-of_second :
    {A : Type 0} (a b : Operation A) → IsOperation a → IsOperation b → a.base ≡ b.base
    → filter_map of_second (merge a b) ≡ filter_map (if_kept a.image) b.image
merge-of_second {A} a b a_rises b_rises same =
    let s = slots_of 0 a.base a.image in
    let t = slots_of 0 b.base b.image in
    let a_slots : HasSlots a (slots_of 0 a.base a.image).0 (slots_of 0 a.base a.image).1 = has_slots a a_rises in
    let b_slots : HasSlots b (slots_of 0 b.base b.image).0 (slots_of 0 b.base b.image).1 = has_slots b b_rises in
    let as_slots = merge-slots_merged a b s.0 t.0 s.1 t.1 a_slots.image_is b_slots.image_is a_slots.length_is (omega (arith, b_slots.length_is, same)) in
    ap (filter_map of_second) as_slots
    ∙ of_second_First 0 s.0 _
    ∙ of_second_Second 0 t.0 _
    ∙ ap (λ more. map New t.0 ++ more)
    (second_kept a.image 0 (after 0 t.0) 0 s.0 s.1 t.1 (omega (arith, a_slots.length_is, b_slots.length_is, same))
    (λ k below. ap (λ image. place_from 0 image k) (sym a_slots.image_is)))
    ∙ sym (news_kept a.image t.0 (slots_image 0 t.1))
    ∙ ap (filter_map (if_kept a.image)) b_slots.image_is

length_rising :
    {A : Type 0} (low base : ℕ) (image : List (Item A)) → low ≤ base → RisesFrom low base image
    → length image + low ≤ base + length (news image)
length_rising low base [] fits rises = omega arith
length_rising low base (New x ∷ image) fits rises = omega (arith, length_rising low base image fits rises)
length_rising low base (Old i ∷ image) fits rises = omega (arith, length_rising (suc i) base image (omega arith) rises.2)

-- an operation makes no more than the document and what it inserts
pub length-image :
    {A : Type 0} (op : Operation A) → IsOperation op → length op.image ≤ op.base + length (news op.image)
length-image op rises = omega (arith, length_rising 0 op.base op.image (omega arith) rises)
