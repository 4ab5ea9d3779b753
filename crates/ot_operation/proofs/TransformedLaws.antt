-- What transform gives: operations, which insert what the given ones insert.
use Rattle.std.proofs.Common.{◌≡◌, ℕ, suc, ◌+◌, ◌≤◌, List, [], ◌∷◌, ◌++◌, length, map, Option, Some, None, refl, sym, ap, ◌∙◌, arith, length-append}
use Rattle.std.proofs.lemmas.List.{length-map}
use Rattle.ot_operation.specs.Operation.{Item, Operation, RisesFrom, IsOperation, news, New, apply, invert}
use Rattle.ot_operation.specs.Merge.{Merged, kept_by_both, merge, over_first, over_second, first_after, second_after, merged}
use Rattle.ot_operation.specs.Merge.Merged.{First, Second}
use Rattle.ot_operation.proofs.Slots.{Slot, gap_of, slots_image, slots_of, slots_image-slots_of, length-slots_of, after, past, slot_place, placed, slots_merged}
use Rattle.ot_operation.proofs.Slots.Slot.{Stays, Gone}
use Rattle.ot_operation.proofs.ApplyLaws.{RisesFrom-weaker}
use Rattle.ot_operation.proofs.SlotsMerged.{merge-slots_merged}
use Rattle.ot_operation.specs.Compose.{compose}

pub news-append_gap : {A : Type 0} (gap : List A) (image : List (Item A)) → news (map New gap ++ image) ≡ gap ++ news image
news-append_gap [] image = refl
news-append_gap (x ∷ gap) image = ap (λ rest. x ∷ rest) (news-append_gap gap image)

pub after-length : {A : Type 0} (place : ℕ) (gap : List A) → after place gap ≡ place + length gap
after-length place [] = omega arith
after-length place (x ∷ gap) = omega (arith, after-length (suc place) gap)

-- the place after all the slots' elements
abbrev pub end_of : {A : Type 0} → ℕ → List (Slot A) → ℕ
end_of place [] = place
end_of place (s ∷ slots) = end_of (after (past s place) (gap_of s)) slots

pub end_of-length : {A : Type 0} (place i : ℕ) (slots : List (Slot A)) → end_of place slots ≡ place + length (slots_image i slots)
end_of-length place i [] = omega arith
end_of-length place i (Gone ∷ slots) = end_of-length place (suc i) slots
end_of-length {A} place i (Stays gap ∷ slots) =
    simp (length-append, length-map)
    (omega (arith, after-length (suc place) gap, end_of-length (after (suc place) gap) (suc i) slots))

pub end_of_within : {A : Type 0} (place : ℕ) (slots : List (Slot A)) → place ≤ end_of place slots
end_of_within place slots = omega (arith, end_of-length place 0 slots)

news_slot : {A : Type 0} (i : ℕ) (s : Slot A) (slots : List (Slot A)) → news (slots_image i (s ∷ slots)) ≡ gap_of s ++ news (slots_image (suc i) slots)
news_slot i Gone slots = refl
news_slot i (Stays gap) slots = news-append_gap gap (slots_image (suc i) slots)

-- over_second

news_over_second_First :
    {A : Type 0} (place : ℕ) (gap : List A) (rest : List (Merged A))
    → news (map over_second (placed First place gap ++ rest)) ≡ gap ++ news (map over_second rest)
news_over_second_First place [] rest = refl
news_over_second_First place (x ∷ gap) rest = ap (λ more. x ∷ more) (news_over_second_First (suc place) gap rest)

news_over_second_Second :
    {A : Type 0} (place : ℕ) (gap : List A) (rest : List (Merged A))
    → news (map over_second (placed Second place gap ++ rest)) ≡ news (map over_second rest)
news_over_second_Second place [] rest = refl
news_over_second_Second place (x ∷ gap) rest = news_over_second_Second (suc place) gap rest

news_over_second_kept :
    {A : Type 0} (i : ℕ) (p q : Option ℕ) (rest : List (Merged A))
    → news (map over_second (kept_by_both i p q ++ rest)) ≡ news (map over_second rest)
news_over_second_kept i None q rest = refl
news_over_second_kept i (Some p) None rest = refl
news_over_second_kept i (Some p) (Some q) rest = refl

news_over_second :
    {A : Type 0} (p q i : ℕ) (ss ts : List (Slot A)) → length ss ≡ length ts
    → news (map over_second (slots_merged p q i ss ts)) ≡ news (slots_image i ss)
news_over_second p q i [] [] same = refl
news_over_second p q i [] (t ∷ ts) same = absurd (omega (arith, same))
news_over_second p q i (s ∷ ss) [] same = absurd (omega (arith, same))
news_over_second p q i (s ∷ ss) (t ∷ ts) same =
    news_over_second_kept i (slot_place s p) (slot_place t q) _
    ∙ news_over_second_First (past s p) (gap_of s) _
    ∙ ap (λ rest. gap_of s ++ rest) (news_over_second_Second (past t q) (gap_of t) _)
    ∙ ap (λ rest. gap_of s ++ rest) (news_over_second (after (past s p) (gap_of s)) (after (past t q) (gap_of t)) (suc i) ss ts (omega (arith, same)))
    ∙ sym (news_slot i s ss)

rises_over_second_Own :
    {A : Type 0} (low base place : ℕ) (gap : List A) (rest : List (Merged A))
    → RisesFrom low base (map over_second rest) → RisesFrom low base (map over_second (placed First place gap ++ rest))
rises_over_second_Own low base place [] rest rises = rises
rises_over_second_Own low base place (x ∷ gap) rest rises = rises_over_second_Own low base (suc place) gap rest rises

rises_over_second_Other :
    {A : Type 0} (base place : ℕ) (gap : List A) (rest : List (Merged A))
    → after place gap ≤ base
    → RisesFrom (after place gap) base (map over_second rest) → RisesFrom place base (map over_second (placed Second place gap ++ rest))
rises_over_second_Other base place [] rest fits rises = rises
rises_over_second_Other base place (x ∷ gap) rest fits rises =
    (omega arith, omega (arith, after-length (suc place) gap), rises_over_second_Other base (suc place) gap rest fits rises)

rises_over_second_kept :
    {A : Type 0} (base p q i : ℕ) (s t : Slot A) (rest : List (Merged A)) → past t q ≤ base
    → RisesFrom (past t q) base (map over_second rest)
    → RisesFrom q base (map over_second (kept_by_both i (slot_place s p) (slot_place t q) ++ rest))
rises_over_second_kept base p q i Gone Gone rest fits rises = rises
rises_over_second_kept base p q i Gone (Stays h) rest fits rises = RisesFrom-weaker q (suc q) base (map over_second rest) (omega arith) rises
rises_over_second_kept base p q i (Stays g) Gone rest fits rises = rises
rises_over_second_kept base p q i (Stays g) (Stays h) rest fits rises = (omega arith, omega arith, rises)

rises_over_second :
    {A : Type 0} (base p q i : ℕ) (ss ts : List (Slot A)) → end_of q ts ≤ base
    → RisesFrom q base (map over_second (slots_merged p q i ss ts))
rises_over_second base p q i [] ts fits = tt
rises_over_second base p q i (s ∷ ss) [] fits = tt
rises_over_second base p q i (s ∷ ss) (t ∷ ts) fits =
    let within : after (past t q) (gap_of t) ≤ base =
    omega (arith, fits, end_of_within (after (past t q) (gap_of t)) ts) in
    rises_over_second_kept base p q i s t _ (omega (arith, within, after-length (past t q) (gap_of t)))
    (rises_over_second_Own (past t q) base (past s p) (gap_of s) _
    (rises_over_second_Other base (past t q) (gap_of t) _ within
    (rises_over_second base (after (past s p) (gap_of s)) (after (past t q) (gap_of t)) (suc i) ss ts fits)))

-- over_first

news_over_first_First :
    {A : Type 0} (place : ℕ) (gap : List A) (rest : List (Merged A))
    → news (map over_first (placed First place gap ++ rest)) ≡ news (map over_first rest)
news_over_first_First place [] rest = refl
news_over_first_First place (x ∷ gap) rest = news_over_first_First (suc place) gap rest

news_over_first_Second :
    {A : Type 0} (place : ℕ) (gap : List A) (rest : List (Merged A))
    → news (map over_first (placed Second place gap ++ rest)) ≡ gap ++ news (map over_first rest)
news_over_first_Second place [] rest = refl
news_over_first_Second place (x ∷ gap) rest = ap (λ more. x ∷ more) (news_over_first_Second (suc place) gap rest)

news_over_first_kept :
    {A : Type 0} (i : ℕ) (p q : Option ℕ) (rest : List (Merged A))
    → news (map over_first (kept_by_both i p q ++ rest)) ≡ news (map over_first rest)
news_over_first_kept i None q rest = refl
news_over_first_kept i (Some p) None rest = refl
news_over_first_kept i (Some p) (Some q) rest = refl

news_over_first :
    {A : Type 0} (p q i : ℕ) (ss ts : List (Slot A)) → length ss ≡ length ts
    → news (map over_first (slots_merged p q i ss ts)) ≡ news (slots_image i ts)
news_over_first p q i [] [] same = refl
news_over_first p q i [] (t ∷ ts) same = absurd (omega (arith, same))
news_over_first p q i (s ∷ ss) [] same = absurd (omega (arith, same))
news_over_first p q i (s ∷ ss) (t ∷ ts) same =
    news_over_first_kept i (slot_place s p) (slot_place t q) _
    ∙ news_over_first_First (past s p) (gap_of s) _
    ∙ news_over_first_Second (past t q) (gap_of t) _
    ∙ ap (λ rest. gap_of t ++ rest) (news_over_first (after (past s p) (gap_of s)) (after (past t q) (gap_of t)) (suc i) ss ts (omega (arith, same)))
    ∙ sym (news_slot i t ts)

rises_over_first_Own :
    {A : Type 0} (low base place : ℕ) (gap : List A) (rest : List (Merged A))
    → RisesFrom low base (map over_first rest) → RisesFrom low base (map over_first (placed Second place gap ++ rest))
rises_over_first_Own low base place [] rest rises = rises
rises_over_first_Own low base place (x ∷ gap) rest rises = rises_over_first_Own low base (suc place) gap rest rises

rises_over_first_Other :
    {A : Type 0} (base place : ℕ) (gap : List A) (rest : List (Merged A))
    → after place gap ≤ base
    → RisesFrom (after place gap) base (map over_first rest) → RisesFrom place base (map over_first (placed First place gap ++ rest))
rises_over_first_Other base place [] rest fits rises = rises
rises_over_first_Other base place (x ∷ gap) rest fits rises =
    (omega arith, omega (arith, after-length (suc place) gap), rises_over_first_Other base (suc place) gap rest fits rises)

rises_over_first_kept :
    {A : Type 0} (base p q i : ℕ) (s t : Slot A) (rest : List (Merged A)) → past s p ≤ base
    → RisesFrom (past s p) base (map over_first rest)
    → RisesFrom p base (map over_first (kept_by_both i (slot_place s p) (slot_place t q) ++ rest))
rises_over_first_kept base p q i Gone Gone rest fits rises = rises
rises_over_first_kept base p q i Gone (Stays h) rest fits rises = rises
rises_over_first_kept base p q i (Stays g) Gone rest fits rises = RisesFrom-weaker p (suc p) base (map over_first rest) (omega arith) rises
rises_over_first_kept base p q i (Stays g) (Stays h) rest fits rises = (omega arith, omega arith, rises)

rises_over_first :
    {A : Type 0} (base p q i : ℕ) (ss ts : List (Slot A)) → end_of p ss ≤ base
    → RisesFrom p base (map over_first (slots_merged p q i ss ts))
rises_over_first base p q i [] ts fits = tt
rises_over_first base p q i (s ∷ ss) [] fits = tt
rises_over_first base p q i (s ∷ ss) (t ∷ ts) fits =
    let within : after (past s p) (gap_of s) ≤ base =
    omega (arith, fits, end_of_within (after (past s p) (gap_of s)) ss) in
    rises_over_first_kept base p q i s t _ (omega (arith, within, after-length (past s p) (gap_of s)))
    (rises_over_first_Other base (past s p) (gap_of s) _ within
    (rises_over_first_Own (after (past s p) (gap_of s)) base (past t q) (gap_of t) _
    (rises_over_first base (after (past s p) (gap_of s)) (after (past t q) (gap_of t)) (suc i) ss ts fits)))

-- the slots of an operation
pub record HasSlots {A : Type 0} (op : Operation A) (front : List A) (slots : List (Slot A)) : Type 0 where
  pub image_is : map New front ++ slots_image 0 slots ≡ op.image
  pub length_is : length slots ≡ op.base
  pub end_is : end_of (after 0 front) slots ≡ length op.image

pub has_slots : {A : Type 0} (op : Operation A) → IsOperation op → HasSlots op (slots_of 0 op.base op.image).0 (slots_of 0 op.base op.image).1
has_slots {A} op rises = record {
  image_is = image_is;
  length_is = omega (arith, length-slots_of 0 op.base op.image rises (omega arith));
  end_is =
      end_of-length (after 0 front) 0 slots ∙ ap (λ place. place + length (slots_image 0 slots)) (after-length 0 front)
      ∙ lengths ∙ ap length image_is;
}
  where
    front : List A
    front = (slots_of 0 op.base op.image).0

    slots : List (Slot A)
    slots = (slots_of 0 op.base op.image).1

    image_is : map New (slots_of 0 op.base op.image).0 ++ slots_image 0 (slots_of 0 op.base op.image).1 ≡ op.image
    image_is = slots_image-slots_of 0 op.base op.image rises

    lengths : 0 + length front + length (slots_image 0 slots) ≡ length (map New front ++ slots_image 0 slots)
    lengths = simp (length-append, length-map) (omega arith)

module _ {A : Type 0} (a b : Operation A) (a_rises : IsOperation a) (b_rises : IsOperation b) (same : a.base ≡ b.base) where
  g : List A
  g = (slots_of 0 a.base a.image).0

  ss : List (Slot A)
  ss = (slots_of 0 a.base a.image).1

  h : List A
  h = (slots_of 0 b.base b.image).0

  ts : List (Slot A)
  ts = (slots_of 0 b.base b.image).1

  a_slots : HasSlots a g ss
  unfolding g ss
  a_slots = has_slots a a_rises

  b_slots : HasSlots b h ts
  unfolding h ts
  b_slots = has_slots b b_rises

  as_slots : merge a b ≡ placed First 0 g ++ (placed Second 0 h ++ slots_merged (after 0 g) (after 0 h) 0 ss ts)
  as_slots =
      merge-slots_merged a b g h ss ts a_slots.image_is b_slots.image_is a_slots.length_is
      (omega (arith, b_slots.length_is, same))

  lengths_same : length ss ≡ length ts
  lengths_same = omega (arith, a_slots.length_is, b_slots.length_is, same)

  -- what a inserts is what a after b inserts
  pub news-first_after : news (first_after a b).image ≡ news a.image
  unfolding apply compose invert merge merged first_after second_after
  news-first_after =
      ap (λ items. news (map over_second items)) as_slots
      ∙ news_over_second_First 0 g _
      ∙ ap (λ rest. g ++ rest) (news_over_second_Second 0 h _ ∙ news_over_second (after 0 g) (after 0 h) 0 ss ts lengths_same)
      ∙ sym (news-append_gap g (slots_image 0 ss))
      ∙ ap news a_slots.image_is

  pub news-second_after : news (second_after a b).image ≡ news b.image
  unfolding apply compose invert merge merged first_after second_after
  news-second_after =
      ap (λ items. news (map over_first items)) as_slots
      ∙ news_over_first_First 0 g _
      ∙ news_over_first_Second 0 h _
      ∙ ap (λ rest. h ++ rest) (news_over_first (after 0 g) (after 0 h) 0 ss ts lengths_same)
      ∙ sym (news-append_gap h (slots_image 0 ts))
      ∙ ap news b_slots.image_is

  -- the transformed operations are operations
  pub first_after-IsOperation : IsOperation (first_after a b)
  unfolding apply compose invert merge merged first_after second_after
  first_after-IsOperation =
      rw as_slots
      (rises_over_second_Own 0 (length b.image) 0 g _
      (rises_over_second_Other (length b.image) 0 h _ (omega (arith, b_slots.end_is, end_of_within (after 0 h) ts))
      (rises_over_second (length b.image) (after 0 g) (after 0 h) 0 ss ts (omega (arith, b_slots.end_is)))))

  pub second_after-IsOperation : IsOperation (second_after a b)
  unfolding apply compose invert merge merged first_after second_after
  second_after-IsOperation =
      rw as_slots
      (rises_over_first_Other (length a.image) 0 g _ (omega (arith, a_slots.end_is, end_of_within (after 0 g) ss))
      (rises_over_first_Own (after 0 g) (length a.image) 0 h _
      (rises_over_first (length a.image) (after 0 g) (after 0 h) 0 ss ts (omega (arith, a_slots.end_is)))))
