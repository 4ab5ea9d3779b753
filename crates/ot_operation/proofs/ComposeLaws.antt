-- Laws of compose and apply.
use Rattle.std.proofs.Common.{◌≡◌, ℕ, suc, ◌+◌, ◌≤◌, List, [], ◌∷◌, length, Option, Some, None, refl, sym, ap, ◌∙◌, arith, drop, zero, Bool, count_by, cond}
use Rattle.std.specs.Option.{option_and_then}
use Rattle.std.specs.List.{filter_map, slice_get, cons_option}
use Rattle.std.proofs.lemmas.List.Sums.{sum_by-cons}
use Rattle.ot_operation.specs.Operation.{Item, Operation, RisesFrom, IsOperation, apply, value_in, news, Old, New}
use Rattle.ot_operation.specs.Compose.{compose, item_in}
use Rattle.ot_operation.proofs.Lists.{GivesEach, slice_get_below, length-filter_map, slice_get-filter_map, filter_map-cons_option}
use Rattle.ot_operation.proofs.ApplyLaws.{each_value, RisesFrom-weaker}

pub each_item :
    {A : Type 0} (earlier : List (Item A)) (low base : ℕ) (image : List (Item A))
    → RisesFrom low base image → base ≤ length earlier → GivesEach (item_in earlier) image
each_item earlier low base [] rises fits = tt
each_item earlier low base (Old i ∷ image) rises fits =
    (slice_get_below earlier i (omega arith), each_item earlier (suc i) base image rises.2 fits)
each_item earlier low base (New x ∷ image) rises fits = ((New x, refl), each_item earlier low base image rises fits)

pub length-compose :
    {A : Type 0} (a b : Operation A)
    → IsOperation b → b.base ≡ length a.image → length (compose a b).image ≡ length b.image
unfolding apply compose
length-compose a b rises fits = length-filter_map (item_in a.image) b.image (each_item a.image 0 b.base b.image rises (omega arith))

images_applied :
    {A : Type 0} (a b : List (Item A)) (document : List A) → GivesEach (value_in document) a
    → filter_map (value_in document) (filter_map (item_in a) b)
    ≡ filter_map (value_in (filter_map (value_in document) a)) b
images_applied a [] document given = refl
images_applied a (New x ∷ b) document given = ap (λ rest. x ∷ rest) (images_applied a b document given)
images_applied a (Old j ∷ b) document given =
    filter_map-cons_option (value_in document) (slice_get a j) (filter_map (item_in a) b)
    ∙ rw (slice_get-filter_map (value_in document) a given j)
    (ap (cons_option (option_and_then (value_in document) (slice_get a j))) (images_applied a b document given))

-- to apply a composition is to apply its parts in turn
pub apply-compose :
    {A : Type 0} (a b : Operation A) (document : List A)
    → IsOperation a → a.base ≡ length document → apply (compose a b) document ≡ apply b (apply a document)
unfolding apply compose
apply-compose a b document rises fits =
    images_applied a.image b.image document (each_value document zero a.base a.image rises (omega arith))

images_composed :
    {A : Type 0} (a b c : List (Item A)) → GivesEach (item_in a) b
    → filter_map (item_in a) (filter_map (item_in b) c) ≡ filter_map (item_in (filter_map (item_in a) b)) c
images_composed a b [] given = refl
images_composed a b (New x ∷ c) given = ap (λ rest. New x ∷ rest) (images_composed a b c given)
images_composed a b (Old j ∷ c) given =
    filter_map-cons_option (item_in a) (slice_get b j) (filter_map (item_in b) c)
    ∙ rw (slice_get-filter_map (item_in a) b given j)
    (ap (cons_option (option_and_then (item_in a) (slice_get b j))) (images_composed a b c given))

pub compose_assoc :
    {A : Type 0} (a b c : Operation A)
    → IsOperation b → b.base ≡ length a.image → compose (compose a b) c ≡ compose a (compose b c)
unfolding apply compose
compose_assoc a b c rises fits =
    ap (λ image. record { base = a.base; image = image })
    (sym (images_composed a.image b.image c.image (each_item a.image 0 b.base b.image rises (omega arith))))

rises_tail :
    {A : Type 0} (low base : ℕ) (item : Item A) (image : List (Item A)) → RisesFrom low base (item ∷ image) → RisesFrom low base image
rises_tail low base (New x) image rises = rises
rises_tail low base (Old i) image rises = RisesFrom-weaker low (suc i) base image (omega arith) rises.2

-- from a place on, the item at a later place and what follows it rise too
rises_picked :
    {A : Type 0} (low base : ℕ) (image : List (Item A)) (from place : ℕ) → from ≤ place
    → RisesFrom low base (drop from image) → RisesFrom low base (cons_option (slice_get image place) (drop (suc place) image))
rises_picked low base [] from place later rises = tt
rises_picked low base (item ∷ image) zero zero later rises = rises
rises_picked low base (item ∷ image) zero (suc place) later rises =
    rises_picked low base image zero place (omega arith) (rises_tail low base item image rises)
rises_picked low base (item ∷ image) (suc from) zero later rises = absurd (omega arith)
rises_picked low base (item ∷ image) (suc from) (suc place) later rises = rises_picked low base image from place (omega arith) rises

rises_cons :
    {A : Type 0} (low base : ℕ) (item : Option (Item A)) (image rest : List (Item A))
    → ((next : ℕ) → RisesFrom next base image → RisesFrom next base rest)
    → RisesFrom low base (cons_option item image) → RisesFrom low base (cons_option item rest)
rises_cons low base None image rest later rises = later low rises
rises_cons low base (Some (New x)) image rest later rises = later low rises
rises_cons low base (Some (Old i)) image rest later rises = (rises.0, rises.1, later (suc i) rises.2)

rises_composed :
    {A : Type 0} (low base : ℕ) (a : List (Item A)) (from length_a : ℕ) (b : List (Item A))
    → RisesFrom low base (drop from a) → RisesFrom from length_a b → RisesFrom low base (filter_map (item_in a) b)
rises_composed low base a from length_a [] a_rises b_rises = tt
rises_composed low base a from length_a (New x ∷ b) a_rises b_rises = rises_composed low base a from length_a b a_rises b_rises
rises_composed low base a from length_a (Old j ∷ b) a_rises b_rises =
    rises_cons low base (slice_get a j) (drop (suc j) a) (filter_map (item_in a) b)
    (λ next rises. rises_composed next base a (suc j) length_a b rises b_rises.2)
    (rises_picked low base a from j b_rises.0 a_rises)

-- a composition of operations is one
pub compose-IsOperation : {A : Type 0} (a b : Operation A) → IsOperation a → IsOperation b → IsOperation (compose a b)
unfolding apply compose
compose-IsOperation a b a_rises b_rises = rises_composed 0 a.base a.image 0 b.base b.image a_rises b_rises

-- how many new elements of an image pass a test
abbrev pub news_count : {A : Type 0} → (A → Bool) → List (Item A) → ℕ
news_count test image = count_by test (news image)

news_count-New :
    {A : Type 0} (test : A → Bool) (x : A) (image : List (Item A))
    → news_count test (New x ∷ image) ≡ cond (test x) 1 0 + news_count test image
news_count-New test x image = sum_by-cons (λ y. cond (test y) 1 0) x (news image)

news_count_tail :
    {A : Type 0} (test : A → Bool) (item : Item A) (image : List (Item A)) → news_count test image ≤ news_count test (item ∷ image)
news_count_tail test (New x) image = omega (arith, news_count-New test x image)
news_count_tail test (Old i) image = omega arith

news_count_picked :
    {A : Type 0} (test : A → Bool) (image : List (Item A)) (from place : ℕ) → from ≤ place
    → news_count test (cons_option (slice_get image place) (drop (suc place) image)) ≤ news_count test (drop from image)
news_count_picked test [] zero place later = omega arith
news_count_picked test [] (suc from) place later = omega arith
news_count_picked test (item ∷ image) zero zero later = omega arith
news_count_picked test (item ∷ image) zero (suc place) later =
    omega (arith, news_count_picked test image zero place (omega arith), news_count_tail test item image)
news_count_picked test (item ∷ image) (suc from) zero later = absurd (omega arith)
news_count_picked test (item ∷ image) (suc from) (suc place) later = news_count_picked test image from place (omega arith)

news_count_cons :
    {A : Type 0} (test : A → Bool) (item : Option (Item A)) (image rest : List (Item A)) (more : ℕ)
    → news_count test rest ≤ news_count test image + more
    → news_count test (cons_option item rest) ≤ news_count test (cons_option item image) + more
news_count_cons test None image rest more within = within
news_count_cons test (Some (New x)) image rest more within = omega (arith, within, news_count-New test x image, news_count-New test x rest)
news_count_cons test (Some (Old i)) image rest more within = within

news_count_composed :
    {A : Type 0} (test : A → Bool) (a : List (Item A)) (from length_a : ℕ) (b : List (Item A)) → RisesFrom from length_a b
    → news_count test (filter_map (item_in a) b) ≤ news_count test (drop from a) + news_count test b
news_count_composed test a from length_a [] rises = omega arith
news_count_composed test a from length_a (New x ∷ b) rises = omega (arith, news_count_composed test a from length_a b rises, news_count-New test x b, news_count-New test x (filter_map (item_in a) b))
news_count_composed test a from length_a (Old j ∷ b) rises =
    omega (
      arith,
      news_count_picked test a from j rises.0,
      news_count_cons test (slice_get a j) (drop (suc j) a) (filter_map (item_in a) b) (news_count test b)
          (news_count_composed test a (suc j) length_a b rises.2),
    )

-- a composition inserts nothing that its parts do not insert, and nothing more often
pub news_count-compose :
    {A : Type 0} (test : A → Bool) (a b : Operation A) → IsOperation b
    → news_count test (compose a b).image ≤ news_count test a.image + news_count test b.image
unfolding apply compose
news_count-compose test a b rises = news_count_composed test a.image 0 b.base b.image rises
