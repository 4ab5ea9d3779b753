-- Operations with other elements: transform and compose look at none.
use Rattle.std.proofs.Common.{nat_eq, if◌then◌else◌, ◌≡◌, ℕ, zero, suc, List, [], ◌∷◌, ◌++◌, map, Bool, true, false, Option, Some, None, refl, sym, ap, ◌∙◌}
use Rattle.std.proofs.lemmas.List.{map-append, length-map}
use Rattle.std.specs.List.{filter_map, slice_get, cons_option}
use Rattle.ot_operation.specs.Operation.{Item, Old, New, Operation, RisesFrom, news, olds, place_from, with_retain, with_insert}
use Rattle.ot_operation.specs.Compose.{compose, item_in}
use Rattle.ot_operation.specs.Merge.{Merged, gap_from, kept_by_both, merge_at, merge_from, merge, over_first, over_second, first_after, second_after}
use Rattle.ot_operation.specs.Merge.Merged.{First, Second, Both}
use Rattle.ot_codes.specs.Shape.{mapped_item, mapped}

abbrev pub mapped_merged : {A B : Type 0} → (A → B) → Merged A → Merged B
mapped_merged f (First place x) = First place (f x)
mapped_merged f (Second place x) = Second place (f x)
mapped_merged f (Both i p q) = Both i p q

map_if : {X Y : Type 0} (h : X → Y) (b : Bool) (xs ys : List X) → map h (if b then xs else ys) ≡ (if b then map h xs else map h ys)
map_if h true xs ys = refl
map_if h false xs ys = refl

if_same : {X : Type 0} (b : Bool) (xs ys us vs : List X) → xs ≡ us → ys ≡ vs → (if b then xs else ys) ≡ (if b then us else vs)
if_same true xs ys us vs first second = first
if_same false xs ys us vs first second = second

gap_from-mapped :
    {A B : Type 0} (f : A → B) (mark : ℕ → A → Merged A) (other : ℕ → B → Merged B) → ((p : ℕ) (x : A) → mapped_merged f (mark p x) ≡ other p (f x))
    → (place at : ℕ) (image : List (Item A)) (i : ℕ)
    → map (mapped_merged f) (gap_from mark place at image i) ≡ gap_from other place at (map (mapped_item f) image) i
gap_from-mapped f mark other same place at [] i = refl
gap_from-mapped f mark other same place at (Old j ∷ image) i = gap_from-mapped f mark other same (suc place) (suc j) image i
gap_from-mapped f mark other same place at (New x ∷ image) i =
    let rest = gap_from-mapped f mark other same (suc place) at image i in
    map_if (mapped_merged f) (nat_eq at i) (mark place x ∷ gap_from mark (suc place) at image i) (gap_from mark (suc place) at image i)
    ∙ if_same (nat_eq at i) _ _ _ _
    (ap (λ item. item ∷ map (mapped_merged f) (gap_from mark (suc place) at image i)) (same place x) ∙ ap (λ items. other place (f x) ∷ items) rest)
    rest

pub place_from-mapped :
    {A B : Type 0} (f : A → B) (place : ℕ) (image : List (Item A)) (i : ℕ) → place_from place (map (mapped_item f) image) i ≡ place_from place image i
place_from-mapped f place [] i = refl
place_from-mapped f place (Old j ∷ image) i = ap (λ found. if nat_eq j i then Some place else found) (place_from-mapped f (suc place) image i)
place_from-mapped f place (New x ∷ image) i = place_from-mapped f (suc place) image i

kept-mapped :
    {A B : Type 0} (f : A → B) (i : ℕ) (p q : Option ℕ) → map (mapped_merged f) (kept_by_both i p q) ≡ kept_by_both i p q
kept-mapped f i None q = refl
kept-mapped f i (Some p) None = refl
kept-mapped f i (Some p) (Some q) = refl

merge_at-mapped :
    {A B : Type 0} (f : A → B) (a b : List (Item A)) (i : ℕ)
    → map (mapped_merged f) (merge_at a b i) ≡ merge_at (map (mapped_item f) a) (map (mapped_item f) b) i
merge_at-mapped {A} {B} f a b i =
    let firsts : map (mapped_merged f) (gap_from First 0 0 a i) ≡ gap_from First 0 0 (map (mapped_item f) a) i = gap_from-mapped f First First (λ p x. refl) 0 0 a i in
    let seconds : map (mapped_merged f) (gap_from Second 0 0 b i) ≡ gap_from Second 0 0 (map (mapped_item f) b) i = gap_from-mapped f Second Second (λ p x. refl) 0 0 b i in
    let kept : map (mapped_merged f) (kept_by_both i (place_from 0 a i) (place_from 0 b i))
    ≡ kept_by_both i (place_from 0 (map (mapped_item f) a) i) (place_from 0 (map (mapped_item f) b) i) =
    kept-mapped f i (place_from 0 a i) (place_from 0 b i)
    ∙ ap (λ p. kept_by_both {A = B} i p (place_from 0 b i)) (sym (place_from-mapped f 0 a i))
    ∙ ap (λ q. kept_by_both {A = B} i (place_from 0 (map (mapped_item f) a) i) q) (sym (place_from-mapped f 0 b i)) in
    map-append (mapped_merged f) (gap_from First 0 0 a i ++ gap_from Second 0 0 b i) (kept_by_both i (place_from 0 a i) (place_from 0 b i))
    ∙ ap (λ front. front ++ map (mapped_merged f) (kept_by_both i (place_from 0 a i) (place_from 0 b i)))
    (map-append (mapped_merged f) (gap_from First 0 0 a i) (gap_from Second 0 0 b i))
    ∙ rw (firsts, seconds, kept) refl

merge_from-mapped :
    {A B : Type 0} (f : A → B) (a b : List (Item A)) (i count : ℕ)
    → map (mapped_merged f) (merge_from a b i count) ≡ merge_from (map (mapped_item f) a) (map (mapped_item f) b) i count
merge_from-mapped f a b i zero = merge_at-mapped f a b i
merge_from-mapped f a b i (suc count) =
    map-append (mapped_merged f) (merge_at a b i) (merge_from a b (suc i) count)
    ∙ ap (λ front. front ++ map (mapped_merged f) (merge_from a b (suc i) count)) (merge_at-mapped f a b i)
    ∙ ap (λ rest. merge_at (map (mapped_item f) a) (map (mapped_item f) b) i ++ rest) (merge_from-mapped f a b (suc i) count)

over_second-mapped :
    {A B : Type 0} (f : A → B) (items : List (Merged A)) → map (mapped_item f) (map over_second items) ≡ map over_second (map (mapped_merged f) items)
over_second-mapped f [] = refl
over_second-mapped f (First place x ∷ items) = ap (λ rest. New (f x) ∷ rest) (over_second-mapped f items)
over_second-mapped f (Second place x ∷ items) = ap (λ rest. Old place ∷ rest) (over_second-mapped f items)
over_second-mapped f (Both i p q ∷ items) = ap (λ rest. Old q ∷ rest) (over_second-mapped f items)

over_first-mapped :
    {A B : Type 0} (f : A → B) (items : List (Merged A)) → map (mapped_item f) (map over_first items) ≡ map over_first (map (mapped_merged f) items)
over_first-mapped f [] = refl
over_first-mapped f (First place x ∷ items) = ap (λ rest. Old place ∷ rest) (over_first-mapped f items)
over_first-mapped f (Second place x ∷ items) = ap (λ rest. New (f x) ∷ rest) (over_first-mapped f items)
over_first-mapped f (Both i p q ∷ items) = ap (λ rest. Old p ∷ rest) (over_first-mapped f items)

pub same_parts : {A : Type 0} (m n : ℕ) (xs ys : List (Item A)) → m ≡ n → xs ≡ ys → ◌≡◌ {A = Operation A} (record { base = m; image = xs }) (record { base = n; image = ys })
same_parts m n xs ys p q = rw (p, q) refl

pub first_after-mapped : {A B : Type 0} (f : A → B) (a b : Operation A) → mapped f (first_after a b) ≡ first_after (mapped f a) (mapped f b)
unfolding first_after merge
first_after-mapped f a b =
    same_parts _ _ _ _ (sym (length-map b.image (mapped_item f)))
    (over_second-mapped f (merge_from a.image b.image 0 a.base) ∙ ap (map over_second) (merge_from-mapped f a.image b.image 0 a.base))

pub second_after-mapped : {A B : Type 0} (f : A → B) (a b : Operation A) → mapped f (second_after a b) ≡ second_after (mapped f a) (mapped f b)
unfolding second_after merge
second_after-mapped f a b =
    same_parts _ _ _ _ (sym (length-map a.image (mapped_item f)))
    (over_first-mapped f (merge_from a.image b.image 0 a.base) ∙ ap (map over_first) (merge_from-mapped f a.image b.image 0 a.base))

-- compose

cons_picked :
    {A B : Type 0} (f : A → B) (image : List (Item A)) (j : ℕ) (rest : List (Item A))
    → map (mapped_item f) (cons_option (slice_get image j) rest) ≡ cons_option (slice_get (map (mapped_item f) image) j) (map (mapped_item f) rest)
cons_picked f [] j rest = refl
cons_picked f (item ∷ image) zero rest = refl
cons_picked f (item ∷ image) (suc j) rest = cons_picked f image j rest

picked-mapped :
    {A B : Type 0} (f : A → B) (a b : List (Item A))
    → map (mapped_item f) (filter_map (item_in a) b) ≡ filter_map (item_in (map (mapped_item f) a)) (map (mapped_item f) b)
picked-mapped f a [] = refl
picked-mapped f a (New x ∷ b) = ap (λ rest. New (f x) ∷ rest) (picked-mapped f a b)
picked-mapped f a (Old j ∷ b) =
    cons_picked f a j (filter_map (item_in a) b)
    ∙ ap (cons_option (slice_get (map (mapped_item f) a) j)) (picked-mapped f a b)

pub compose-mapped : {A B : Type 0} (f : A → B) (a b : Operation A) → mapped f (compose a b) ≡ compose (mapped f a) (mapped f b)
unfolding compose
compose-mapped f a b = same_parts _ _ _ _ refl (picked-mapped f a.image b.image)

-- what an operation is made of

pub news-mapped : {A B : Type 0} (f : A → B) (image : List (Item A)) → news (map (mapped_item f) image) ≡ map f (news image)
news-mapped f [] = refl
news-mapped f (Old i ∷ image) = news-mapped f image
news-mapped f (New x ∷ image) = ap (λ rest. f x ∷ rest) (news-mapped f image)

pub rises-mapped : {A B : Type 0} (f : A → B) (low base : ℕ) (image : List (Item A)) → RisesFrom low base image → RisesFrom low base (map (mapped_item f) image)
rises-mapped f low base [] rises = tt
rises-mapped f low base (Old i ∷ image) rises = (rises.0, rises.1, rises-mapped f (suc i) base image rises.2)
rises-mapped f low base (New x ∷ image) rises = rises-mapped f low base image rises

pub rises-mapped_back : {A B : Type 0} (f : A → B) (low base : ℕ) (image : List (Item A)) → RisesFrom low base (map (mapped_item f) image) → RisesFrom low base image
rises-mapped_back f low base [] rises = tt
rises-mapped_back f low base (Old i ∷ image) rises = (rises.0, rises.1, rises-mapped_back f (suc i) base image rises.2)
rises-mapped_back f low base (New x ∷ image) rises = rises-mapped_back f low base image rises

pub olds-mapped : {A B : Type 0} (f : A → B) (from count : ℕ) → map (mapped_item f) (olds from count) ≡ olds from count
olds-mapped f from zero = refl
olds-mapped f from (suc count) = ap (λ rest. Old from ∷ rest) (olds-mapped f (suc from) count)

pub texts-mapped : {A B : Type 0} (f : A → B) (text : List A) → map (mapped_item f) (map New text) ≡ map New (map f text)
texts-mapped f [] = refl
texts-mapped f (x ∷ text) = ap (λ rest. New (f x) ∷ rest) (texts-mapped f text)

pub retain-mapped : {A B : Type 0} (f : A → B) (op : Operation A) (count : ℕ) → mapped f (with_retain op count) ≡ with_retain (mapped f op) count
retain-mapped {A} {B} f op count =
    same_parts _ _ _ _ refl
    (map-append (mapped_item f) op.image (olds op.base count) ∙ ap (λ rest. map (mapped_item f) op.image ++ rest) (olds-mapped f op.base count))

pub insert-mapped : {A B : Type 0} (f : A → B) (op : Operation A) (text : List A) → mapped f (with_insert op text) ≡ with_insert (mapped f op) (map f text)
insert-mapped f op text =
    same_parts _ _ _ _ refl
    (map-append (mapped_item f) op.image (map New text) ∙ ap (λ rest. map (mapped_item f) op.image ++ rest) (texts-mapped f text))
