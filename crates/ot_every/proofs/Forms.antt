-- The forms of edits: which operations they are, each once, and with other letters.
use Rattle.std.proofs.Common.{◌≡◌, ℕ, zero, suc, ◌+◌, ◌-◌, ◌≤◌, ◌≢◌, List, [], ◌∷◌, ◌++◌, length, map, refl, sym, ap, ◌∙◌, subst, arith, inl, inr}
use Rattle.std.specs.Prelude.{◌⊎◌}
use Rattle.std.proofs.lemmas.Bool.{cases_eq}
use Rattle.ot_operation.specs.Operation.{Item, Old, New, Operation, IsOperation, RisesFrom}
use Rattle.ot_operation.specs.Run.{Run, Keep, Add, Skip, with_keep, with_new, with_skip, normal_runs_from}
use Rattle.ot_every.specs.Forms.{with_insertion, images, forms, inserted_texts, insertions}
use Rattle.ot_every.proofs.Lists.{IsIn, in_left, in_right, in_cases, in_map, map_cases, Pairwise, pairwise_append, pairwise_map, pairwise_weaker}

-- an image that begins with no insertion, and keeps nothing before `from`
abbrev pub StartsAt : ℕ → List (Item ℕ) → Type 0
StartsAt from [] = Unit {0}
StartsAt from (Old i ∷ image) = from ≤ i
StartsAt from (New x ∷ image) = ⊥

starts_before : (from : ℕ) (image : List (Item ℕ)) → StartsAt (suc from) image → StartsAt from image
starts_before from [] s = tt
starts_before from (Old i ∷ image) s = omega (arith, s)
starts_before from (New x ∷ image) s = s

images_start : (text : List ℕ) (from count most : ℕ) (image : List (Item ℕ)) → IsIn image (images text from count most) → StartsAt from image
images_start text from zero most image (inl e) = subst (StartsAt from) (sym e) tt
images_start text from zero most image (inr h) = absurd h
images_start text from (suc count) most image h = elim (in_cases image _ (images text (suc from) count most) h) [
  | inl kept ↦ let r = map_cases _ image (with_insertion text (images text (suc from) count) most) kept in subst (StartsAt from) (sym r.2) (omega arith)
  | inr deleted ↦ starts_before from image (images_start text (suc from) count most image deleted)
]

-- ---- each once

rest_of : List (Item ℕ) → List (Item ℕ)
rest_of [] = []
rest_of (x ∷ image) = image

same_rest_of : (x : Item ℕ) (a b : List (Item ℕ)) → x ∷ a ≡ x ∷ b → a ≡ b
unfolding rest_of
same_rest_of x a b e = ap rest_of e

same_behind : (text : List ℕ) (a b : List (Item ℕ)) → map New text ++ a ≡ map New text ++ b → a ≡ b
same_behind [] a b e = e
same_behind (x ∷ text) a b e = same_behind text a b (same_rest_of (New x) (map New text ++ a) (map New text ++ b) e)

with_insertion_differ : (x : ℕ) (text : List ℕ) (from : ℕ) (following : ℕ → List (List (Item ℕ))) (most : ℕ) → ((m : ℕ) → Pairwise (λ a b. a ≡ b → ⊥) (following m)) → ((m : ℕ) (image : List (Item ℕ)) → IsIn image (following m) → StartsAt from image)
    → Pairwise (λ a b. a ≡ b → ⊥) (with_insertion (x ∷ text) following most)
with_insertion_differ x text from following zero differ starts = differ 0
with_insertion_differ x text from following (suc most) differ starts =
    pairwise_append (λ a b. a ≡ b → ⊥) (following (suc most)) (map (λ image. map New (x ∷ text) ++ image) (following most)) (differ (suc most))
    (pairwise_map (λ a b. a ≡ b → ⊥) (λ image. map New (x ∷ text) ++ image) (following most) (pairwise_weaker (λ a b. a ≡ b → ⊥) _ (following most) (λ a b h k other e. other (same_behind (x ∷ text) a b e)) (differ most)))
    (λ a b h k e. (let r = map_cases (λ image. map New (x ∷ text) ++ image) b (following most) k in subst (StartsAt from) (e ∙ r.2) (starts (suc most) a h)))

images_differ : (x : ℕ) (text : List ℕ) (from count most : ℕ) → Pairwise (λ a b. a ≡ b → ⊥) (images (x ∷ text) from count most)
images_differ x text from zero most = (λ y h. absurd h, tt)
images_differ x text from (suc count) most =
    let following = images (x ∷ text) (suc from) count in
    let all = with_insertion_differ x text (suc from) following most (images_differ x text (suc from) count) (images_start (x ∷ text) (suc from) count) in
    pairwise_append (λ a b. a ≡ b → ⊥) (map (λ image. Old from ∷ image) (with_insertion (x ∷ text) following most)) (following most)
    (pairwise_map (λ a b. a ≡ b → ⊥) (λ image. Old from ∷ image) (with_insertion (x ∷ text) following most) (pairwise_weaker (λ a b. a ≡ b → ⊥) _ (with_insertion (x ∷ text) following most) (λ a b h k other e. other (same_rest_of (Old from) a b e)) all))
    (images_differ x text (suc from) count most)
    (λ a b h k e. (let r = map_cases (λ image. Old from ∷ image) a (with_insertion (x ∷ text) following most) h in
    let s : StartsAt (suc from) (Old from ∷ r.0) = subst (StartsAt (suc from)) (sym e ∙ r.2) (images_start (x ∷ text) (suc from) count most b k) in omega (arith, s)))

pub forms_differ : (x : ℕ) (text : List ℕ) (most count : ℕ) → Pairwise (λ a b. a ≡ b → ⊥) (forms (x ∷ text) most count)
forms_differ x text most count =
    let all = with_insertion_differ x text 0 (images (x ∷ text) 0 count) most (images_differ x text 0 count) (images_start (x ∷ text) 0 count) in
    pairwise_map (λ a b. a ≡ b → ⊥) (λ image. record { base = count; image = image }) (with_insertion (x ∷ text) (images (x ∷ text) 0 count) most)
    (pairwise_weaker (λ a b. a ≡ b → ⊥) _ (with_insertion (x ∷ text) (images (x ∷ text) 0 count) most) (λ a b h k other e. other (ap (λ (op : Operation ℕ). op.image) e)) all)

-- ---- the insertions of an image

-- a new character in front of the insertions behind it: it begins one of its own, or the first of them
abbrev pub with_char : ℕ → List (Item ℕ) → List (List ℕ) → List (List ℕ)
with_char x [] texts = (x ∷ []) ∷ texts
with_char x (Old i ∷ image) texts = (x ∷ []) ∷ texts
with_char x (New y ∷ image) [] = (x ∷ []) ∷ []
with_char x (New y ∷ image) (text ∷ texts) = (x ∷ text) ∷ texts

-- the characters between two kept ones are one insertion
abbrev pub new_texts : List (Item ℕ) → List (List ℕ)
new_texts [] = []
new_texts (Old i ∷ image) = new_texts image
new_texts (New x ∷ image) = with_char x image (new_texts image)

texts_keep : (runs : List (Run ℕ)) → inserted_texts (with_keep runs) ≡ inserted_texts runs
texts_keep [] = refl
texts_keep (Keep n ∷ runs) = refl
texts_keep (Add text ∷ runs) = refl
texts_keep (Skip n ∷ runs) = refl

texts_skip : (n : ℕ) (runs : List (Run ℕ)) → inserted_texts (with_skip n runs) ≡ inserted_texts runs
texts_skip zero runs = refl
texts_skip (suc n) runs = refl

-- behind a new character there is no insertion that it joins
new_skip : (x n : ℕ) → inserted_texts (with_new x (with_skip n [])) ≡ (x ∷ []) ∷ []
new_skip x zero = refl
new_skip x (suc n) = refl

new_keep : (x : ℕ) (runs : List (Run ℕ)) → inserted_texts (with_new x (with_keep runs)) ≡ (x ∷ []) ∷ inserted_texts runs
new_keep x [] = refl
new_keep x (Keep n ∷ runs) = refl
new_keep x (Add text ∷ runs) = refl
new_keep x (Skip n ∷ runs) = refl

new_skip_keep : (x n : ℕ) (runs : List (Run ℕ)) → inserted_texts (with_new x (with_skip n (with_keep runs))) ≡ (x ∷ []) ∷ inserted_texts runs
new_skip_keep x zero runs = new_keep x runs
new_skip_keep x (suc n) runs = ap (λ (texts : List (List ℕ)). (x ∷ []) ∷ texts) (texts_keep runs)

-- it joins the one that another new character begins
new_new : (x y : ℕ) (items : List (Item ℕ)) (runs : List (Run ℕ)) → inserted_texts (with_new x (with_new y runs)) ≡ with_char x (New y ∷ items) (inserted_texts (with_new y runs))
new_new x y items [] = refl
new_new x y items (Keep n ∷ runs) = refl
new_new x y items (Add text ∷ runs) = refl
new_new x y items (Skip n ∷ runs) = refl

texts_are : (from end : ℕ) (items : List (Item ℕ)) → inserted_texts (normal_runs_from from items end) ≡ new_texts items
texts_are from end [] = texts_skip (end - from) []
texts_are from end (Old i ∷ items) =
    texts_skip (i - from) (with_keep (normal_runs_from (suc i) items end)) ∙ texts_keep (normal_runs_from (suc i) items end) ∙ texts_are (suc i) end items
texts_are from end (New x ∷ []) = new_skip x (end - from)
texts_are from end (New x ∷ Old i ∷ items) =
    new_skip_keep x (i - from) (normal_runs_from (suc i) items end) ∙ ap (λ (texts : List (List ℕ)). (x ∷ []) ∷ texts) (texts_are (suc i) end items)
texts_are from end (New x ∷ New y ∷ items) =
    new_new x y items (normal_runs_from from items end) ∙ ap (with_char x (New y ∷ items)) (texts_are from end (New y ∷ items))

-- those of the normal form
pub insertions_are : (op : Operation ℕ) → insertions op ≡ new_texts op.image
insertions_are op = texts_are 0 op.base op.image

-- each of the new_texts is this text
abbrev pub AllAre : List ℕ → List (List ℕ) → Type 0
AllAre text [] = Unit {0}
AllAre text (t ∷ texts) = (t ≡ text) × AllAre text texts

texts_behind : (x : ℕ) (text : List ℕ) (from : ℕ) (image : List (Item ℕ)) → StartsAt from image → new_texts (map New (x ∷ text) ++ image) ≡ (x ∷ text) ∷ new_texts image
texts_behind x [] from [] s = refl
texts_behind x [] from (Old i ∷ image) s = refl
texts_behind x [] from (New y ∷ image) s = absurd s
texts_behind x (y ∷ text) from image s = ap (with_char x (New y ∷ (map New text ++ image))) (texts_behind y text from image s)

rises_behind : (text : List ℕ) (low base : ℕ) (image : List (Item ℕ)) → RisesFrom low base image → RisesFrom low base (map New text ++ image)
rises_behind [] low base image r = r
rises_behind (x ∷ text) low base image r = rises_behind text low base image r

rises_rest : (text : List ℕ) (low base : ℕ) (image : List (Item ℕ)) → RisesFrom low base (map New text ++ image) → RisesFrom low base image
rises_rest [] low base image r = r
rises_rest (x ∷ text) low base image r = rises_rest text low base image r

rises_from : (low base : ℕ) (image : List (Item ℕ)) → RisesFrom (suc low) base image → RisesFrom low base image
rises_from low base [] r = tt
rises_from low base (Old i ∷ image) r = (let a = r.0 in omega (arith, a), r.1, r.2)
rises_from low base (New x ∷ image) r = rises_from low base image r

-- what holds of the images that are listed
pub record IsListed (text : List ℕ) (low base most : ℕ) (image : List (Item ℕ)) : Type 0 where
  pub rises : RisesFrom low base image
  pub few : length (new_texts image) ≤ most
  pub are : AllAre text (new_texts image)

with_insertion_listed : (x : ℕ) (text : List ℕ) (low base from : ℕ) (following : ℕ → List (List (Item ℕ))) (most : ℕ) → ((m : ℕ) (image : List (Item ℕ)) → IsIn image (following m) → IsListed (x ∷ text) low base m image) → ((m : ℕ) (image : List (Item ℕ)) → IsIn image (following m) → StartsAt from image)
    → (image : List (Item ℕ)) → IsIn image (with_insertion (x ∷ text) following most) → IsListed (x ∷ text) low base most image
with_insertion_listed x text low base from following zero listed starts image h = listed 0 image h
with_insertion_listed x text low base from following (suc most) listed starts image h = elim (in_cases image (following (suc most)) _ h) [
  | inl without ↦ listed (suc most) image without
  | inr inserted ↦
      let r = map_cases (λ later. map New (x ∷ text) ++ later) image (following most) inserted in
      let l = listed most r.0 r.1 in
      let are = texts_behind x text from r.0 (starts most r.0 r.1) in
      let few = l.few in
      subst (IsListed (x ∷ text) low base (suc most)) (sym r.2) (record {
        rises = rises_behind (x ∷ text) low base r.0 l.rises;
        few = rw are (omega (arith, few));
        are = rw are (refl, l.are);
      })
]

images_listed : (x : ℕ) (text : List ℕ) (from count most : ℕ) (image : List (Item ℕ)) → IsIn image (images (x ∷ text) from count most) → IsListed (x ∷ text) from (from + count) most image
images_listed x text from zero most image (inl e) = subst (IsListed (x ∷ text) from (from + 0) most) (sym e) (record { rises = tt; few = omega arith; are = tt })
images_listed x text from zero most image (inr h) = absurd h
images_listed x text from (suc count) most image h =
    let following = images (x ∷ text) (suc from) count in
    let end : suc from + count ≡ from + suc count = omega arith in
    let later : (m : ℕ) (im : List (Item ℕ)) → IsIn im (following m) → IsListed (x ∷ text) (suc from) (from + suc count) m im = λ m im k. subst (λ (n : ℕ). IsListed (x ∷ text) (suc from) n m im) end (images_listed x text (suc from) count m im k) in
    elim (in_cases image (map (λ im. Old from ∷ im) (with_insertion (x ∷ text) following most)) (following most) h) [
      | inl kept ↦
          let r = map_cases (λ im. Old from ∷ im) image (with_insertion (x ∷ text) following most) kept in
          let l = with_insertion_listed x text (suc from) (from + suc count) (suc from) following most later (images_start (x ∷ text) (suc from) count) r.0 r.1 in
          subst (IsListed (x ∷ text) from (from + suc count) most) (sym r.2) (record { rises = (omega arith, omega arith, l.rises); few = l.few; are = l.are })
      | inr deleted ↦ let l = later most image deleted in record { rises = rises_from from (from + suc count) image l.rises; few = l.few; are = l.are }
    ]

pub forms_listed : (x : ℕ) (text : List ℕ) (most count : ℕ) (op : Operation ℕ) → IsIn op (forms (x ∷ text) most count) → (op.base ≡ count) × IsListed (x ∷ text) 0 count most op.image
forms_listed x text most count op h =
    let r = map_cases (λ image. record { base = count; image = image }) op (with_insertion (x ∷ text) (images (x ∷ text) 0 count) most) h in
    let later : (m : ℕ) (im : List (Item ℕ)) → IsIn im (images (x ∷ text) 0 count m) → IsListed (x ∷ text) 0 count m im = λ m im k. subst (λ (n : ℕ). IsListed (x ∷ text) 0 n m im) (omega arith) (images_listed x text 0 count m im k) in
    let l = with_insertion_listed x text 0 count 0 (images (x ∷ text) 0 count) most later (images_start (x ∷ text) 0 count) r.0 r.1 in
    subst (λ (o : Operation ℕ). (o.base ≡ count) × IsListed (x ∷ text) 0 count most o.image) (sym r.2) (refl, l)

-- ---- each is an operation

insertion_rises : (text : List ℕ) (low base : ℕ) (following : ℕ → List (List (Item ℕ))) (most : ℕ) → ((m : ℕ) (image : List (Item ℕ)) → IsIn image (following m) → RisesFrom low base image)
    → (image : List (Item ℕ)) → IsIn image (with_insertion text following most) → RisesFrom low base image
insertion_rises text low base following zero rises image h = rises 0 image h
insertion_rises text low base following (suc most) rises image h = elim (in_cases image (following (suc most)) _ h) [
  | inl without ↦ rises (suc most) image without
  | inr inserted ↦
      let r = map_cases (λ later. map New text ++ later) image (following most) inserted in
      subst (RisesFrom low base) (sym r.2) (rises_behind text low base r.0 (rises most r.0 r.1))
]

images_rise : (text : List ℕ) (from count most : ℕ) (image : List (Item ℕ)) → IsIn image (images text from count most) → RisesFrom from (from + count) image
images_rise text from zero most image (inl e) = subst (RisesFrom from (from + 0)) (sym e) tt
images_rise text from zero most image (inr h) = absurd h
images_rise text from (suc count) most image h =
    let following = images text (suc from) count in
    let end : suc from + count ≡ from + suc count = omega arith in
    let later : (m : ℕ) (im : List (Item ℕ)) → IsIn im (following m) → RisesFrom (suc from) (from + suc count) im = λ m im k. subst (λ (n : ℕ). RisesFrom (suc from) n im) end (images_rise text (suc from) count m im k) in
    elim (in_cases image (map (λ im. Old from ∷ im) (with_insertion text following most)) (following most) h) [
      | inl kept ↦
          let r = map_cases (λ im. Old from ∷ im) image (with_insertion text following most) kept in
          subst (RisesFrom from (from + suc count)) (sym r.2) (omega arith, omega arith, insertion_rises text (suc from) (from + suc count) following most later r.0 r.1)
      | inr deleted ↦ rises_from from (from + suc count) image (later most image deleted)
    ]

pub forms_rise : (text : List ℕ) (most count : ℕ) (op : Operation ℕ) → IsIn op (forms text most count) → IsOperation op
forms_rise text most count op h =
    let r = map_cases (λ image. record { base = count; image = image }) op (with_insertion text (images text 0 count) most) h in
    let later : (m : ℕ) (im : List (Item ℕ)) → IsIn im (images text 0 count m) → RisesFrom 0 count im = λ m im k. subst (λ (n : ℕ). RisesFrom 0 n im) (omega arith) (images_rise text 0 count m im k) in
    subst (λ (o : Operation ℕ). IsOperation o) (sym r.2) (insertion_rises text 0 count (images text 0 count) most later r.0 r.1)

-- ---- all of them

-- an image is its first insertion, if it begins with one, and what follows
record IsRun (image : List (Item ℕ)) (x : ℕ) : Type 0 where
  pub text : List ℕ
  pub rest : List (Item ℕ)
  pub is : New x ∷ image ≡ map New (x ∷ text) ++ rest
  pub starts : StartsAt 0 rest
  pub new_texts : new_texts (New x ∷ image) ≡ (x ∷ text) ∷ new_texts rest

first_run : (x : ℕ) (image : List (Item ℕ)) → IsRun image x
first_run x [] = record { text = []; rest = []; is = refl; starts = tt; new_texts = refl }
first_run x (Old i ∷ image) = record { text = []; rest = Old i ∷ image; is = refl; starts = omega arith; new_texts = refl }
first_run x (New y ∷ image) =
    let r = first_run y image in
    record { text = y ∷ r.text; rest = r.rest; is = ap (λ (im : List (Item ℕ)). New x ∷ im) r.is; starts = r.starts; new_texts = ap (with_char x (New y ∷ image)) r.new_texts }

with_insertion_all : (text : List ℕ) (low base : ℕ) (following : ℕ → List (List (Item ℕ))) (most : ℕ) → ((m : ℕ) (image : List (Item ℕ)) → StartsAt 0 image → IsListed text low base m image → IsIn image (following m))
    → (image : List (Item ℕ)) → IsListed text low base most image → IsIn image (with_insertion text following most)
with_insertion_all text low base following most all [] l = without most (all most [] tt l)
  where
    without : (m : ℕ) → IsIn [] (following m) → IsIn [] (with_insertion text following m)
    without zero h = h
    without (suc m) h = in_left [] (following (suc m)) _ h
with_insertion_all text low base following most all (Old i ∷ image) l = without most (all most (Old i ∷ image) (omega arith) l)
  where
    without : (m : ℕ) → IsIn (Old i ∷ image) (following m) → IsIn (Old i ∷ image) (with_insertion text following m)
    without zero h = h
    without (suc m) h = in_left (Old i ∷ image) (following (suc m)) _ h
with_insertion_all text low base following most all (New x ∷ image) l = go most l
  where
    go : (m : ℕ) → IsListed text low base m (New x ∷ image) → IsIn (New x ∷ image) (with_insertion text following m)
    go zero l = let r = first_run x image in let few = rw r.new_texts at l.few in absurd (omega (arith, few))
    go (suc m) l =
        let r = first_run x image in
        let few = rw r.new_texts at l.few in
        let are = rw r.new_texts at l.are in
        let rises = rises_rest (x ∷ r.text) low base r.rest (subst (RisesFrom low base) r.is l.rises) in
        let rest = all m r.rest r.starts (record { rises = rises; few = omega (arith, few); are = are.1 }) in
        let is : New x ∷ image ≡ map New text ++ r.rest = r.is ∙ ap (λ (t : List ℕ). map New t ++ r.rest) are.0 in
        in_right (New x ∷ image) (following (suc m)) (map (λ later. map New text ++ later) (following m))
        (subst (λ (im : List (Item ℕ)). IsIn im (map (λ later. map New text ++ later) (following m))) (sym is) (in_map (λ later. map New text ++ later) r.rest (following m) rest))

images_all : (text : List ℕ) (from count most : ℕ) (image : List (Item ℕ)) → StartsAt 0 image → IsListed text from (from + count) most image → IsIn image (images text from count most)
images_all text from zero most [] s l = inl refl
images_all text from zero most (Old i ∷ image) s l = let r = l.rises in let a = r.0 in let b = r.1 in absurd (omega (arith, a, b))
images_all text from zero most (New x ∷ image) s l = absurd s
images_all text from (suc count) most [] s l = in_right [] _ (images text (suc from) count most) (images_all text (suc from) count most [] tt (record { rises = tt; few = l.few; are = tt }))
images_all text from (suc count) most (Old i ∷ image) s l =
    go (images_all text (suc from) count) (cases_eq i from)
  where
    go : ((m : ℕ) (im : List (Item ℕ)) → StartsAt 0 im → IsListed text (suc from) (suc from + count) m im → IsIn im (images text (suc from) count m)) → (i ≡ from) ⊎ (i ≢ from)
        → IsIn (Old i ∷ image) (map (λ im. Old from ∷ im) (with_insertion text (images text (suc from) count) most) ++ images text (suc from) count most)
    go later (inl same) =
        let end : from + suc count ≡ suc from + count = omega arith in
        let r = rw (end, same) at l.rises in
        let listed : IsListed text (suc from) (suc from + count) most image = record { rises = r.2; few = l.few; are = l.are } in
        in_left (Old i ∷ image) (map (λ im. Old from ∷ im) (with_insertion text (images text (suc from) count) most)) (images text (suc from) count most)
        (subst (λ (k : ℕ). IsIn (Old k ∷ image) (map (λ im. Old from ∷ im) (with_insertion text (images text (suc from) count) most))) (sym same)
        (in_map (λ im. Old from ∷ im) image (with_insertion text (images text (suc from) count) most) (with_insertion_all text (suc from) (suc from + count) (images text (suc from) count) most later image listed)))
    go later (inr other) =
        let end : from + suc count ≡ suc from + count = omega arith in
        let r = rw end at l.rises in
        let a = r.0 in
        let listed : IsListed text (suc from) (suc from + count) most (Old i ∷ image) = record { rises = (omega (arith, a, other), r.1, r.2); few = l.few; are = l.are } in
        in_right (Old i ∷ image) _ (images text (suc from) count most) (later most (Old i ∷ image) (omega arith) listed)
images_all text from (suc count) most (New x ∷ image) s l = absurd s

pub forms_all : (text : List ℕ) (most count : ℕ) (op : Operation ℕ) → op.base ≡ count → IsListed text 0 count most op.image → IsIn op (forms text most count)
forms_all text most count op base l =
    let later : (m : ℕ) (im : List (Item ℕ)) → StartsAt 0 im → IsListed text 0 count m im → IsIn im (images text 0 count m) = λ m im s k. images_all text 0 count m im s (subst (λ (n : ℕ). IsListed text 0 n m im) (omega arith) k) in
    let image = with_insertion_all text 0 count (images text 0 count) most later op.image l in
    let same : op ≡ record { base = count; image = op.image } = ap (λ (n : ℕ). record { base = n; image = op.image }) base in
    subst (λ (o : Operation ℕ). IsIn o (forms text most count)) (sym same) (in_map (λ im. record { base = count; image = im }) op.image (with_insertion text (images text 0 count) most) image)
