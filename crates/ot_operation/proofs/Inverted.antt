-- What the runs of an operation give of its inverse.
use Rattle.std.proofs.Common.{◌≡◌, ℕ, zero, suc, ◌+◌, ◌<◌, ◌≤◌, true, false, cond, nat_eq, List, [], ◌∷◌, ◌++◌, map, length, take, drop, refl, sym, ap, ◌∙◌, arith, append_assoc, Option, Some, None}
use borrow.Author.Tests.{eq-eqb, ne_eqb}
use Rattle.std.proofs.lemmas.List.{take-append-drop, drop-drop}
use Rattle.ot_operation.specs.Operation.{Item, Old, New, olds, place_from, place_of, restored, restored_from}
use Rattle.ot_operation.specs.Run.{Run, Keep, Add, Skip, image_from}

-- a place further on
abbrev pub further : ℕ → Option ℕ → Option ℕ
further n None = None
further n (Some p) = Some (n + p)

further_zero : (o : Option ℕ) → o ≡ further 0 o
further_zero None = refl
further_zero (Some p) = let e : 0 + p ≡ p = omega arith in rw e refl

pub further_further : (m n : ℕ) (o : Option ℕ) → further m (further n o) ≡ further (m + n) o
further_further m n None = refl
further_further m n (Some p) = let e : m + (n + p) ≡ (m + n) + p = omega arith in rw e refl

-- a later first place of the image
place_further : {A : Type 0} (n p q : ℕ) (image : List (Item A)) (j : ℕ) → q ≡ n + p → place_from q image j ≡ further n (place_from p image j)
place_further n p q [] j e = refl
place_further n p q (New x ∷ image) j e = place_further n (suc p) (suc q) image j (omega (arith, e))
place_further n p q (Old i ∷ image) j e =
    let later : place_from (suc q) image j ≡ further n (place_from (suc p) image j) = place_further n (suc p) (suc q) image j (omega (arith, e)) in
    rw (later, e)
    (elim (nat_eq i j) as (λ b. cond b (Some (n + p)) (further n (place_from (suc p) image j)) ≡ further n (cond b (Some p) (place_from (suc p) image j)))
    [ true ↦ refl | false ↦ refl ])

news_past : {A : Type 0} (p q j : ℕ) (s : List A) (items : List (Item A)) → q ≡ p + length s → place_from p (map New s ++ items) j ≡ place_from q items j
news_past p q j [] items e = let same : p ≡ q = omega (arith, e) in rw same refl
news_past p q j (x ∷ s) items e = news_past (suc p) q j s items (omega (arith, e))

olds_past : {A : Type 0} (p q j from n : ℕ) (items : List (Item A)) → from + n ≤ j → q ≡ p + n → place_from p (olds from n ++ items) j ≡ place_from q items j
olds_past p q j from zero items h e = let same : p ≡ q = omega (arith, e) in rw same refl
olds_past p q j from (suc n) items h e =
    rw (ne_eqb from j (λ same. omega (arith, h, same))) (olds_past (suc p) q j (suc from) n items (omega arith) (omega (arith, e)))

olds_within : {A : Type 0} (p q j from n k : ℕ) (items : List (Item A)) → k < n → j ≡ from + k → q ≡ p + k → place_from p (olds from n ++ items) j ≡ Some q
olds_within p q j from zero k items h e f = absurd (omega arith)
olds_within p q j from (suc n) zero items h e f =
    let same : p ≡ q = omega (arith, f) in rw (eq-eqb from j (omega (arith, e)), same) refl
olds_within p q j from (suc n) (suc k) items h e f =
    rw (ne_eqb from j (λ same. omega (arith, e, same))) (olds_within (suc p) q j (suc from) n k items (omega arith) (omega (arith, e)) (omega (arith, f)))

-- a place before `from` is not in an image from there on
none_before : {A : Type 0} (j from n p : ℕ) (items : List (Item A)) → j < from → ((q : ℕ) → place_from q items j ≡ None) → place_from p (olds from n ++ items) j ≡ None
none_before j from zero p items h none = none p
none_before j from (suc n) p items h none =
    rw (ne_eqb from j (λ same. omega (arith, h, same))) (none_before j (suc from) n (suc p) items (omega arith) none)

pub none_in : {A : Type 0} (j from p : ℕ) (rs : List (Run A)) → j < from → place_from p (image_from from rs) j ≡ None
none_in j from p [] h = refl
none_in j from p (Keep n ∷ rs) h = none_before j from n p (image_from (from + n) rs) h (λ q. none_in j (from + n) q rs (omega arith))
none_in j from p (Add s ∷ rs) h = news_past p (p + length s) j s (image_from from rs) refl ∙ none_in j from (p + length s) rs h
none_in j from p (Skip n ∷ rs) h = none_in j (from + n) p rs (omega arith)

pub place-news : {A : Type 0} (j : ℕ) (s : List A) (items : List (Item A)) → place_of (map New s ++ items) j ≡ further (length s) (place_of items j)
place-news j s items = news_past 0 (length s) j s items (omega arith) ∙ place_further (length s) 0 (length s) items j (omega arith)

pub place_past : {A : Type 0} (j from n : ℕ) (items : List (Item A)) → from + n ≤ j → place_of (olds from n ++ items) j ≡ further n (place_of items j)
place_past j from n items h = olds_past 0 n j from n items h (omega arith) ∙ place_further n 0 n items j (omega arith)

pub place_within : {A : Type 0} (k from n : ℕ) (items : List (Item A)) → k < n → place_of (olds from n ++ items) (from + k) ≡ Some k
place_within k from n items h = olds_within 0 k (from + k) from n k items h refl (omega arith)

pub restored_from-append : {A : Type 0} (image : List (Item A)) (from : ℕ) (xs ys : List A) → restored_from image from (xs ++ ys) ≡ restored_from image from xs ++ restored_from image (from + length xs) ys
restored_from-append image from [] ys = let z : from + 0 ≡ from = omega arith in rw z refl
restored_from-append {A} image from (x ∷ xs) ys =
    let e : from + length (x ∷ xs) ≡ suc from + length xs = omega arith in
    rw e (ap (λ (t : List (Item A)). restored (place_of image from) x ∷ t) (restored_from-append image (suc from) xs ys))

-- places that are kept side by side
pub restored_kept : {A : Type 0} (image : List (Item A)) (from to : ℕ) (xs : List A) → ((k : ℕ) → k < length xs → place_of image (from + k) ≡ Some (to + k)) → restored_from image from xs ≡ olds to (length xs)
restored_kept image from to [] kept = refl
restored_kept {A} image from to (x ∷ xs) kept =
    let z : from + 0 ≡ from = omega arith in
    let y : to + 0 ≡ to = omega arith in
    let first : place_of image from ≡ Some to = rw (z, y) at (kept 0 (omega arith)) in
    rw first (ap (λ (t : List (Item A)). Old to ∷ t) (restored_kept image (suc from) (suc to) xs
    (λ k h.
    let e : suc from + k ≡ from + (k + 1) = omega arith in
    let f : suc to + k ≡ to + (k + 1) = omega arith in
    rw (e, f) (kept (k + 1) (omega arith)))))

-- places that are gone
pub restored_gone : {A : Type 0} (image : List (Item A)) (from : ℕ) (xs : List A) → ((k : ℕ) → k < length xs → place_of image (from + k) ≡ None) → restored_from image from xs ≡ map New xs
restored_gone image from [] gone = refl
restored_gone {A} image from (x ∷ xs) gone =
    let z : from + 0 ≡ from = omega arith in
    let first : place_of image from ≡ None = rw z at (gone 0 (omega arith)) in
    rw first (ap (λ (t : List (Item A)). New x ∷ t) (restored_gone image (suc from) xs
    (λ k h. let e : suc from + k ≡ from + (k + 1) = omega arith in rw e (gone (k + 1) (omega arith)))))

split_back : {T : Type 0} (whole : List (Item T)) (at n : ℕ) (d : List T) (made mid : List (Item T)) {all : List (Item T)} → length (take n (drop at d)) ≡ n → restored_from whole at (take n (drop at d)) ≡ mid → made ++ restored_from whole at (drop at d) ≡ all → (made ++ mid) ++ restored_from whole (at + n) (drop (at + n) d) ≡ all
split_back {T} whole at n d made mid long is all =
    let two : restored_from whole at (drop at d) ≡ restored_from whole at (take n (drop at d)) ++ restored_from whole (at + n) (drop (at + n) d) =
    ap (λ (t : List T). restored_from whole at t) (sym (take-append-drop n (drop at d)))
    ∙ restored_from-append whole at (take n (drop at d)) (drop n (drop at d))
    ∙ rw (long, drop-drop) refl in
    append_assoc made mid _ ∙ rw (← is, ← two) all
