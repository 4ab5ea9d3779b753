-- Cuts, one after the other, and what they make of two texts.
use Rattle.std.proofs.Common.{◌≡◌, ℕ, zero, suc, ◌+◌, ◌-◌, ◌≤◌, List, [], ◌∷◌, ◌++◌, length, map, take, drop, set, get_or, Bool, true, false, ◌&&◌, nat_eq, if◌then◌else◌, refl, sym, ap, ◌∙◌, arith, append_assoc, append-nil, length-append, length-drop}
use Rattle.std.proofs.lemmas.List.{map-append, take-map, drop-map, take-append-le, drop-append-le}
use Rattle.std.proofs.Math.Seq.{take-add, take-append_seam, drop-length, drop-nil}
use borrow.Author.Tests.{eqb-true}
use Rattle.ot_codes.specs.declared.cut.Cut.{Cut}
use Rattle.ot_codes.specs.Cuts.{assembled_from, assembled, AreWithin, meets, longer, with_cut}

pub drop-more : {X : Type 0} (m n : ℕ) (xs : List X) → drop n (drop m xs) ≡ drop (m + n) xs
drop-more zero n xs = ap (λ k. drop k xs) (let e : n ≡ zero + n = omega arith in e)
drop-more (suc m) n [] = drop-nil n ∙ sym (drop-nil (suc m + n))
drop-more (suc m) n (x ∷ xs) = drop-more m n xs ∙ ap (λ k. drop k (x ∷ xs)) (let e : suc (m + n) ≡ suc m + n = omega arith in e)

-- a cut that lengthens the last one does what the two do in turn

meets_first : (cut next : Cut) → meets cut next ≡ true → (cut.at + cut.gone ≡ next.at) × (cut.from + cut.put ≡ next.from)
meets_first cut next is =
    by (nat_eq (cut.at + cut.gone) next.at) (nat_eq (cut.from + cut.put) next.from) is (eqb-true (cut.at + cut.gone) next.at) (eqb-true (cut.from + cut.put) next.from)
  where
    by :
        (p q : Bool) → (p && q) ≡ true → (p ≡ true → cut.at + cut.gone ≡ next.at) → (q ≡ true → cut.from + cut.put ≡ next.from)
        → (cut.at + cut.gone ≡ next.at) × (cut.from + cut.put ≡ next.from)
    by true true is in_first in_second = (in_first refl, in_second refl)
    by true false is in_first in_second = cc
    by false q is in_first in_second = cc

module _ {A : Type 0} (at : ℕ) (cut next : Cut) (xs ys : List A) where
  as_one :
      cut.at + cut.gone ≡ next.at → cut.from + cut.put ≡ next.from
      → assembled_from at (longer cut next ∷ []) xs ys ≡ assembled_from at (cut ∷ next ∷ []) xs ys
  as_one in_first in_second =
      let left : List A = drop (cut.at - at + cut.gone) xs in
      let none : next.at - (cut.at + cut.gone) ≡ 0 = omega (arith, in_first) in
      let gone : next.at - (cut.at + cut.gone) + next.gone ≡ next.gone = omega (arith, in_first) in
      let sum : cut.at - at + (cut.gone + next.gone) ≡ cut.at - at + cut.gone + next.gone = omega arith in
      let put : take (cut.put + next.put) (drop cut.from ys) ≡ take cut.put (drop cut.from ys) ++ take next.put (drop next.from ys) =
      take-add cut.put next.put (drop cut.from ys)
      ∙ ap (λ zs. take cut.put (drop cut.from ys) ++ take next.put zs) (drop-more cut.from cut.put ys ∙ ap (λ k. drop k ys) in_second) in
      let rest : drop (cut.at - at + (cut.gone + next.gone)) xs ≡ drop next.gone left =
      ap (λ k. drop k xs) sum ∙ sym (drop-more (cut.at - at + cut.gone) next.gone xs) in
      rw (put, rest, gone, none)
      (ap (λ zs. take (cut.at - at) xs ++ zs) (append_assoc (take cut.put (drop cut.from ys)) (take next.put (drop next.from ys)) (drop next.gone left)))

  one_more : assembled_from at (with_cut (cut ∷ []) next) xs ys ≡ assembled_from at (cut ∷ next ∷ []) xs ys
  one_more = by (meets cut next) (meets_first cut next)
    where
      by :
          (p : Bool) → (p ≡ true → (cut.at + cut.gone ≡ next.at) × (cut.from + cut.put ≡ next.from))
          → assembled_from at (if p then longer cut next ∷ [] else cut ∷ next ∷ []) xs ys ≡ assembled_from at (cut ∷ next ∷ []) xs ys
      by true meet = let both = meet refl in as_one both.0 both.1
      by false meet = refl

pub with_cut-assembled :
    {A : Type 0} (at : ℕ) (cuts : List Cut) (next : Cut) (xs ys : List A) → assembled_from at (with_cut cuts next) xs ys ≡ assembled_from at (cuts ++ next ∷ []) xs ys
with_cut-assembled at [] next xs ys = refl
with_cut-assembled at (cut ∷ []) next xs ys = one_more at cut next xs ys
with_cut-assembled at (cut ∷ more ∷ cuts) next xs ys =
    ap (λ zs. take (cut.at - at) xs ++ (take cut.put (drop cut.from ys) ++ zs))
    (with_cut-assembled (cut.at + cut.gone) (more ∷ cuts) next (drop (cut.at - at + cut.gone) xs) ys)

-- cuts lie in longer texts too

pub within_more : (at : ℕ) (cuts : List Cut) (m n k l : ℕ) → m ≤ k → n ≤ l → AreWithin at cuts m n → AreWithin at cuts k l
within_more at [] m n k l first second w = omega (arith, first, w)
within_more at (cut ∷ cuts) m n k l first second w =
    (w.0, omega (arith, second, w.1), within_more (cut.at + cut.gone) cuts m n k l first second w.2)

pub within_from : (at : ℕ) (cuts : List Cut) (m n : ℕ) → AreWithin at cuts m n → at ≤ m
within_from at [] m n w = w
within_from at (cut ∷ cuts) m n w = omega (arith, w.0, within_from (cut.at + cut.gone) cuts m n w.2)

within_last :
    (at : ℕ) (cut next : Cut) → AreWithin at (cut ∷ []) next.at next.from → (p : Bool)
    → AreWithin at (if p then longer cut next ∷ [] else cut ∷ next ∷ []) (next.at + next.gone) (next.from + next.put)
within_last at cut next w true = (w.0, omega (arith, w.1), omega (arith, w.2))
within_last at cut next w false = (w.0, omega (arith, w.1), (w.2, omega arith, omega arith))

pub within_cut :
    (at : ℕ) (cuts : List Cut) (next : Cut) → AreWithin at cuts next.at next.from → AreWithin at (with_cut cuts next) (next.at + next.gone) (next.from + next.put)
within_cut at [] next w = (w, omega arith, omega arith)
within_cut at (cut ∷ []) next w = within_last at cut next w (meets cut next)
within_cut at (cut ∷ more ∷ cuts) next w = (w.0, omega (arith, w.1), within_cut (cut.at + cut.gone) (more ∷ cuts) next w.2)

-- what comes behind the cuts

module _ {A : Type 0} where
  pub assembled_more :
      (at : ℕ) (cuts : List Cut) (xs zs ys : List A) (n second : ℕ) → n ≡ at + length xs → AreWithin at cuts n second
      → assembled_from at cuts (xs ++ zs) ys ≡ assembled_from at cuts xs ys ++ zs
  assembled_more at [] xs zs ys n second is w = refl
  assembled_more at (cut ∷ cuts) xs zs ys n second is w =
      let within = within_from (cut.at + cut.gone) cuts n second w.2 in
      let far : cut.at - at + cut.gone ≤ length xs = omega (arith, within, w.0, is) in
      let front : take (cut.at - at) (xs ++ zs) ≡ take (cut.at - at) xs = take-append-le (cut.at - at) xs zs (omega (arith, far)) in
      let back : drop (cut.at - at + cut.gone) (xs ++ zs) ≡ drop (cut.at - at + cut.gone) xs ++ zs = drop-append-le (cut.at - at + cut.gone) xs zs far in
      let rest =
      assembled_more (cut.at + cut.gone) cuts (drop (cut.at - at + cut.gone) xs) zs ys n second
      (omega (arith, length-drop (cut.at - at + cut.gone) xs, far, w.0, is)) w.2 in
      rw (front, back, rest)
      (sym (append_assoc (take (cut.at - at) xs) (take cut.put (drop cut.from ys) ++ assembled_from (cut.at + cut.gone) cuts (drop (cut.at - at + cut.gone) xs) ys) zs
      ∙ ap (λ t. take (cut.at - at) xs ++ t) (append_assoc (take cut.put (drop cut.from ys)) (assembled_from (cut.at + cut.gone) cuts (drop (cut.at - at + cut.gone) xs) ys) zs)))

  assembled_last :
      (at : ℕ) (cuts : List Cut) (next : Cut) (xs zs ys : List A) (n second : ℕ) → n ≡ at + length xs → AreWithin at cuts n second → next.at ≡ n → next.gone ≡ length zs
      → assembled_from at (cuts ++ next ∷ []) (xs ++ zs) ys ≡ assembled_from at cuts xs ys ++ take next.put (drop next.from ys)
  assembled_last at [] next xs zs ys n second is w here gone =
      let far : next.at - at ≡ length xs = omega (arith, here, is) in
      let all : next.at - at + next.gone ≡ length (xs ++ zs) = omega (arith, far, gone, length-append xs zs) in
      let front : take (next.at - at) (xs ++ zs) ≡ xs = ap (λ k. take k (xs ++ zs)) far ∙ take-append_seam xs zs in
      let back : drop (next.at - at + next.gone) (xs ++ zs) ≡ [] = ap (λ k. drop k (xs ++ zs)) all ∙ drop-length (xs ++ zs) in
      rw (front, back) (ap (λ t. xs ++ t) (append-nil (take next.put (drop next.from ys))))
  assembled_last at (cut ∷ cuts) next xs zs ys n second is w here gone =
      let within = within_from (cut.at + cut.gone) cuts n second w.2 in
      let far : cut.at - at + cut.gone ≤ length xs = omega (arith, within, w.0, is) in
      let front : take (cut.at - at) (xs ++ zs) ≡ take (cut.at - at) xs = take-append-le (cut.at - at) xs zs (omega (arith, far)) in
      let back : drop (cut.at - at + cut.gone) (xs ++ zs) ≡ drop (cut.at - at + cut.gone) xs ++ zs = drop-append-le (cut.at - at + cut.gone) xs zs far in
      let new : List A = take next.put (drop next.from ys) in
      let rest =
      assembled_last (cut.at + cut.gone) cuts next (drop (cut.at - at + cut.gone) xs) zs ys n second
      (omega (arith, length-drop (cut.at - at + cut.gone) xs, far, w.0, is)) w.2 here gone in
      rw (front, back, rest)
      (sym (append_assoc (take (cut.at - at) xs) (take cut.put (drop cut.from ys) ++ assembled_from (cut.at + cut.gone) cuts (drop (cut.at - at + cut.gone) xs) ys) new
      ∙ ap (λ t. take (cut.at - at) xs ++ t) (append_assoc (take cut.put (drop cut.from ys)) (assembled_from (cut.at + cut.gone) cuts (drop (cut.at - at + cut.gone) xs) ys) new)))

  -- one more cut, behind the others, of which `zs` goes
  pub assembled_cut :
      (cuts : List Cut) (next : Cut) (xs zs ys : List A) (second : ℕ) → AreWithin 0 cuts next.at second → next.at ≡ length xs → next.gone ≡ length zs
      → assembled (with_cut cuts next) (xs ++ zs) ys ≡ assembled cuts xs ys ++ take next.put (drop next.from ys)
  assembled_cut cuts next xs zs ys second w here gone =
      with_cut-assembled 0 cuts next (xs ++ zs) ys ∙ assembled_last 0 cuts next xs zs ys next.at second (omega (arith, here)) w refl gone

-- cuts look at no element
pub assembled-map :
    {A B : Type 0} (f : A → B) (at : ℕ) (cuts : List Cut) (xs ys : List A) → map f (assembled_from at cuts xs ys) ≡ assembled_from at cuts (map f xs) (map f ys)
assembled-map f at [] xs ys = refl
assembled-map f at (cut ∷ cuts) xs ys =
    map-append f (take (cut.at - at) xs) (take cut.put (drop cut.from ys) ++ assembled_from (cut.at + cut.gone) cuts (drop (cut.at - at + cut.gone) xs) ys)
    ∙ ap (λ t. map f (take (cut.at - at) xs) ++ t)
    (map-append f (take cut.put (drop cut.from ys)) (assembled_from (cut.at + cut.gone) cuts (drop (cut.at - at + cut.gone) xs) ys))
    ∙ rw (
      assembled-map f (cut.at + cut.gone) cuts (drop (cut.at - at + cut.gone) xs) ys,
      take-map f (cut.at - at) xs,
      drop-map f (cut.at - at + cut.gone) xs,
      drop-map f cut.from ys,
      take-map f cut.put (drop cut.from ys),
    ) refl

-- writing one

pub longer_cut : (cuts : List Cut) (k : ℕ) (last next : Cut) → k + 1 ≡ length cuts → last ≡ get_or cuts k last → meets last next ≡ true → set cuts k (longer last next) ≡ with_cut cuts next
longer_cut [] k last next h is meet = absurd (omega (arith, h))
longer_cut (cut ∷ []) zero last next h is meet =
    let same : meets cut next ≡ true = ap (λ c. meets c next) (sym is) ∙ meet in
    rw same (ap (λ c. longer c next ∷ []) is)
longer_cut (cut ∷ []) (suc k) last next h is meet = absurd (omega (arith, h))
longer_cut (cut ∷ more ∷ cuts) zero last next h is meet = absurd (omega (arith, h))
longer_cut (cut ∷ more ∷ cuts) (suc k) last next h is meet = ap (λ rest. cut ∷ rest) (longer_cut (more ∷ cuts) k last next (omega (arith, h)) is meet)

pub other_cut : (cuts : List Cut) (k : ℕ) (last next : Cut) → k + 1 ≡ length cuts → last ≡ get_or cuts k last → meets last next ≡ false → cuts ++ next ∷ [] ≡ with_cut cuts next
other_cut [] k last next h is meet = absurd (omega (arith, h))
other_cut (cut ∷ []) zero last next h is meet =
    let same : meets cut next ≡ false = ap (λ c. meets c next) (sym is) ∙ meet in rw same refl
other_cut (cut ∷ []) (suc k) last next h is meet = absurd (omega (arith, h))
other_cut (cut ∷ more ∷ cuts) zero last next h is meet = absurd (omega (arith, h))
other_cut (cut ∷ more ∷ cuts) (suc k) last next h is meet = ap (λ rest. cut ∷ rest) (other_cut (more ∷ cuts) k last next (omega (arith, h)) is meet)

pub within_at :
    (at : ℕ) (cuts : List Cut) (k : ℕ) (last : Cut) (m n : ℕ) → k + 1 ≡ length cuts → last ≡ get_or cuts k last → AreWithin at cuts m n
    → (last.at + last.gone ≤ m) × (last.from + last.put ≤ n)
within_at at [] k last m n h is w = absurd (omega (arith, h))
within_at at (cut ∷ cuts) zero last m n h is w =
    let far = within_from (cut.at + cut.gone) cuts m n w.2 in
    rw is (far, w.1)
within_at at (cut ∷ cuts) (suc k) last m n h is w = within_at (cut.at + cut.gone) cuts k last m n (omega (arith, h)) is w.2
