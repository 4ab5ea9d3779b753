-- Visits of the sessions of a list, one part after the other.
use Rattle.std.proofs.Common.{◌≡◌, inl, inr, ℕ, suc, ◌+◌, List, [], ◌∷◌, ◌++◌, take, drop, map, refl, sym, ap, ap₂, ◌∙◌, subst, arith, Some, append_assoc}
use Rattle.std.specs.Prelude.{slice_get, flat_map}
use Rattle.std.proofs.lemmas.Grind.{flat_map-append}
use Rattle.std.proofs.lemmas.List.{append-nil, map-append, take-append-drop}
use Rattle.ot_isa.specs.declared.instruction.Instr.{Instr}
use Rattle.ot_model.proofs.States.{drop_entry, take_entry}
use Rattle.ot_every.specs.Walking.{Visits, VisitsPart, behind_all}

module _ {V O : Type 0} (visits stops : V → O → List Instr → V → O → Type 0) where
  pub visits_same : (v w : V) (o q : O) (xs ys : List (List Instr)) → xs ≡ ys → Visits visits v o xs w q → Visits visits v o ys w q
  visits_same v w o q xs ys e h = subst (λ (zs : List (List Instr)). Visits visits v o zs w q) e h

  pub part_same : (v w : V) (o q : O) (xs ys : List (List Instr)) → xs ≡ ys → VisitsPart visits stops v o xs w q → VisitsPart visits stops v o ys w q
  part_same v w o q xs ys e h = subst (λ (zs : List (List Instr)). VisitsPart visits stops v o zs w q) e h

  pub visits_append : (v u w : V) (o p q : O) (xs ys : List (List Instr)) → Visits visits v o xs u p → Visits visits u p ys w q → Visits visits v o (xs ++ ys) w q
  visits_append v u w o p q [] ys (a, b) h =
      subst (λ (z : V). Visits visits z o ys w q) (sym a) (subst (λ (z : O). Visits visits u z ys w q) (sym b) h)
  visits_append v u w o p q (x ∷ xs) ys (t, r, first, rest) h = (t, r, first, visits_append t u w r p q xs ys rest h)

  -- nothing is visited
  pub part_none : (v : V) (o : O) (xs : List (List Instr)) → VisitsPart visits stops v o xs v o
  part_none v o [] = (refl, refl)
  part_none v o (x ∷ xs) = inl (refl, refl)

  pub part_after : (v u w : V) (o p q : O) (xs ys : List (List Instr)) → Visits visits v o xs u p → VisitsPart visits stops u p ys w q → VisitsPart visits stops v o (xs ++ ys) w q
  part_after v u w o p q [] ys (a, b) h =
      subst (λ (z : V). VisitsPart visits stops z o ys w q) (sym a) (subst (λ (z : O). VisitsPart visits stops u z ys w q) (sym b) h)
  part_after v u w o p q (x ∷ xs) ys (t, r, first, rest) h = inr (inr (t, r, first, part_after t u w r p q xs ys rest h))

  part_nothing : (v w : V) (o q : O) (ys : List (List Instr)) → v ≡ w → o ≡ q → VisitsPart visits stops v o ys w q
  part_nothing v w o q [] a b = (a, b)
  part_nothing v w o q (y ∷ ys) a b = inl (a, b)

  pub part_front : (v w : V) (o q : O) (xs ys : List (List Instr)) → VisitsPart visits stops v o xs w q → VisitsPart visits stops v o (xs ++ ys) w q
  part_front v w o q [] ys (a, b) = part_nothing v w o q ys a b
  part_front v w o q (x ∷ xs) ys (inl none) = inl none
  part_front v w o q (x ∷ xs) ys (inr (inl stop)) = inr (inl stop)
  part_front v w o q (x ∷ xs) ys (inr (inr (t, r, first, rest))) = inr (inr (t, r, first, part_front t w r q xs ys rest))

  -- the first sessions are visited
  pub part_of_front : (v w : V) (o q : O) (xs ys : List (List Instr)) → Visits visits v o xs w q → VisitsPart visits stops v o (xs ++ ys) w q
  part_of_front v w o q xs ys h = part_after v w w o q q xs ys h (part_none w q ys)

-- ---- behind a session's beginning

pub behind_cons : (before : List Instr) (i : Instr) (xs : List (List Instr)) → behind_all (before ++ i ∷ []) xs ≡ behind_all before (map (λ is. i ∷ is) xs)
behind_cons before i [] = refl
behind_cons before i (x ∷ xs) = ap₂ (λ (y : List Instr) (ys : List (List Instr)). y ∷ ys) (append_assoc before (i ∷ []) x) (behind_cons before i xs)

pub behind_nil : (xs : List (List Instr)) → behind_all [] xs ≡ xs
behind_nil [] = refl
behind_nil (x ∷ xs) = ap (λ (ys : List (List Instr)). x ∷ ys) (behind_nil xs)

module _ {X : Type 0} (f : X → List (List Instr)) where
  -- up to an element, it, and the rest
  pub split_at : (before : List Instr) (items : List X) (k : ℕ) (x : X) → slice_get items k ≡ Some x
      → behind_all before (flat_map f items) ≡ behind_all before (flat_map f (take k items)) ++ (behind_all before (f x) ++ behind_all before (flat_map f (drop (suc k) items)))
  split_at before items k x at =
      let rest = drop (suc k) items in
      ap (λ (zs : List X). behind_all before (flat_map f zs)) (sym (take-append-drop k items) ∙ ap (λ (zs : List X). take k items ++ zs) (drop_entry items k x at))
      ∙ ap (behind_all before) (flat_map-append f (take k items) (x ∷ rest))
      ∙ map-append (λ is. before ++ is) (flat_map f (take k items)) (f x ++ flat_map f rest)
      ∙ ap (λ (zs : List (List Instr)). behind_all before (flat_map f (take k items)) ++ zs) (map-append (λ is. before ++ is) (f x) (flat_map f rest))

  pub one_more : (before : List Instr) (items : List X) (k : ℕ) (x : X) → slice_get items k ≡ Some x
      → behind_all before (flat_map f (take k items)) ++ behind_all before (f x) ≡ behind_all before (flat_map f (take (k + 1) items))
  one_more before items k x at =
      let next : k + 1 ≡ suc k = omega arith in
      sym (ap (λ (n : ℕ). behind_all before (flat_map f (take n items))) next
      ∙ ap (λ (zs : List X). behind_all before (flat_map f zs)) (take_entry items k x at)
      ∙ ap (behind_all before) (flat_map-append f (take k items) (x ∷ []))
      ∙ map-append (λ is. before ++ is) (flat_map f (take k items)) (f x ++ [])
      ∙ ap (λ (zs : List (List Instr)). behind_all before (flat_map f (take k items)) ++ behind_all before zs) (append-nil (f x)))
