-- Visits of the sessions of a part.
use Rattle.std.proofs.Common.{◌≡◌, inl, inr, ℕ, zero, suc, List, [], ◌∷◌, sym, ap, subst}
use Rattle.ot_isa.specs.declared.instruction.Instr.{Instr}
use Rattle.ot_every.specs.Listing.{each_from}
use Rattle.ot_every.specs.Walking.{HandsOn, StopsOn, Visits, VisitsPart}
use Rattle.ot_every.specs.declared.parting.Parting.{Parting}
use Rattle.ot_every.proofs.Visiting.{part_none}

module _ {V O : Type 0} (visits stops : V → O → List Instr → V → O → Type 0) where
  abbrev pub hands : Parting V → O → List Instr → Parting V → O → Type 0
  hands v o is w q = HandsOn visits v.between v.left v.visitor o is w.between w.left w.visitor q

  abbrev pub stops_in : Parting V → O → List Instr → Parting V → O → Type 0
  stops_in v o is w q = StopsOn stops v.left v.visitor o is w.visitor q

  -- a session is handed on or left out, and then one of each so many of the others is handed on
  handed : (v u w : Parting V) (o p q : O) (x : List Instr) (xs : List (List Instr)) (left : ℕ) → HandsOn visits v.between left v.visitor o x u.between u.left u.visitor p
      → Visits visits u.visitor p (each_from u.between u.left xs) w.visitor q → Visits visits v.visitor o (each_from v.between left (x ∷ xs)) w.visitor q
  handed v u w o p q x xs zero (between, left, visited) rest =
      let a : Visits visits u.visitor p (each_from v.between u.left xs) w.visitor q = subst (λ (k : ℕ). Visits visits u.visitor p (each_from k u.left xs) w.visitor q) between rest in
      (u.visitor, p, visited, subst (λ (k : ℕ). Visits visits u.visitor p (each_from v.between k xs) w.visitor q) left a)
  handed v u w o p q x xs (suc n) (between, left, visitor, output) rest =
      let a : Visits visits u.visitor p (each_from v.between u.left xs) w.visitor q = subst (λ (k : ℕ). Visits visits u.visitor p (each_from k u.left xs) w.visitor q) between rest in
      let b : Visits visits u.visitor p (each_from v.between n xs) w.visitor q = subst (λ (k : ℕ). Visits visits u.visitor p (each_from v.between k xs) w.visitor q) left a in
      let d : Visits visits v.visitor p (each_from v.between n xs) w.visitor q = subst (λ (y : V). Visits visits y p (each_from v.between n xs) w.visitor q) visitor b in
      subst (λ (y : O). Visits visits v.visitor y (each_from v.between n xs) w.visitor q) output d

  -- what is handed on of the sessions is one of each so many of them
  pub parted : (v w : Parting V) (o q : O) (xs : List (List Instr)) → Visits hands v o xs w q → Visits visits v.visitor o (each_from v.between v.left xs) w.visitor q
  parted v w o q [] (a, b) = (ap (λ (p : Parting V). p.visitor) a, b)
  parted v w o q (x ∷ xs) (u, p, first, rest) = handed v u w o p q x xs v.left first (parted u w p q xs rest)

  none_more : (v w : V) (o q : O) (xs : List (List Instr)) → v ≡ w → o ≡ q → VisitsPart visits stops v o xs w q
  none_more v w o q xs a b =
      subst (λ (y : V). VisitsPart visits stops v o xs y q) a (subst (λ (y : O). VisitsPart visits stops v o xs v y) b (part_none visits stops v o xs))

  handed_part : (v u w : Parting V) (o p q : O) (x : List Instr) (xs : List (List Instr)) (left : ℕ) → HandsOn visits v.between left v.visitor o x u.between u.left u.visitor p
      → VisitsPart visits stops u.visitor p (each_from u.between u.left xs) w.visitor q → VisitsPart visits stops v.visitor o (each_from v.between left (x ∷ xs)) w.visitor q
  handed_part v u w o p q x xs zero (between, left, visited) rest =
      let a : VisitsPart visits stops u.visitor p (each_from v.between u.left xs) w.visitor q = subst (λ (k : ℕ). VisitsPart visits stops u.visitor p (each_from k u.left xs) w.visitor q) between rest in
      inr (inr (u.visitor, p, visited, subst (λ (k : ℕ). VisitsPart visits stops u.visitor p (each_from v.between k xs) w.visitor q) left a))
  handed_part v u w o p q x xs (suc n) (between, left, visitor, output) rest =
      let a : VisitsPart visits stops u.visitor p (each_from v.between u.left xs) w.visitor q = subst (λ (k : ℕ). VisitsPart visits stops u.visitor p (each_from k u.left xs) w.visitor q) between rest in
      let b : VisitsPart visits stops u.visitor p (each_from v.between n xs) w.visitor q = subst (λ (k : ℕ). VisitsPart visits stops u.visitor p (each_from v.between k xs) w.visitor q) left a in
      let d : VisitsPart visits stops v.visitor p (each_from v.between n xs) w.visitor q = subst (λ (y : V). VisitsPart visits stops y p (each_from v.between n xs) w.visitor q) visitor b in
      subst (λ (y : O). VisitsPart visits stops v.visitor y (each_from v.between n xs) w.visitor q) output d

  pub parted_part : (v w : Parting V) (o q : O) (xs : List (List Instr)) → VisitsPart hands stops_in v o xs w q → VisitsPart visits stops v.visitor o (each_from v.between v.left xs) w.visitor q
  parted_part v w o q [] (a, b) = (ap (λ (p : Parting V). p.visitor) a, b)
  parted_part v w o q (x ∷ xs) (inl (a, b)) = none_more v.visitor w.visitor o q (each_from v.between v.left (x ∷ xs)) (ap (λ (p : Parting V). p.visitor) a) b
  parted_part v w o q (x ∷ xs) (inr (inl (none, stop))) =
      subst (λ (n : ℕ). VisitsPart visits stops v.visitor o (each_from v.between n (x ∷ xs)) w.visitor q) (sym none) (inr (inl stop))
  parted_part v w o q (x ∷ xs) (inr (inr (u, p, first, rest))) = handed_part v u w o p q x xs v.left first (parted_part u w p q xs rest)
