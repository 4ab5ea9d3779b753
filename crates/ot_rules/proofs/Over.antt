-- One more item of a loop's list.
use Rattle.std.proofs.Common.{◌≡◌, ℕ, ◌+◌, ◌<◌, ◌≤◌, List, ◌∷◌, ◌++◌, length, drop, get_or, refl, sym, ap, ◌∙◌, subst, arith, add-one, length-drop, drop-cons, append_assoc, Option, Some, None, Bool, true}
use Rattle.ot_operation.specs.Operation.{Operation}
use Rattle.ot_operation.specs.Run.{Run, Keep, Add, Skip}
use Rattle.ot_rules.specs.Units.{IsAdded, behind, unit_run, units_from, with_one_more}
use Rattle.ot_rules.specs.Wrong.{second_of, transformed, turned_over}

pub drop_here : {A : Type 0} (xs : List A) (i : ℕ) (x : A) → i < length xs → x ≡ get_or xs i x → drop i xs ≡ x ∷ drop (i + 1) xs
drop_here xs i x here is =
    let d : drop i xs ≡ get_or xs i x ∷ drop (i + 1) xs = rw (add-one, drop-cons xs i x) refl in
    d ∙ ap (λ y. y ∷ drop (i + 1) xs) (sym is)

-- ---- a message over the log

over_step : (op other : Operation ℕ) (rest : List (Operation ℕ)) (p : Option (Operation ℕ)) → second_of (transformed other op) ≡ p
    → turned_over op (other ∷ rest) ≡ (elim p as (λ _. Option (Operation ℕ)) [ None ↦ None | Some next ↦ turned_over next rest ])
over_step op other rest p e = ap (λ (q : Option (Operation ℕ)). elim q as (λ _. Option (Operation ℕ)) [ None ↦ None | Some next ↦ turned_over next rest ]) e

module _ (op current other : Operation ℕ) (xs : List (Operation ℕ)) (i : ℕ) (here : i < length xs) (is : other ≡ get_or xs i other)
    (so_far : turned_over current (drop i xs) ≡ turned_over op xs) where
  left : turned_over current (other ∷ drop (i + 1) xs) ≡ turned_over op xs
  left = ap (turned_over current) (sym (drop_here xs i other here is)) ∙ so_far

  pub over_none : second_of (transformed other current) ≡ None → None ≡ turned_over op xs
  over_none e = sym (over_step current other (drop (i + 1) xs) None e) ∙ left

  pub over_more : (next : Operation ℕ) → second_of (transformed other current) ≡ Some next → turned_over next (drop (i + 1) xs) ≡ turned_over op xs
  over_more next e = sym (over_step current other (drop (i + 1) xs) (Some next) e) ∙ left

-- ---- components over a text

units_step : (op : Operation ℕ) (text : List ℕ) (run : Run ℕ) (rest : List (Run ℕ)) (p : Option (Operation ℕ)) → with_one_more op (unit_run text run) ≡ p
    → units_from op text (run ∷ rest) ≡ (elim p as (λ _. Option (Operation ℕ)) [ None ↦ None | Some next ↦ units_from next (behind text run) rest ])
units_step op text run rest p e = ap (λ (q : Option (Operation ℕ)). elim q as (λ _. Option (Operation ℕ)) [ None ↦ None | Some next ↦ units_from next (behind text run) rest ]) e

pub units_more : (op next : Operation ℕ) (text later : List ℕ) (run : Run ℕ) (left rest : List (Run ℕ)) (all : Option (Operation ℕ)) (added : Bool) → left ≡ run ∷ rest
    → units_from op text left ≡ all → added ≡ true → IsAdded op text run next added → later ≡ behind text run → units_from next later rest ≡ all
units_more op next text later run left rest all added at so_far on is behind_is =
    ap (λ (t : List ℕ). units_from next t rest) behind_is
    ∙ sym (units_step op text run rest (Some next) (subst (IsAdded op text run next) on is))
    ∙ ap (units_from op text) (sym at)
    ∙ so_far

pub behind_within : (text later : List ℕ) (run : Run ℕ) → length text ≤ 1000000 → later ≡ behind text run → length later ≤ 1000000
behind_within text later (Keep count) small is = omega (arith, ap length is, length-drop count text)
behind_within text later (Add letters) small is = omega (arith, ap length is)
behind_within text later (Skip count) small is = omega (arith, ap length is, length-drop count text)
