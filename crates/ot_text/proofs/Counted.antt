-- An operation has as many components as its shape.
use Rattle.std.proofs.Common.{◌≡◌, ℕ, zero, suc, ◌-◌, List, [], ◌∷◌, map, length, refl, ap, ◌∙◌}
use Rattle.std.proofs.lemmas.List.{length-map}
use Rattle.ot_operation.specs.Operation.{Item, Old, New, Operation}
use Rattle.ot_operation.specs.Run.{Run, Keep, Add, Skip, with_keep, with_new, with_skip, normal_runs_from, normal_runs}
use Rattle.ot_codes.specs.Shape.{mapped_item, mapped, blank}
use Rattle.ot_text.proofs.Parts.{AreParts}

-- a run with another new element in the place of each
abbrev run-mapped : {A B : Type 0} → (A → B) → Run A → Run B
run-mapped f (Keep n) = Keep n
run-mapped f (Add s) = Add (map f s)
run-mapped f (Skip n) = Skip n

module _ {A B : Type 0} (f : A → B) where
  keep_so : (rs : List (Run A)) → with_keep (map (run-mapped f) rs) ≡ map (run-mapped f) (with_keep rs)
  keep_so [] = refl
  keep_so (Keep n ∷ rs) = refl
  keep_so (Add s ∷ rs) = refl
  keep_so (Skip n ∷ rs) = refl

  new_so : (x : A) (rs : List (Run A)) → with_new (f x) (map (run-mapped f) rs) ≡ map (run-mapped f) (with_new x rs)
  new_so x [] = refl
  new_so x (Keep n ∷ rs) = refl
  new_so x (Add s ∷ rs) = refl
  new_so x (Skip n ∷ rs) = refl

  skip_so : (n : ℕ) (rs : List (Run A)) → with_skip n (map (run-mapped f) rs) ≡ map (run-mapped f) (with_skip n rs)
  skip_so zero rs = refl
  skip_so (suc n) rs = refl

  runs_so : (from : ℕ) (items : List (Item A)) (end : ℕ) → normal_runs_from from (map (mapped_item f) items) end ≡ map (run-mapped f) (normal_runs_from from items end)
  runs_so from [] end = skip_so (end - from) []
  runs_so from (Old i ∷ items) end =
      ap (λ (rs : List (Run B)). with_skip (i - from) (with_keep rs)) (runs_so (suc i) items end)
      ∙ ap (with_skip (i - from)) (keep_so (normal_runs_from (suc i) items end))
      ∙ skip_so (i - from) (with_keep (normal_runs_from (suc i) items end))
  runs_so from (New x ∷ items) end = ap (with_new (f x)) (runs_so from items end) ∙ new_so x (normal_runs_from from items end)

  count_so : (op : Operation A) → length (normal_runs (mapped f op)) ≡ length (normal_runs op)
  count_so op = ap length (runs_so 0 op.image op.base) ∙ length-map (normal_runs op) (run-mapped f)

pub same_count : {A : Type 0} {codes : Operation (Unit {0})} {text : List A} {op : Operation A} → AreParts codes text op → length (normal_runs codes) ≡ length (normal_runs op)
same_count {op = op} parts = ap (λ (o : Operation (Unit {0})). length (normal_runs o)) parts.codes_are ∙ count_so blank op
