-- Examples that the checker evaluates: the list and the patch of the crate's picture.
use Rattle.std.proofs.Common.{◌≡◌, ℕ, List, [], ◌∷◌, refl}
use Rattle.ot_list.specs.declared.span.Span.{Span}
use Rattle.ot_list.specs.Leaves.{concatenated, with_run, replaced}
use Rattle.ot_list.specs.Spans.{reach, merged, taken}

abbrev old : List (List ℕ)
old = (1 ∷ 2 ∷ []) ∷ (3 ∷ []) ∷ (4 ∷ 5 ∷ []) ∷ (6 ∷ []) ∷ []

-- the second leaf makes way for two, and the last one goes
abbrev spans : List Span
spans = record { kept = 1; gone = 1; put = 2 } ∷ record { kept = 1; gone = 1; put = 0 } ∷ []

abbrev new : List (List ℕ)
new = (7 ∷ []) ∷ (8 ∷ 9 ∷ []) ∷ []

abbrev made : List (List ℕ)
made = (1 ∷ 2 ∷ []) ∷ (7 ∷ []) ∷ (8 ∷ 9 ∷ []) ∷ (4 ∷ 5 ∷ []) ∷ []

pub items_together : concatenated old ≡ 1 ∷ 2 ∷ 3 ∷ 4 ∷ 5 ∷ 6 ∷ []
items_together = refl

pub spans_reach : reach spans ≡ 4
spans_reach = refl

pub list_made : merged spans old new ≡ made
list_made = refl

pub leaves_gone : taken spans old ≡ (3 ∷ []) ∷ (6 ∷ []) ∷ []
leaves_gone = refl

pub run_replaced : with_run {A = ℕ} (1 ∷ 2 ∷ 3 ∷ 4 ∷ []) 1 2 (7 ∷ 8 ∷ 9 ∷ []) ≡ 1 ∷ 7 ∷ 8 ∷ 9 ∷ 4 ∷ []
run_replaced = refl

pub leaf_replaced : replaced old 2 1 1 (7 ∷ 8 ∷ []) ≡ (1 ∷ 2 ∷ []) ∷ (3 ∷ []) ∷ (4 ∷ 7 ∷ 8 ∷ []) ∷ (6 ∷ []) ∷ []
leaf_replaced = refl
