-- What contracts see of a patch.
use Rattle.std.specs.Prelude.{◌⊎◌, ℕ, ◌≤◌, List, All, length}
use Rattle.ot_list.specs.declared.span.Span.{Span}
use Rattle.ot_list.specs.Spans.{all_gone, merged, IsEven, Fit}

-- the spans, the new leaves of all of them, and room for so many leaves of the changed list and of those that go
pub record Change (A : Type 0) : Type 0 where
  pub spans : List Span
  pub leaves : List (List A)
  pub room : ℕ
  pub spare : ℕ

-- the list that the patch makes of this one
abbrev pub patched : {A : Type 0} → List (List A) → Change A → List (List A)
patched leaves patch = merged patch.spans leaves patch.leaves

-- the patch is one of this list
abbrev pub IsOf : {A : Type 0} → List (List A) → Change A → Type 0
IsOf leaves patch = Fit patch.spans leaves patch.leaves

-- there is room for the headers that move: none is needed where as many leaves go as come at each place
abbrev pub IsReady : {A : Type 0} → List (List A) → Change A → Type 0
IsReady leaves patch = All IsEven patch.spans ⊎ ((length (patched leaves patch) ≤ patch.room) × (all_gone patch.spans ≤ patch.spare))
