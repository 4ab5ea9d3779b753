-- Runs of a list that make way for runs of another.
use Rattle.std.specs.Prelude.{◌≡◌, ℕ, ◌+◌, ◌≤◌, List, [], ◌∷◌, ◌++◌, length, take, drop}
use Rattle.ot_list.specs.declared.span.Span.{Span}

-- how far the spans reach into the old list
abbrev pub reach : List Span → ℕ
reach [] = 0
reach (s ∷ ss) = s.kept + s.gone + reach ss

-- how many of the old list go
abbrev pub all_gone : List Span → ℕ
all_gone [] = 0
all_gone (s ∷ ss) = s.gone + all_gone ss

-- how many new ones come
abbrev pub all_put : List Span → ℕ
all_put [] = 0
all_put (s ∷ ss) = s.put + all_put ss

-- the old list with the new ones in the place of those that go
abbrev pub merged : {A : Type 0} → List Span → List A → List A → List A
merged [] old new = old
merged (s ∷ ss) old new = take s.kept old ++ take s.put new ++ merged ss (drop (s.kept + s.gone) old) (drop s.put new)

-- the same up to where the spans reach
abbrev pub through : {A : Type 0} → List Span → List A → List A → List A
through [] old new = []
through (s ∷ ss) old new = take s.kept old ++ take s.put new ++ through ss (drop (s.kept + s.gone) old) (drop s.put new)

-- those that go
abbrev pub taken : {A : Type 0} → List Span → List A → List A
taken [] old = []
taken (s ∷ ss) old = take s.gone (drop s.kept old) ++ taken ss (drop (s.kept + s.gone) old)

-- as many go as come
abbrev pub IsEven : Span → Type 0
IsEven s = s.gone ≡ s.put

-- the spans lie within the old list, and use all of the new ones
pub record Fit {A : Type 0} (spans : List Span) (old new : List A) : Type 0 where
  pub within : reach spans ≤ length old
  pub all : all_put spans ≡ length new
