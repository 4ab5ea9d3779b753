-- What a draft has written.
use Rattle.std.specs.Prelude.{◌≡◌, ℕ, ◌+◌, ◌-◌, ◌*◌, ◌<◌, ◌≤◌, List, [], ◌∷◌, ◌++◌, map, length, drop}
use Rattle.ot_list.specs.declared.span.Span.{Span}
use Rattle.ot_list.specs.declared.draft.Draft.{Draft}
use Rattle.ot_list.specs.Leaves.{concatenated, AreLeaves, MayEnd, last_leaf}
use Rattle.ot_list.specs.Spans.{reach, all_put, through}

-- the span in which it writes
abbrev pub last_span : {T S : Type 0} → Draft T S → Span
last_span draft = record { kept = draft.kept; gone = 0; put = length draft.leaves.items - draft.first }

-- all its spans
abbrev pub spans_of : {T S : Type 0} → Draft T S → List Span
spans_of draft = draft.spans.items ++ last_span draft ∷ []

-- the leaves that it has made
abbrev pub made_by : {T S : Type 0} → Draft T S → List (List T)
made_by draft = map (λ leaf. leaf.items) draft.leaves.items

-- the old leaves before this place are done with: they are kept or passed over
abbrev pub place_of : {T S : Type 0} → Draft T S → ℕ
place_of draft = reach (spans_of draft)

-- the whole leaves that it has written over the old ones
abbrev pub front_of : {T S : Type 0} → List (List T) → Draft T S → List (List T)
front_of old draft = through (spans_of draft) old (made_by draft)

-- all that has been written
abbrev pub written : {T S : Type 0} → List (List T) → Draft T S → List T
written old draft = concatenated (front_of old draft) ++ draft.pending.items

-- each span keeps an old leaf
abbrev pub AllKeep : List Span → Type 0
AllKeep [] = Unit {0}
AllKeep (s ∷ ss) = (0 < s.kept) × AllKeep ss

-- each span but the first does: between two spans a leaf stays
abbrev pub AreApart : List Span → Type 0
AreApart [] = Unit {0}
AreApart (s ∷ ss) = AllKeep ss

-- a draft over these old leaves
pub record IsDraft {T S : Type 0} (cap : ℕ) (total : List T → S) (old : List (List T)) (draft : Draft T S) : Type 0 where
  pub within : place_of draft ≤ length old
  pub place_is : draft.place ≡ place_of draft
  pub first_is : draft.first ≡ all_put draft.spans.items
  pub first_within : draft.first ≤ length draft.leaves.items
  pub sums : draft.sums.items ≡ map total (made_by draft)
  pub leaves : AreLeaves cap (front_of old draft)
  pub apart : AreApart (spans_of draft)
  pub short : length draft.pending.items ≤ 2 * cap

-- a draft that has been continued by a text; no old leaf from its place on is done with
pub record Continues {T S : Type 0} (cap : ℕ) (total : List T → S) (old : List (List T)) (before after : Draft T S) (text : List T) : Type 0 where
  pub draft : IsDraft cap total old after
  pub text_is : written old after ≡ written old before ++ text
  pub place : place_of after ≤ place_of before

-- a draft without the last of its whole leaves
pub record IsWithoutLast {T S : Type 0} (cap : ℕ) (total : List T → S) (old : List (List T)) (before after : Draft T S) : Type 0 where
  pub draft : IsDraft cap total old after
  pub front_is : front_of old before ≡ front_of old after ++ last_leaf (front_of old before) ∷ []
  pub pending_is : after.pending.items ≡ before.pending.items
  pub place : place_of after ≤ place_of before

-- a draft with one more whole leaf
pub record IsWithLeaf {T S : Type 0} (cap : ℕ) (total : List T → S) (old : List (List T)) (before after : Draft T S) (leaf : List T) : Type 0 where
  pub draft : IsDraft cap total old after
  pub front_is : front_of old after ≡ front_of old before ++ leaf ∷ []
  pub pending_is : after.pending.items ≡ before.pending.items
  pub place : place_of after ≡ place_of before

-- a draft whose first pending items have become a leaf, or the end of one
pub record HasClosed {T S : Type 0} (cap : ℕ) (total : List T → S) (old : List (List T)) (before after : Draft T S) (count : ℕ) : Type 0 where
  pub continues : Continues cap total old before after []
  pub pending_is : after.pending.items ≡ drop count before.pending.items
  pub last : count ≤ length (last_leaf (front_of old after))

-- a draft that has no more items pending than a leaf may have; what may stand behind all that was pending may stand behind these
pub record HasHalved {T S : Type 0} (cap : ℕ) (total : List T → S) (old : List (List T)) (before after : Draft T S) (next : ℕ) : Type 0 where
  pub continues : Continues cap total old before after []
  pub less : length after.pending.items ≤ cap
  pub some : 0 < length before.pending.items → 0 < length after.pending.items
  pub end : cap < length before.pending.items + next → cap < length after.pending.items + next
  pub none : length before.pending.items ≡ 0 → (front_of old after ≡ front_of old before) × (length after.pending.items ≡ 0)

-- a draft in which nothing is pending
pub record HasFlushed {T S : Type 0} (cap : ℕ) (total : List T → S) (old : List (List T)) (before after : Draft T S) (next : ℕ) : Type 0 where
  pub continues : Continues cap total old before after []
  pub empty : after.pending.items ≡ []
  pub end : 0 < length before.pending.items → cap < length before.pending.items + next → MayEnd cap (front_of old after) next
  pub none : length before.pending.items ≡ 0 → front_of old after ≡ front_of old before

-- a leaf of `next` items may stand behind all that is written
pub record MayFollow {T S : Type 0} (cap : ℕ) (old : List (List T)) (draft : Draft T S) (next : ℕ) : Type 0 where
  pub pending : 0 < length draft.pending.items → cap < length draft.pending.items + next
  pub last : length draft.pending.items ≡ 0 → 0 < length (last_leaf (front_of old draft)) → cap < length (last_leaf (front_of old draft)) + next

-- the old leaves before a place are kept, with nothing written behind them
pub record IsAt {T S : Type 0} (draft : Draft T S) (place : ℕ) : Type 0 where
  pub made : length draft.leaves.items ≤ draft.first
  pub none : draft.pending.items ≡ []
  pub place_is : draft.place ≡ place
