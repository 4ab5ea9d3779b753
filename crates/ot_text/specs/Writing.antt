-- What a writer has written of a document, and what is left of the old one.
use Rattle.std.specs.Prelude.{◌≡◌, ℕ, ◌≤◌, List, ◌++◌, drop}
use Rattle.ot_list.specs.Written.{written, place_of, IsDraft}
use Rattle.ot_text.specs.declared.writer.Writer.{Writer}
use Rattle.ot_text.specs.Places.{left_at, IsInside}

-- what it has not gone through
abbrev pub left_of : {T S : Type 0} → List (List T) → Writer T S → List T
left_of old writer = left_at old writer.place.leaf writer.place.offset

-- a writer over these old leaves
pub record IsWriter {T S : Type 0} (cap : ℕ) (total : List T → S) (old : List (List T)) (writer : Writer T S) : Type 0 where
  pub draft : IsDraft cap total old writer.draft
  pub inside : IsInside old writer.place.leaf writer.place.offset
  pub behind : place_of writer.draft ≤ writer.place.leaf

-- it has written a text, and passed so many of the old elements
pub record HasWritten {T S : Type 0} (cap : ℕ) (total : List T → S) (old : List (List T)) (before after : Writer T S) (text : List T) (count : ℕ) : Type 0 where
  pub writer : IsWriter cap total old after
  pub text_is : written old after.draft ≡ written old before.draft ++ text
  pub left_is : left_of old after ≡ drop count (left_of old before)
