-- Tags, and documents and operations over tagged characters.
use Rattle.std.specs.Prelude.{◌≡◌, ℕ, suc, List, [], ◌∷◌, map}
use Rattle.std.specs.List.{All}
use Rattle.ot_operation.specs.Operation.{Item, Old, New, Operation}
use Rattle.ot_isa.specs.declared.elements.Tagged.{Tagged}

-- the character of this maker with this serial number
abbrev pub tagged_char : ℕ → ℕ → ℕ → Tagged
tagged_char origin serial ch = record { ch = ch; tag = record { origin = origin; serial = serial } }

-- characters of one maker, numbered from `first` on
abbrev pub tagged_chars : ℕ → ℕ → List ℕ → List Tagged
tagged_chars origin first [] = []
tagged_chars origin first (ch ∷ chars) = tagged_char origin first ch ∷ tagged_chars origin (suc first) chars

-- the items of an operation, where its new characters are numbered so
abbrev pub tagged_items : ℕ → ℕ → List (Item ℕ) → List (Item Tagged)
tagged_items origin first [] = []
tagged_items origin first (Old i ∷ items) = Old i ∷ tagged_items origin first items
tagged_items origin first (New ch ∷ items) = New (tagged_char origin first ch) ∷ tagged_items origin (suc first) items

abbrev pub tagged_operation : Operation ℕ → ℕ → ℕ → Operation Tagged
tagged_operation op origin first = record { base = op.base; image = tagged_items origin first op.image }

-- the characters without their tags
abbrev pub chars_of : List Tagged → List ℕ
chars_of items = map (λ (t : Tagged). t.ch) items

-- no tag stands twice
abbrev pub HasNoTagTwice : List Tagged → Type 0
HasNoTagTwice [] = Unit {0}
HasNoTagTwice (t ∷ items) = All (λ (u : Tagged). u.tag ≡ t.tag → ⊥) items × HasNoTagTwice items
