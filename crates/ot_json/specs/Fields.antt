-- Words for the definitions of JSON formats: what stands under a key, and what each item of an array is.
use Rattle.std.specs.Prelude.{ℕ, Bool, List, [], ◌∷◌, Option, Some, None, if◌then◌else◌, option_map, option_and_then}
use Rattle.std.specs.Str.{chars}
use Rattle.serde_json.specs.Data.{Data, Items, no_items, item}
use Rattle.serde_json.specs.Find.{get, as_array, as_number, as_str, as_u64}

-- a value that passes a test
abbrev pub keep_if : {A : Type 0} → (A → Bool) → Option A → Option A
keep_if p None = None
keep_if p (Some x) = if p x then Some x else None

-- what each item of an array is, if each is something
abbrev pub all_of : {A : Type 0} → (Data → Option A) → Items → Option (List A)
all_of f no_items = Some []
all_of f (item d ds) = option_and_then (λ x. option_map (λ xs. x ∷ xs) (all_of f ds)) (f d)

-- a whole number from 0 to 2^64 - 1
abbrev pub whole_number : Data → Option ℕ
whole_number d = option_and_then as_u64 (as_number d)

-- the number that stands under a key, and the array that does
abbrev pub number_at : List ℕ → Data → Option ℕ
number_at key d = option_and_then as_u64 (option_and_then as_number (get key d))

abbrev pub items_at : List ℕ → Data → Option Items
items_at key d = option_and_then as_array (get key d)

-- a number, a text or an array that may be missing
abbrev pub number_or : ℕ → Option Data → Option ℕ
number_or otherwise None = Some otherwise
number_or otherwise (Some d) = whole_number d

abbrev pub text_or_empty : Option Data → Option (List ℕ)
text_or_empty None = Some []
text_or_empty (Some d) = option_map chars (as_str d)

abbrev pub items_or_none : Option Data → Option Items
items_or_none None = Some no_items
items_or_none (Some d) = as_array d
