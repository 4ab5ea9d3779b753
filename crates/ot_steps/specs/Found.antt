-- How often a text stands in each document.
use Rattle.std.specs.Prelude.{ℕ, zero, suc, List, [], ◌∷◌, ◌-◌, length, map, ◌==◌, if◌then◌else◌, Bool, true, false}
use Rattle.ot_isa.specs.Tagging.{chars_of}
use Rattle.ot_model.specs.Table as table
use Rattle.ot_steps.specs.Fold.{ClientText, Session}

-- the list begins with this text
abbrev pub begins : List ℕ → List ℕ → Bool
begins [] list = true
begins (a ∷ text) [] = false
begins (a ∷ text) (b ∷ list) = if a == b then begins text list else false

-- how often the text stands in the list, from its front, once the first elements are passed over; a place counts once
abbrev pub times_behind : ℕ → List ℕ → List ℕ → ℕ
times_behind passed text [] = 0
times_behind (suc passed) text (b ∷ list) = times_behind passed text list
times_behind zero text (b ∷ list) = if begins text (b ∷ list) then suc (times_behind (length text - 1) text list) else times_behind 0 text list

abbrev pub times : List ℕ → List ℕ → ℕ
times text list = times_behind 0 text list

-- in the server's document, and then in each client's, as lines give them
abbrev pub counts : List ℕ → Session → List ℕ
counts text v = times text v.document ∷ map (λ (x : ClientText). times text x.document) v.clients

-- and in those of the table
abbrev pub counts_in : List ℕ → table.State → List ℕ
counts_in text s = times text (chars_of s.server) ∷ map (λ (x : table.Client). times text (chars_of x.list)) s.clients
