-- Small sessions, by evaluation. A character is its number: 97 is 'a'.
use Rattle.std.proofs.Common.{◌≡◌, ℕ, [], ◌∷◌, length, refl}
use Rattle.ot_operation.specs.Operation.{Old, New, apply}
use Rattle.ot_operation.specs.Compose.{compose}
use Rattle.ot_operation.specs.Merge.{merge, first_after, second_after}
use Rattle.ot_isa.specs.declared.instruction.Instr.TheVariants.{Edit, Take, Deliver, Acknowledge, Join}
use Rattle.ot_every.specs.Forms.{forms, insertions}
use Rattle.ot_every.specs.Listing.{letters_of, sessions_of, sessions, part_of}

-- over "x": [1], [1,"a"], [-1], then ["a",1], ["a",-1]; ["a",1,"b"] has two insertions
one_character : forms (97 ∷ []) 1 1
    ≡ record { base = 1; image = Old 0 ∷ [] } ∷ record { base = 1; image = Old 0 ∷ New 97 ∷ [] } ∷ record { base = 1; image = [] }
    ∷ record { base = 1; image = New 97 ∷ Old 0 ∷ [] } ∷ record { base = 1; image = New 97 ∷ [] } ∷ []
one_character = refl

how_many : (length (forms (97 ∷ []) 1 2) ≡ 12) × (length (forms (97 ∷ []) 2 2) ≡ 17) × (length (forms (97 ∷ []) 2 1) ≡ 6)
how_many = (refl, refl, refl)

two_insertions : insertions (record { base = 1; image = New 97 ∷ New 65 ∷ Old 0 ∷ New 98 ∷ [] }) ≡ (97 ∷ 65 ∷ []) ∷ (98 ∷ []) ∷ []
two_insertions = refl

letters : (letters_of 1 0 ≡ 97 ∷ []) × (letters_of 2 1 ≡ 98 ∷ 66 ∷ []) × (letters_of 3 0 ≡ 97 ∷ 65 ∷ 97 ∷ [])
letters = (refl, refl, refl)

-- one client that edits once
alone : sessions (record { clients = 1; present = 1; start = []; edits = 1; inserts = 1; letters = 1 })
    ≡ [] ∷ (Edit 0 (record { base = 0; image = [] }) ∷ Take 0 ∷ Acknowledge 0 ∷ []) ∷ (Edit 0 (record { base = 0; image = New 97 ∷ [] }) ∷ Take 0 ∷ Acknowledge 0 ∷ []) ∷ []
unfolding apply compose merge first_after second_after
alone = refl

-- it joins late
late : sessions (record { clients = 1; present = 0; start = []; edits = 1; inserts = 0; letters = 1 })
    ≡ (Join 0 ∷ []) ∷ (Join 0 ∷ Edit 0 (record { base = 0; image = [] }) ∷ Take 0 ∷ Acknowledge 0 ∷ []) ∷ []
unfolding apply compose merge first_after second_after
late = refl

-- two clients, one edit over the empty document: either client makes it, and its acknowledgement and its delivery come in one order
together : sessions_of (record { clients = 2; present = 2; start = []; edits = 1; inserts = 0; letters = 1 }) 1 4
    ≡ (Edit 0 (record { base = 0; image = [] }) ∷ Take 0 ∷ Acknowledge 0 ∷ Deliver 1 ∷ []) ∷ (Edit 1 (record { base = 0; image = [] }) ∷ Take 1 ∷ Deliver 0 ∷ Acknowledge 1 ∷ []) ∷ []
unfolding apply compose merge first_after second_after
together = refl

-- 24 sessions of two clients with one edit over "xy"
two_letters : length (sessions_of (record { clients = 2; present = 2; start = 120 ∷ 121 ∷ []; edits = 1; inserts = 1; letters = 1 }) 1 4) ≡ 24
unfolding apply compose merge first_after second_after
two_letters = refl

thirds : (part_of {A = ℕ} 3 0 (0 ∷ 1 ∷ 2 ∷ 3 ∷ 4 ∷ []) ≡ 0 ∷ 3 ∷ []) × (part_of {A = ℕ} 3 1 (0 ∷ 1 ∷ 2 ∷ 3 ∷ 4 ∷ []) ≡ 1 ∷ 4 ∷ []) × (part_of {A = ℕ} 3 2 (0 ∷ 1 ∷ 2 ∷ 3 ∷ 4 ∷ []) ≡ 2 ∷ [])
thirds = (refl, refl, refl)
