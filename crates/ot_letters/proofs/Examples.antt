-- A worked run and the run with other letters, by evaluation. A letter is its number: 97 is 'a'.
use Rattle.std.proofs.Common.{◌≡◌, ℕ, ◌+◌, List, [], ◌∷◌, length, map, Option, Some, refl}
use Rattle.std.specs.Prelude.{option_map}
use Rattle.ot_operation.specs.Operation.{Operation, apply}
use Rattle.ot_operation.specs.Run.{Run, Keep, Add, Skip, operation_of}
use Rattle.ot_operation.specs.Compose.{compose}
use Rattle.ot_operation.specs.Merge.{merge, first_after, second_after}
use Rattle.ot_isa.specs.Program.{Program}
use Rattle.ot_isa.specs.Tagging.{chars_of}
use Rattle.ot_isa.specs.declared.instruction.Instr.{Instr}
use Rattle.ot_isa.specs.declared.instruction.Instr.TheVariants.{Edit, Take, Deliver, Acknowledge, Read, ReadServer}
use Rattle.ot_model.specs.declared.shown.Refusal.TheVariants.{BadBase}
use Rattle.ot_model.specs.Table.{Place, opening}
use Rattle.ot_model.specs.Runs.{place_at}
use Rattle.ot_letters.specs.Letters.{mapped_place, mapped_program, refusal_in}
use Rattle.ot_letters.specs.Alike.{blank, AreAlike}

abbrev op : List (Run ℕ) → Operation ℕ
op runs = operation_of runs

-- the letter after each
abbrev next : ℕ → ℕ
next letter = letter + 1

-- over "xy", client 0 inserts "a" in the middle and then deletes "y", client 1 inserts "b" in the middle, and both receive all
abbrev inserts : ℕ → ℕ → List Instr
inserts a b =
    Edit 0 (op (Keep 1 ∷ Add (a ∷ []) ∷ Keep 1 ∷ []))
    ∷ Edit 0 (op (Keep 2 ∷ Skip 1 ∷ []))
    ∷ Edit 1 (op (Keep 1 ∷ Add (b ∷ []) ∷ Keep 1 ∷ []))
    ∷ Take 0
    ∷ Take 1
    ∷ Acknowledge 0
    ∷ Take 0
    ∷ Deliver 0
    ∷ Acknowledge 0
    ∷ Deliver 1
    ∷ Acknowledge 1
    ∷ Deliver 1
    ∷ Read 0
    ∷ ReadServer
    ∷ []

abbrev session : Program
session = record { clients = 2; present = 2; start = 120 ∷ 121 ∷ []; instrs = inserts 97 98 }

-- the texts of the clients, of the server and of the reads
abbrev texts : Place → List (List ℕ) × List ℕ × List (List ℕ)
texts p = (map (λ x. chars_of x.list) p.state.clients, chars_of p.state.server, map (λ s. chars_of s.list) p.shown)

abbrev texts_at : Program → ℕ → Option (List (List ℕ) × List ℕ × List (List ℕ))
texts_at s n = option_map texts (place_at s n)

-- who made each character of the server's text
abbrev makers : Program → Option (List ℕ)
makers s = option_map (λ p. map (λ t. t.tag.origin) p.state.server) (place_at s (length s.instrs))

session-texts : texts_at session 14 ≡ Some ((120 ∷ 98 ∷ 97 ∷ []) ∷ (120 ∷ 98 ∷ 97 ∷ []) ∷ [], 120 ∷ 98 ∷ 97 ∷ [], (120 ∷ 98 ∷ 97 ∷ []) ∷ (120 ∷ 98 ∷ 97 ∷ []) ∷ [])
unfolding apply compose merge first_after second_after
session-texts = refl

-- "y", "c" and "b" in the places of "x", "b" and "a"
next-texts : texts_at (mapped_program next session) 14 ≡ Some ((121 ∷ 99 ∷ 98 ∷ []) ∷ (121 ∷ 99 ∷ 98 ∷ []) ∷ [], 121 ∷ 99 ∷ 98 ∷ [], (121 ∷ 99 ∷ 98 ∷ []) ∷ (121 ∷ 99 ∷ 98 ∷ []) ∷ [])
unfolding apply compose merge first_after second_after
next-texts = refl

-- with an operation outstanding and one in the buffer, and at the end, the whole place is mapped
next-waiting : place_at (mapped_program next session) 5 ≡ option_map (mapped_place next) (place_at session 5)
unfolding apply compose merge first_after second_after
next-waiting = refl

next-end : place_at (mapped_program next session) 14 ≡ option_map (mapped_place next) (place_at session 14)
unfolding apply compose merge first_after second_after
next-end = refl

-- with equal letters, too, client 1's stands before client 0's: the tie is broken by who made them
session-makers : makers session ≡ Some (65535 ∷ 1 ∷ 0 ∷ [])
unfolding apply compose merge first_after second_after
session-makers = refl

blank-makers : makers (mapped_program blank session) ≡ Some (65535 ∷ 1 ∷ 0 ∷ [])
unfolding apply compose merge first_after second_after
blank-makers = refl

-- an edit that is not over the document is refused, whatever its letters
refused : refusal_in (Edit 0 (op (Keep 1 ∷ Add (97 ∷ []) ∷ [])) ∷ []) (opening 2 2 (120 ∷ 121 ∷ [])) ≡ Some BadBase
refused = refl

refused-next : refusal_in (Edit 0 (op (Keep 1 ∷ Add (98 ∷ []) ∷ [])) ∷ []) (opening 2 2 (121 ∷ 122 ∷ [])) ≡ Some BadBase
refused-next = refl

-- schedules that differ in letters are alike
alike : AreAlike (inserts 97 98) (inserts 99 99)
alike = refl
