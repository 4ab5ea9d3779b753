-- Where the edits of a small run lie, instruction by instruction, and what is counted there.
use Rattle.std.proofs.Common.{◌≡◌, ℕ, [], ◌∷◌, get_or, Some, None, refl, inl, inr}
use Rattle.ot_operation.specs.Operation.{apply}
use Rattle.ot_operation.specs.Run.{Keep, Add}
use Rattle.ot_operation.specs.Compose.{compose}
use Rattle.ot_operation.specs.Merge.{merge, first_after, second_after}
use Rattle.ot_isa.specs.Program.{Program}
use Rattle.ot_isa.specs.declared.instruction.Instr.{Instr}
use Rattle.ot_isa.specs.declared.instruction.Instr.TheVariants.{Edit, Take, Acknowledge}
use Rattle.ot_model.specs.Table.{State}
use Rattle.ot_model.specs.Runs.{IsStateAt, place_at, opening_of}
use Rattle.ot_model.specs.Lying.{Outstanding, Buffer, LogEntry, LiesIn, ledger_at, in_entries, sent}
use Rattle.ot_model.proofs.Examples.{op, schedule}

abbrev letter_a : Instr
letter_a = Edit 0 (op (Add (97 ∷ []) ∷ []))

abbrev letter_b : Instr
letter_b = Edit 0 (op (Keep 1 ∷ Add (98 ∷ []) ∷ []))

abbrev letter_c : Instr
letter_c = Edit 0 (op (Keep 2 ∷ Add (99 ∷ []) ∷ []))

-- a client types three letters; the first is sent, and the other two once it is acknowledged
abbrev typing : Program
typing = schedule 1 1 [] (letter_a ∷ letter_b ∷ letter_c ∷ Take 0 ∷ Acknowledge 0 ∷ Take 0 ∷ [])

abbrev state_at : ℕ → State
state_at p = elim (place_at typing p) [ Some q ↦ q.state | None ↦ opening_of typing ]

at0 : IsStateAt typing 0 (state_at 0)
at0 = record { shown = []; at = refl }

at1 : IsStateAt typing 1 (state_at 1)
unfolding apply compose merge first_after second_after
at1 = record { shown = []; at = refl }

at2 : IsStateAt typing 2 (state_at 2)
unfolding apply compose merge first_after second_after
at2 = record { shown = []; at = refl }

at3 : IsStateAt typing 3 (state_at 3)
unfolding apply compose merge first_after second_after
at3 = record { shown = []; at = refl }

at4 : IsStateAt typing 4 (state_at 4)
unfolding apply compose merge first_after second_after
at4 = record { shown = []; at = refl }

at5 : IsStateAt typing 5 (state_at 5)
unfolding apply compose merge first_after second_after
at5 = record { shown = []; at = refl }

-- the first edit becomes the outstanding operation, and is in the first entry once that is taken
first1 : LiesIn typing 0 0 1 (Outstanding 0)
first1 = (state_at 0, letter_a, at0, refl, inl ((refl, refl), refl))

first2 : LiesIn typing 0 0 2 (Outstanding 0)
first2 = (state_at 1, letter_b, at1, refl, inr (Outstanding 0, first1, refl))

first3 : LiesIn typing 0 0 3 (Outstanding 0)
first3 = (state_at 2, letter_c, at2, refl, inr (Outstanding 0, first2, refl))

first4 : LiesIn typing 0 0 4 (LogEntry 0)
unfolding apply compose merge first_after second_after
first4 = (state_at 3, Take 0, at3, refl, inr (Outstanding 0, first3, inr (refl, refl)))

-- the second becomes the buffer, and the third is composed into it; both are sent with the acknowledgement, and are in the second entry then
second2 : LiesIn typing 0 1 2 (Buffer 0)
unfolding apply compose merge first_after second_after
second2 = (state_at 1, letter_b, at1, refl, inl ((refl, refl), refl))

second3 : LiesIn typing 0 1 3 (Buffer 0)
second3 = (state_at 2, letter_c, at2, refl, inr (Buffer 0, second2, refl))

third3 : LiesIn typing 0 2 3 (Buffer 0)
unfolding apply compose merge first_after second_after
third3 = (state_at 2, letter_c, at2, refl, inl ((refl, refl), refl))

third4 : LiesIn typing 0 2 4 (Buffer 0)
third4 = (state_at 3, Take 0, at3, refl, inr (Buffer 0, third3, inl refl))

third5 : LiesIn typing 0 2 5 (Outstanding 0)
third5 = (state_at 4, Acknowledge 0, at4, refl, inr (Buffer 0, third4, inr (refl, refl)))

third6 : LiesIn typing 0 2 6 (LogEntry 1)
unfolding apply compose merge first_after second_after
third6 = (state_at 5, Take 0, at5, refl, inr (Outstanding 0, third5, inr (refl, refl)))

-- and so it is counted: one edit is not in the buffer, then all three are not; one is in the first entry, three in the first two
counted3 : (sent (ledger_at typing 3) 0 ≡ 1) × (get_or (ledger_at typing 3).made 0 0 ≡ 3)
unfolding apply compose merge first_after second_after
counted3 = (refl, refl)

counted6 : (sent (ledger_at typing 6) 0 ≡ 3) × (in_entries (ledger_at typing 6) 1 0 ≡ 1) × (in_entries (ledger_at typing 6) 2 0 ≡ 3)
unfolding apply compose merge first_after second_after
counted6 = (refl, refl, refl)
