-- Verdicts on worked sessions, by evaluation.
use Rattle.std.proofs.Common.{◌≡◌, ℕ, List, [], ◌∷◌, length, map, Option, Some, refl}
use Rattle.std.specs.Prelude.{option_map}
use Rattle.ot_operation.specs.Operation.{apply}
use Rattle.ot_operation.specs.Run.{Keep, Add}
use Rattle.ot_operation.specs.Compose.{compose}
use Rattle.ot_operation.specs.Merge.{merge, first_after, second_after}
use Rattle.ot_isa.specs.declared.instruction.Instr.{Instr}
use Rattle.ot_isa.specs.declared.instruction.Instr.TheVariants.{Edit, Take, Join}
use Rattle.ot_model.specs.Table.{State}
use Rattle.ot_model.specs.Runs.{place_at}
use Rattle.ot_model.proofs.Examples.{op, schedule}
use Rattle.ot_verdict.specs.Pending.{absent, untaken, waiting}
use Rattle.ot_verdict.specs.Ending.{ending}
use Rattle.ot_verdict.specs.First.{first_taken}
use Rattle.ot_verdict.specs.declared.waiting.Waiting.TheVariants.{Sent, Buffered, Incoming}

-- two clients, of which so many are present, after these instructions
abbrev after : ℕ → List Instr → Option State
after present is = option_map (λ p. p.state) (place_at (schedule 2 present [] is) (length is))

abbrev letters : State → List ℕ
letters s = map (λ x. x.ch) (ending s)

abbrev a : Instr
a = Edit 0 (op (Add (97 ∷ []) ∷ []))

abbrev b : Instr
b = Edit 1 (op (Add (98 ∷ []) ∷ []))

-- behind what client 0 has
abbrev c : Instr
c = Edit 0 (op (Keep 1 ∷ Add (99 ∷ []) ∷ []))

-- both insert at one place: it depends on whose edit is taken first
both : (option_map untaken (after 2 (a ∷ b ∷ [])) ≡ Some (0 ∷ 1 ∷ [])) × (option_map first_taken (after 2 (a ∷ b ∷ [])) ≡ Some (Some 0)) × (option_map waiting (after 2 (a ∷ b ∷ [])) ≡ Some (Sent 0 ∷ Sent 1 ∷ []))
unfolding apply compose merge first_after second_after
both = (refl, refl, refl)

one_taken : (option_map letters (after 2 (a ∷ b ∷ Take 0 ∷ [])) ≡ Some (98 ∷ 97 ∷ [])) × (option_map letters (after 2 (a ∷ b ∷ Take 1 ∷ [])) ≡ Some (97 ∷ 98 ∷ []))
unfolding apply compose merge first_after second_after
one_taken = (refl, refl)

-- a buffer is not taken, and it is in what all documents become
buffered : (option_map waiting (after 2 (a ∷ c ∷ Take 0 ∷ [])) ≡ Some (Buffered 0 ∷ Incoming 0 1 ∷ Incoming 1 1 ∷ [])) × (option_map untaken (after 2 (a ∷ c ∷ Take 0 ∷ [])) ≡ Some (0 ∷ []))
    × (option_map letters (after 2 (a ∷ c ∷ Take 0 ∷ [])) ≡ Some (97 ∷ 99 ∷ []))
unfolding apply compose merge first_after second_after
buffered = (refl, refl, refl)

-- client 1 joins later
late : (option_map absent (after 1 (a ∷ Take 0 ∷ [])) ≡ Some (1 ∷ [])) × (option_map waiting (after 1 (a ∷ Take 0 ∷ [])) ≡ Some (Incoming 0 1 ∷ [])) × (option_map absent (after 1 (a ∷ Take 0 ∷ Join 1 ∷ [])) ≡ Some [])
unfolding apply compose merge first_after second_after
late = (refl, refl, refl)
