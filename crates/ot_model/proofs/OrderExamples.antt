-- Worked orders, by evaluation.
use Rattle.std.proofs.Common.{◌≡◌, ℕ, zero, suc, List, [], ◌∷◌, length, map, Option, Some, refl}
use Rattle.std.proofs.Common.{arith}
use Rattle.std.proofs.lemmas.Bool.{ne_eqb}
use Rattle.std.specs.Prelude.{option_map}
use Rattle.ot_operation.specs.Operation.{apply}
use Rattle.ot_operation.specs.Run.{Keep, Add}
use Rattle.ot_operation.specs.Compose.{compose}
use Rattle.ot_operation.specs.Merge.{merge, first_after, second_after}
use Rattle.ot_isa.specs.declared.instruction.Instr.{Instr}
use Rattle.ot_isa.specs.declared.instruction.Instr.TheVariants.{Edit, Take, Deliver, Acknowledge, Join, Read, ReadServer}
use Rattle.ot_model.specs.Table.{State}
use Rattle.ot_model.specs.Runs.{done, place_at}
use Rattle.ot_model.specs.Orders.{ClientMachine, ServerMachine, AreSameOrders}
use Rattle.ot_model.proofs.Examples.{op, schedule}

-- examples/two-clients.ots, with a read at each machine
abbrev first_order : List Instr
first_order =
    Edit 0 (op (Add (97 ∷ []) ∷ [])) ∷ Edit 1 (op (Add (98 ∷ []) ∷ [])) ∷ Take 0 ∷ Take 1 ∷ Deliver 1 ∷ Acknowledge 1 ∷ Acknowledge 0 ∷ Deliver 0 ∷ Read 0 ∷ Read 1 ∷ ReadServer ∷ []

-- client 1 edits first and has the other's letter before its own is taken; client 0 has both before client 1 has its answer
abbrev second_order : List Instr
second_order =
    Edit 1 (op (Add (98 ∷ []) ∷ [])) ∷ Edit 0 (op (Add (97 ∷ []) ∷ [])) ∷ Take 0 ∷ Deliver 1 ∷ Acknowledge 0 ∷ Take 1 ∷ ReadServer ∷ Deliver 0 ∷ Read 0 ∷ Acknowledge 1 ∷ Read 1 ∷ []

same_orders : AreSameOrders first_order second_order
same_orders (ClientMachine zero) = refl
same_orders (ClientMachine (suc zero)) = refl
same_orders (ClientMachine (suc (suc c))) =
    rw (ne_eqb 0 (suc (suc c)) (λ e. absurd (omega (arith, e))), ne_eqb 1 (suc (suc c)) (λ e. absurd (omega (arith, e)))) refl
same_orders ServerMachine = refl

state_after : List Instr → Option State
state_after is = option_map (λ p. p.state) (place_at (schedule 2 2 [] is) (length is))

both_orders : state_after first_order ≡ state_after second_order
unfolding state_after apply compose merge first_after second_after
both_orders = refl

both_done : (done (schedule 2 2 [] first_order) ≡ 11) × (done (schedule 2 2 [] second_order) ≡ 11)
unfolding apply compose merge first_after second_after
both_done = (refl, refl)

-- a message that is received before it was sent: the take finds its link empty
abbrev too_early : List Instr
too_early = Edit 1 (op (Add (98 ∷ []) ∷ [])) ∷ Take 0 ∷ Edit 0 (op (Add (97 ∷ []) ∷ [])) ∷ []

too_early-done : done (schedule 2 2 [] too_early) ≡ 1
unfolding apply compose merge first_after second_after
too_early-done = refl

-- the order of the takes is needed: here client 1's letter is first in the log, and the texts differ
abbrev text_after : List Instr → Option (List ℕ)
text_after is = option_map (λ p. map (λ x. x.ch) p.state.server) (place_at (schedule 2 2 [] is) (length is))

takes_matter : (text_after (Edit 0 (op (Add (97 ∷ []) ∷ [])) ∷ Edit 1 (op (Add (98 ∷ []) ∷ [])) ∷ Take 0 ∷ Take 1 ∷ []) ≡ Some (98 ∷ 97 ∷ []))
    × (text_after (Edit 0 (op (Add (97 ∷ []) ∷ [])) ∷ Edit 1 (op (Add (98 ∷ []) ∷ [])) ∷ Take 1 ∷ Take 0 ∷ []) ≡ Some (97 ∷ 98 ∷ []))
unfolding apply compose merge first_after second_after
takes_matter = (refl, refl)

-- so is that of a join with a take: the client joins at another revision
revisions_after : List Instr → Option (List ℕ)
revisions_after is = option_map (λ p. map (λ x. x.revision) p.state.clients) (place_at (schedule 2 1 [] is) (length is))

joins_matter : (revisions_after (Edit 0 (op (Add (97 ∷ []) ∷ [])) ∷ Take 0 ∷ Join 1 ∷ []) ≡ Some (0 ∷ 1 ∷ []))
    × (revisions_after (Edit 0 (op (Add (97 ∷ []) ∷ [])) ∷ Join 1 ∷ Take 0 ∷ []) ≡ Some (0 ∷ 0 ∷ []))
unfolding revisions_after apply compose merge first_after second_after
joins_matter = (refl, refl)

-- and that of a server's read with a take, and of two instructions of one client's machine: they show other lists
shown_after : List Instr → Option (List (List ℕ))
shown_after is = option_map (λ p. map (λ x. map (λ y. y.ch) x.list) p.shown) (place_at (schedule 2 2 [] is) (length is))

reads_matter : (shown_after (Edit 0 (op (Add (97 ∷ []) ∷ [])) ∷ Take 0 ∷ ReadServer ∷ []) ≡ Some ((97 ∷ []) ∷ []))
    × (shown_after (Edit 0 (op (Add (97 ∷ []) ∷ [])) ∷ ReadServer ∷ Take 0 ∷ []) ≡ Some ([] ∷ []))
    × (shown_after (Edit 0 (op (Add (97 ∷ []) ∷ [])) ∷ Read 0 ∷ []) ≡ Some ((97 ∷ []) ∷ []))
    × (shown_after (Read 0 ∷ Edit 0 (op (Add (97 ∷ []) ∷ [])) ∷ []) ≡ Some ([] ∷ []))
unfolding shown_after apply compose merge first_after second_after
reads_matter = (refl, refl, refl, refl)

-- a take beside edits of its own client: the first edit sends, so that the take comes after it; the second waits, so that it is free
take_with_edit : state_after (Edit 0 (op (Add (97 ∷ []) ∷ [])) ∷ Edit 0 (op (Keep 1 ∷ Add (98 ∷ []) ∷ [])) ∷ Take 0 ∷ [])
    ≡ state_after (Edit 0 (op (Add (97 ∷ []) ∷ [])) ∷ Take 0 ∷ Edit 0 (op (Keep 1 ∷ Add (98 ∷ []) ∷ [])) ∷ [])
unfolding state_after apply compose merge first_after second_after
take_with_edit = refl
