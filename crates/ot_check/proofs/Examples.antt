-- Worked comparisons, by evaluation. A character is its number: 97 is 'a'.
use Rattle.std.proofs.Common.{◌≡◌, ℕ, [], ◌∷◌, Option, Some, None, refl}
use Rattle.std.specs.Prelude.{option_map}
use Rattle.ot_operation.specs.Run.{Add}
use Rattle.ot_model.specs.Operation.{apply}
use Rattle.ot_isa.specs.Program.{Program}
use Rattle.ot_isa.specs.declared.instruction.Instr.TheVariants.{Edit, Take, Deliver, Acknowledge, Join}
use Rattle.ot_model.specs.Table.{start_list}
use Rattle.ot_model.specs.Runs.{place_at}
use Rattle.ot_model.proofs.Examples.{op, schedule}
use Rattle.ot_check.specs.declared.outcome.Unsettled.TheVariants as unsettled
use Rattle.ot_check.specs.declared.outcome.Convergence.{Convergence}
use Rattle.ot_check.specs.declared.outcome.Convergence.TheVariants.{Quiet, NotQuiet}
use Rattle.ot_check.specs.Convergence.{first_difference, convergence_of}

-- "a" and "ab" beside the server's "a", and "a" twice
longer : first_difference (start_list (97 ∷ []) ∷ start_list (97 ∷ 98 ∷ []) ∷ []) (start_list (97 ∷ [])) ≡ Some (1, 1)
longer = refl

alike : first_difference (start_list (97 ∷ []) ∷ start_list (97 ∷ []) ∷ []) (start_list (97 ∷ [])) ≡ None
alike = refl

-- the server's list is the longer one, and one character is another
shorter : first_difference (start_list (97 ∷ []) ∷ start_list [] ∷ []) (start_list (97 ∷ 98 ∷ [])) ≡ Some (0, 1)
shorter = refl

other : first_difference (start_list (97 ∷ 99 ∷ 98 ∷ []) ∷ []) (start_list (97 ∷ 98 ∷ 98 ∷ [])) ≡ Some (0, 1)
other = refl

-- client 0 of two types "a"; the server takes it, and both receive it; a third client joins before client 1 has received it
typed : Program
typed = schedule 3 2 [] (Edit 0 (op (Add (97 ∷ []) ∷ [])) ∷ Take 0 ∷ Acknowledge 0 ∷ Join 2 ∷ Deliver 1 ∷ [])

abbrev answer_at : ℕ → Option Convergence
answer_at p = option_map (λ q. convergence_of q.state) (place_at typed p)

opened : answer_at 0 ≡ Some Quiet
unfolding typed
opened = refl

edited : answer_at 1 ≡ Some (NotQuiet (unsettled.Client 0))
unfolding typed apply
edited = refl

taken : answer_at 2 ≡ Some (NotQuiet (unsettled.Client 0))
unfolding typed apply
taken = refl

confirmed : answer_at 3 ≡ Some (NotQuiet (unsettled.Down 1))
unfolding typed apply
confirmed = refl

joined : answer_at 4 ≡ Some (NotQuiet (unsettled.Down 1))
unfolding typed apply
joined = refl

delivered : answer_at 5 ≡ Some Quiet
unfolding typed apply
delivered = refl
