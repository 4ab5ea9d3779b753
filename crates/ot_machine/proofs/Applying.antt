-- What a client made of what was delivered to it.
use Rattle.std.proofs.Common.{◌≡◌, ℕ, sym, ◌∙◌, subst, Option, Some}
use Rattle.std.specs.Prelude.{unwrap_or}
use Rattle.ot_isa.specs.declared.elements.Tagged.{Tagged}
use Rattle.ot_client.specs.State as state
use Rattle.ot_client.specs.Client.{state_of}
use Rattle.ot_client.specs.declared.client.Client as program
use Rattle.ot_model.specs.Operation.{Operation}
use Rattle.ot_model.specs.Table.{against_pending}
use Rattle.ot_machine.specs.Effects.{IsMadeOf}
use Rattle.ot_machine.specs.Seats.{phase_of, revision_of}
use Rattle.ot_machine.specs.declared.effect.Applied as given
use Rattle.ot_machine.specs.declared.seat.Seat.{Seat}
use Rattle.ot_machine.proofs.Receiving.{against_pending_in}

pub made :
    (seat : Seat) (here : program.Client Tagged) (op : Operation Tagged) (number : ℕ) (other : Option (Operation Tagged)) (applied : given.Applied)
    → seat.client ≡ Some here → number ≡ (state_of here).revision → unwrap_or other op ≡ state.against_pending (state_of here).phase op
    → ((op made : Operation Tagged) → unwrap_or other op ≡ made → IsMadeOf number op made applied)
    → IsMadeOf (revision_of seat.client) op (against_pending (phase_of seat.client) op) applied
made seat here op number other applied is revision value all =
    rw is
    (subst (λ r. IsMadeOf r op (against_pending (phase_of (Some here)) op) applied) revision
    (all op (against_pending (phase_of (Some here)) op) (value ∙ sym (against_pending_in (state_of here).phase op))))
