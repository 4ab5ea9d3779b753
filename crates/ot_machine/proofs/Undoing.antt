-- The inverse of what a client applied, and the client before.
use Rattle.std.proofs.Common.{◌≡◌, ℕ, List, length, refl, sym, ap, ◌∙◌, Some, true}
use Rattle.ot_isa.specs.declared.elements.Tagged.{Tagged}
use Rattle.ot_operation.specs.Operation.{Operation, IsOperation, apply, invert}
use Rattle.ot_operation.proofs.InvertLaws.{apply-invert}
use Rattle.ot_client.specs.declared.change.Change.{Change}
use Rattle.ot_client.specs.Change.{changed, Fits}
use Rattle.ot_client.specs.State as state
use Rattle.ot_model.specs.Table.{Client, Phase, NotJoined, Synchronized, AwaitingConfirm, AwaitingWithBuffer, by_rule, is_joined, phase_in}
use Rattle.ot_model.proofs.Algebra.{laws}
use Rattle.ot_machine.specs.Undoing.{exchanged, with_state, FitsState, GivesBack}

-- the inverse fits what the operation makes of the list, and gives the list back
pub gives_back : (op inverse : Operation Tagged) (list : List Tagged) → IsOperation op → op.base ≡ length list → inverse ≡ invert op list → GivesBack (Some inverse) list (apply op list)
unfolding invert
gives_back op inverse list rises fits is = (
  ap (λ (o : Operation Tagged). o.base) is ∙ sym (laws.apply-length op list (record { rising = rises; base = fits })),
  rw is (apply-invert op list rises fits),
)

-- where a change fits, the client has joined, and is joined after the exchange
in_joined : (phase : state.Phase Tagged) → is_joined (phase_in phase) ≡ true
in_joined state.Synchronized = refl
in_joined (state.AwaitingConfirm o) = refl
in_joined (state.AwaitingWithBuffer o b) = refl

fits_joined_rule : (change : Change Tagged) (r : ℕ) (phase : Phase) → by_rule ⊥ (λ p. Fits (record { revision = r; phase = p }) change) phase → is_joined phase ≡ true
fits_joined_rule change r NotJoined fits = absurd fits
fits_joined_rule change r Synchronized fits = refl
fits_joined_rule change r (AwaitingConfirm o) fits = refl
fits_joined_rule change r (AwaitingWithBuffer o b) fits = refl

pub fits_joined : (change : Change Tagged) (x : Client) → FitsState change x → is_joined x.phase ≡ true
fits_joined change x fits = fits_joined_rule change x.revision x.phase fits

exchanged_joined_rule :
    (change : Change Tagged) (x : Client) (r : ℕ) (phase : Phase)
    → is_joined phase ≡ true → is_joined (by_rule x (λ p. with_state x (changed (record { revision = r; phase = p }) change)) phase).phase ≡ true
exchanged_joined_rule change x r NotJoined on = absurd (cc)
exchanged_joined_rule change x r Synchronized on = in_joined _
exchanged_joined_rule change x r (AwaitingConfirm o) on = in_joined _
exchanged_joined_rule change x r (AwaitingWithBuffer o b) on = in_joined _

pub exchanged_joined : (change : Change Tagged) (x : Client) → is_joined x.phase ≡ true → is_joined (exchanged change x).phase ≡ true
exchanged_joined change x on = exchanged_joined_rule change x x.revision x.phase on
