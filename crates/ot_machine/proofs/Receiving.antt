-- What a delivery asks of the client that it comes to, and what it applies there.
use Rattle.std.proofs.Common.{◌≡◌, ℕ, length, refl, sym, ap, ◌∙◌, subst, Some, true, false}
use Rattle.std.proofs.lemmas.Bool.{eqb-false}
use Rattle.std.specs.Prelude.{slice_get, ◌==◌}
use Rattle.std.specs.Option.{option_map}
use Rattle.ot_isa.specs.declared.elements.Tagged.{Tagged}
use Rattle.ot_client.specs.State as state
use Rattle.ot_client.specs.Conditions as conditions
use Rattle.ot_client.specs.Client.{state_of}
use Rattle.ot_client.specs.declared.client.Client as program
use Rattle.ot_model.specs.Operation.{Operation}
use Rattle.ot_model.specs.Laws.{IsDeliverable}
use Rattle.ot_model.specs.Laws as laws
use Rattle.ot_model.specs.Sound.{IsSound}
use Rattle.ot_model.specs.Table.{Client, Entry, State, against_pending, is_joined, phase_in}
use Rattle.ot_model.proofs.Fitting.{deliverable}
use Rattle.ot_machine.specs.Readers.{ClientHas}
use Rattle.ot_machine.specs.Seats.{client_of, phase_of, revision_of}
use Rattle.ot_machine.specs.declared.seat.Seat.{Seat}

joined_in : (phase : state.Phase Tagged) → is_joined (phase_in phase) ≡ true
joined_in state.Synchronized = refl
joined_in (state.AwaitingConfirm o) = refl
joined_in (state.AwaitingWithBuffer o b) = refl

-- the table's condition is the program's, and so is what is applied
may_in : (phase : state.Phase Tagged) (op : Operation Tagged) → laws.MayDeliver (phase_in phase) op → conditions.MayDeliver phase op
may_in state.Synchronized op may = tt
may_in (state.AwaitingConfirm o) op may = may
may_in (state.AwaitingWithBuffer o b) op may = may

pub against_pending_in : (phase : state.Phase Tagged) (op : Operation Tagged) → against_pending (phase_in phase) op ≡ state.against_pending phase op
against_pending_in state.Synchronized op = refl
against_pending_in (state.AwaitingConfirm o) op = refl
against_pending_in (state.AwaitingWithBuffer o b) op = refl

module _ (s : State) (c : ℕ) (seat : Seat) (here : program.Client Tagged) (h : Entry) (sound : IsSound s) (at : slice_get s.clients c ≡ Some (client_of seat)) (is : seat.client ≡ Some here)
    (head : Some h ≡ slice_get s.log (revision_of seat.client)) (other : (h.maker == c) ≡ false) where
  phase_is : phase_of seat.client ≡ phase_in (state_of here).phase
  phase_is = ap phase_of is

  fits : IsDeliverable (client_of seat) h.op
  fits = deliverable s c (client_of seat) h sound at (ap is_joined phase_is ∙ joined_in (state_of here).phase) (sym head) (eqb-false h.maker c other)

  pub may_receive : conditions.MayDeliver (state_of here).phase h.op
  may_receive = may_in (state_of here).phase h.op (subst (λ p. laws.MayDeliver p h.op) phase_is fits.operations)

  pub received_base : (applied : Operation Tagged) → applied ≡ state.against_pending (state_of here).phase h.op → ClientHas s c (λ x. length x.list) applied.base
  received_base applied applied_is =
      let base : applied.base ≡ length seat.list =
      ap (λ (op : Operation Tagged). op.base) (applied_is ∙ sym (against_pending_in (state_of here).phase h.op) ∙ ap (λ p. against_pending p h.op) (sym phase_is)) ∙ fits.base in
      ap (option_map (λ (x : Client). length x.list)) at ∙ ap (λ n. Some n) (sym base)
