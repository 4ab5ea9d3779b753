-- A change that was exchanged undoes it.
use Rattle.std.proofs.Common.{◌≡◌, length, refl, sym, ap, subst, ◌∙◌}
use Rattle.ot_operation.specs.Operation.{Operation, IsOperation, news}
use Rattle.ot_operation.specs.Merge.{first_after}
use Rattle.ot_operation.proofs.TransformedLaws.{news-first_after}
use Rattle.ot_codes.specs.Shape.{filled, shape}
use Rattle.ot_codes.proofs.Filled.{filled-shape, filled_fits}
use Rattle.ot_text.proofs.Parts.{length-news-shape}
use Rattle.ot_client.specs.State.{State, Phase, Synchronized, AwaitingConfirm, AwaitingWithBuffer}
use Rattle.ot_client.specs.Change.{phase_changed, pending_undoing, changed, undoing, IsOver, IsPhaseJoined, Fits}
use Rattle.ot_client.specs.declared.change.Change.{Change}
use Rattle.ot_client.specs.declared.change.Pending.{Pending}
use Rattle.ot_client.specs.declared.change.Pending.TheVariants as pending

-- the codes of a transformed operation, for the text that it keeps
module _ {A : Type 0} (a b : Operation A) (first : IsOperation a) (second : IsOperation b) (same : a.base ≡ b.base)
    (codes : Operation (Unit {0})) (codes_are : codes ≡ shape (first_after a b)) where
  pub codes_fit : length (news codes.image) ≡ length (news a.image)
  codes_fit =
      ap (λ (o : Operation (Unit {0})). length (news o.image)) codes_are
      ∙ length-news-shape (first_after a b)
      ∙ ap length (news-first_after a b first second same)

  pub codes_filled : filled codes (news a.image) ≡ first_after a b
  codes_filled =
      ap (λ o. filled o (news a.image)) codes_are
      ∙ ap (filled (shape (first_after a b))) (sym (news-first_after a b first second same))
      ∙ filled-shape (first_after a b)

-- other codes, and then its own again
module _ {A : Type 0} (codes : Operation (Unit {0})) (op : Operation A) (fits : length (news codes.image) ≡ length (news op.image)) where
  filled_back : filled (shape op) (news (filled codes (news op.image)).image) ≡ op
  filled_back = ap (filled (shape op)) (filled_fits codes (news op.image) (sym fits)).1 ∙ filled-shape op

  fits_back : length (news (shape op).image) ≡ length (news (filled codes (news op.image)).image)
  fits_back = length-news-shape op ∙ sym (ap length (filled_fits codes (news op.image) (sym fits)).1)

phase_back : {A : Type 0} (phase : Phase A) (change : Pending A) → IsOver phase change → phase_changed (phase_changed phase change) (pending_undoing phase change) ≡ phase
phase_back Synchronized (pending.Send op) over = refl
phase_back (AwaitingConfirm o) (pending.Outstanding codes) over = ap AwaitingConfirm (filled_back codes o over)
phase_back (AwaitingWithBuffer o b) (pending.Both codes) over =
    λ i. AwaitingWithBuffer (filled_back codes.value.0 o over.0 i) (filled_back codes.value.1 b over.1 i)
phase_back phase change over = refl

over_back : {A : Type 0} (phase : Phase A) (change : Pending A) → IsOver phase change → IsOver (phase_changed phase change) (pending_undoing phase change)
over_back Synchronized (pending.Send op) over = over
over_back (AwaitingConfirm o) (pending.Outstanding codes) over = fits_back codes o over
over_back (AwaitingWithBuffer o b) (pending.Both codes) over = (fits_back codes.value.0 o over.0, fits_back codes.value.1 b over.1)
over_back phase change over = over

module _ {A : Type 0} (state : State A) (change : Change A) (fits : Fits state change) where
  pub changed_back : changed (changed state change) (undoing state change) ≡ state
  changed_back = λ i. record { revision = state.revision; phase = phase_back state.phase change.pending fits.over i }

  pub undoing_fits : Fits (changed state change) (undoing state change)
  undoing_fits = record {
    over = over_back state.phase change.pending fits.over;
    before = fits.after;
    after = subst IsPhaseJoined (sym (phase_back state.phase change.pending fits.over)) fits.before;
  }

  pub changed_from : (later : State A) (other : Change A) → later ≡ changed state change → other ≡ undoing state change → changed later other ≡ state
  changed_from later other later_is other_is =
      ap (λ s. changed s other) later_is ∙ ap (changed (changed state change)) other_is ∙ changed_back
