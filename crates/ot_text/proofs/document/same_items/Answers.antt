use Rattle.std.proofs.lemmas.Slice.Eq.{slice_eq-Decides}
use Rattle.ot_text.proofs.document.same_items.Goals as goal

pub returns : goal.returns
returns g c =
    slice_eq-Decides (λ x y. (g.met.T.Element.equal_is_same x y, λ e. rw e (g.met.T.Eq.laws.refl y))) _ _ _ c.eq.ensures
