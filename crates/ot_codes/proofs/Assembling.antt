-- Carrying out cuts, one after the other.
use Rattle.std.proofs.Common.{◌≡◌, ℕ, suc, ◌+◌, ◌-◌, ◌<◌, ◌≤◌, List, ◌∷◌, ◌++◌, length, take, drop, get_or, sym, ap, subst, ◌∙◌, arith, append_assoc}
use Rattle.std.proofs.Math.Seq.{drop-cons}
use Rattle.ot_codes.specs.declared.cut.Cut.{Cut}
use Rattle.ot_codes.specs.Cuts.{assembled_from, assembled, AreWithin}
use Rattle.ot_codes.proofs.Cutting.{drop-more, within_from}

-- `text` is made, `at` elements of the first text are gone through, and cuts are left
pub record Assembled {A : Type 0} (cuts : List Cut) (first second text : List A) (at : ℕ) (left : List Cut) : Type 0 where
  pub done : text ++ assembled_from at left (drop at first) second ≡ assembled cuts first second
  pub within : AreWithin at left (length first) (length second)

module _ {A : Type 0} (cuts : List Cut) (first second text : List A) (at index : ℕ) (d : Cut) (below : index < length cuts) (w : Assembled cuts first second text at (drop index cuts)) where
  here : drop index cuts ≡ get_or cuts index d ∷ drop (suc index) cuts
  here = drop-cons cuts index d below

  all : AreWithin at (get_or cuts index d ∷ drop (suc index) cuts) (length first) (length second)
  all = subst (λ left. AreWithin at left (length first) (length second)) here w.within

  pub next_within :
      (at ≤ (get_or cuts index d).at) × ((get_or cuts index d).from + (get_or cuts index d).put ≤ length second)
      × ((get_or cuts index d).at + (get_or cuts index d).gone ≤ length first)
  next_within = (
    all.0,
    all.1,
    within_from ((get_or cuts index d).at + (get_or cuts index d).gone) (drop (suc index) cuts) (length first) (length second) all.2,
  )

  pub assembled_next :
      (next : ℕ) (made : List A) → next ≡ suc index
      → made ≡ text ++ (take ((get_or cuts index d).at - at) (drop at first) ++ take (get_or cuts index d).put (drop (get_or cuts index d).from second))
      → Assembled cuts first second made ((get_or cuts index d).at + (get_or cuts index d).gone) (drop next cuts)
  assembled_next next made next_is made_is =
      let cut : Cut = get_or cuts index d in
      let kept : List A = take (cut.at - at) (drop at first) in
      let put : List A = take cut.put (drop cut.from second) in
      let order : at ≤ cut.at = all.0 in
      let far : at + (cut.at - at + cut.gone) ≡ cut.at + cut.gone = omega (arith, order) in
      let rest : drop (cut.at - at + cut.gone) (drop at first) ≡ drop (cut.at + cut.gone) first = drop-more at (cut.at - at + cut.gone) first ∙ ap (λ k. drop k first) far in
      let left : List A = assembled_from (cut.at + cut.gone) (drop (suc index) cuts) (drop (cut.at + cut.gone) first) second in
      subst (λ k. Assembled cuts first second made (cut.at + cut.gone) (drop k cuts)) (sym next_is)
      (record {
        done = ap (λ t. t ++ left) made_is ∙ append_assoc text (kept ++ put) left ∙ ap (λ t. text ++ t) (append_assoc kept put left)
            ∙ ap (λ zs. text ++ (kept ++ (put ++ assembled_from (cut.at + cut.gone) (drop (suc index) cuts) zs second))) (sym rest)
            ∙ ap (λ cs. text ++ assembled_from at cs (drop at first) second) (sym here) ∙ w.done;
        within = all.2;
      })
