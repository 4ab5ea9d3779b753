use Rattle.std.proofs.Common.{◌∙◌, ℕ, List, ap, sym, map, subst, get_or, refl, ◌∷◌, ◌++◌, []}
use Rattle.std.specs.Prelude.{All, None}
use Rattle.std.proofs.lemmas.List.{map_push, take_more}
use Rattle.std.proofs.lemmas.List.Elements.{All-push}
use Rattle.ot_isa.specs.declared.elements.Tag.{Tag}
use Rattle.ot_judge.specs.declared.elements.Element.{Element}
use Rattle.ot_judge.specs.Elements.{IsDeletedBy}
use Rattle.ot_judge.proofs.Deleters.{fresh-none}
use Rattle.ot_judge.proofs.TagLemmas.{no_tag}
use Rattle.ot_judge.proofs.elements.fresh.Goals as goal

pub loop-a-preserved : goal.loop-a-preserved
loop-a-preserved c =
    let Nothing : Element → Type 0 = λ x. (k : ℕ) → IsDeletedBy x k → ⊥ in
    let x : Element = record { tag = get_or c.args.tags.now c.loop-a.a-index no_tag; last = None; others = c.new.result } in
    record {
      tags = ap (map (λ (x : Element). x.tag)) c.in_ok-push.ensures.items ∙ map_push (λ (x : Element). x.tag) c.loop-a.all.items x ∙ ap (λ (ts : List Tag). ts ++ x.tag ∷ []) c.loop-a.invariant.tags ∙ sym (take_more c.args.tags.now c.loop-a.a-index no_tag c.loop-a-test.true);
      none = subst (λ (xs : List Element). All Nothing xs) (sym c.in_ok-push.ensures.items) (All-push Nothing c.loop-a.all.items x c.loop-a.invariant.none (fresh-none x refl c.new.ensures.items));
    }
