use Rattle.std.proofs.Common.{◌∙◌, get_or, sym, map, refl}
use Rattle.ot_judge.specs.declared.elements.Element.{Element}
use Rattle.ot_judge.proofs.Deleters.{is-numbered}
use Rattle.ot_judge.proofs.TagLemmas.{same_tag-true}
use Rattle.ot_judge.proofs.elements.element_number.Goals as goal

pub returns-then-eq : goal.returns-then-eq
returns-then-eq c =
    let all = c.args.all.now in
    let y = c.index-all-guess.result in
    let same = same_tag-true (get_or all c.args.guess y).tag c.args.a (sym c.eq.ensures ∙ c.if-eq.true) in
    sym (is-numbered c.args.index.now (map (λ (x : Element). x.tag) all) all c.args.guess y c.args.a c.requires refl c.if-guess-all.true same)
