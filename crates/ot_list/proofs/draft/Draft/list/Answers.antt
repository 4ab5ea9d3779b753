use Rattle.std.proofs.Common.{◌≡◌, ◌∙◌, map, List, ap, sym, Vec, Global}
use Rattle.std.specs.Vec.{vec_items}
use Rattle.std.proofs.lemmas.List.{append-nil}
use Rattle.ot_list.specs.Written.{made_by}
use Rattle.ot_list.proofs.Keeping.{over_none}
use Rattle.ot_list.proofs.draft.Draft.list.Goals as goal

pub invariant_of-result : goal.invariant_of-result
invariant_of-result g c =
    let m = c.flush.new.self in
    let f = rw c.new-none.ensures at c.in_ok-flush.ensures in
    let made : map (λ v. v.items) c.replace.result.items ≡ made_by m = ap (λ (v : Vec (Vec g.row.E.Denot Global) Global). map (λ w. w.items) v.items) c.replace.ensures.value in
    let front = over_none g.E.Item.CAP g.E.Item.total m f.continues.draft in
    let sums : c.replace-2.result.items ≡ m.sums.items = ap vec_items c.replace-2.ensures.value in
    let sound = rw front at f.continues.draft.leaves in
    (sums ∙ f.continues.draft.sums ∙ ap (λ (t : List (List g.row.E.Denot)). map g.E.Item.total t) (sym made), rw made sound)

pub returns : goal.returns
returns g c =
    let m = c.flush.new.self in
    let f = rw c.new-none.ensures at c.in_ok-flush.ensures in
    let made : map (λ v. v.items) c.replace.result.items ≡ made_by m = ap (λ (v : Vec (Vec g.row.E.Denot Global) Global). map (λ w. w.items) v.items) c.replace.ensures.value in
    let front = over_none g.E.Item.CAP g.E.Item.total m f.continues.draft in
    let text = rw (f.empty, append-nil, append-nil) at f.continues.text_is in
    rw (made, ← front) text
