use Rattle.std.proofs.Common.{◌≡◌, ◌∙◌, map, ap, Vec, Global}
use Rattle.std.specs.Vec.{vec_items}
use Rattle.std.proofs.lemmas.List.{append-nil}
use Rattle.ot_list.specs.Written.{made_by}
use Rattle.ot_list.proofs.Keeping.{finished_more}
use Rattle.ot_list.proofs.draft.Draft.finish.Goals as goal

pub returns : goal.returns
returns g c =
    let m = c.flush.new.self in
    let f = c.in_ok-flush.ensures in
    let span = rw c.leaf_count.ensures.count at c.in_ok-end_span.ensures.spans in
    let leaves : map (λ v. v.items) c.swap-2.new.y.items ≡ made_by m = ap (λ (v : Vec (Vec g.row.E.Denot Global) Global). map (λ w. w.items) v.items) (c.swap-2.ensures.y_after ∙ c.end_span.ensures.leaves) in
    let made = finished_more g.E.Item.CAP g.E.Item.total c.args.old.now m c.swap.new.y.items (map (λ v. v.items) c.swap-2.new.y.items) f.continues.draft f.empty (ap vec_items c.swap.ensures.y_after ∙ span) leaves in
    let text = rw (f.empty, append-nil, append-nil) at f.continues.text_is in
    record {
      of = made.0;
      sound = rw made.1 f.continues.draft.leaves;
      text = rw made.1 text;
    }
