use Rattle.std.proofs.Common.{◌≡◌, ◌-◌, length, sym, ◌∙◌, arith}
use Rattle.std.proofs.lemmas.List.{length-map}
use Rattle.ot_list.specs.Written.{made_by}
use Rattle.ot_list.proofs.Drafted.{item_at, numbers, place_before, last_put, last_kept, last_none}
use Rattle.ot_list.proofs.draft.Draft.last_items.Goals as goal

pub returns-then-count-self : goal.returns-then-count-self
returns-then-count-self g c =
    let d = c.args.self.now in
    let size : length (made_by d) ≡ length d.leaves.items = length-map _ _ in
    let k : length (made_by d) - 1 ≡ c.len-count.result - 1 = omega arith in
    let l = last_put g.E.Item.CAP g.E.Item.total c.args.old.now d c.requires (omega arith) in
    c.as_slice.ensures.value ∙ sym (item_at d.leaves.items (c.len-count.result - 1) c.index.result.now (omega arith) c.index.ensures) ∙ sym (rw k at l)

pub overflow_sub-self : goal.overflow_sub-self
overflow_sub-self g c =
    let n = numbers g.E.Item.CAP g.E.Item.total c.args.old.now c.args.self.now c.requires in
    let p = n.place_is in
    omega arith

pub leaf-requires : goal.leaf-requires
leaf-requires g c = place_before g.E.Item.CAP g.E.Item.total c.args.old.now c.args.self.now c.requires (omega arith)

pub returns-then-self-gt0 : goal.returns-then-self-gt0
returns-then-self-gt0 g c = c.leaf.ensures ∙ sym (last_kept g.E.Item.CAP g.E.Item.total c.args.old.now c.args.self.now c.requires (omega arith) (omega arith))

pub returns : goal.returns
returns g c = sym (last_none g.E.Item.CAP g.E.Item.total c.args.old.now c.args.self.now c.requires (omega arith) (omega arith))
