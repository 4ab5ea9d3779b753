use Rattle.std.proofs.Common.{◌∙◌, refl, sym, arith}
use Rattle.ot_list.proofs.Keeping.{true_false}
use Rattle.ot_list.proofs.Replacing.{have_set, set_small, set_have, put_other, put_sums}
use Rattle.ot_list.proofs.list.List.exchange_leaf.Goals as goal

pub returns-then-count-CAP-clause-only : goal.returns-then-count-CAP-clause-only
returns-then-count-CAP-clause-only g c = λ _ leaves.
    let small = set_small g.E.Item.CAP c.args.self.now c.args.place c.args.items.now.items leaves c.requires in
    omega (arith, small.1)

pub returns-then-not-may_have-clause-only : goal.returns-then-not-may_have-clause-only
returns-then-not-may_have-clause-only g c = λ _ leaves.
    let m = set_have g.E.Item.CAP c.args.self.now c.args.place c.len-count.result c.args.items.now.items leaves c.requires (omega arith) in
    let t = c.may_have.ensures.1 m in
    true_false (sym (rw c.if-not-may_have.true at t))

pub invariant_of-self : goal.invariant_of-self
invariant_of-self g c =
    let made = put_other c.self.inside.leaves.items c.args.self.now c.self.view_is c.args.place c.requires c.index_mut-2.result.now c.swap.new.x c.index_mut-2.ensures.value c.args.items.now.items (rw c.swap.ensures.x_after refl) in
    let whole = rw c.self.view_is at c.self.invariant.1 in
    let may = c.may_have.ensures.0 (rw c.if-not-may_have.false refl) in (
      put_sums c.self.inside.leaves.items c.args.self.now c.self.view_is c.args.place c.requires c.index_mut-2.result.now c.swap.new.x c.index_mut-2.ensures.value g.E.Item.total c.self.inside.sums.items c.sum.result c.self.invariant.0 (c.sum.ensures ∙ rw (c.as_slice.ensures.value, c.swap.ensures.x_after) refl),
      rw made (have_set g.E.Item.CAP c.args.self.now c.args.place c.len-count.result c.args.items.now.items whole c.requires (omega arith) (omega arith) may),
    )

pub returns-clause-made : goal.returns-clause-made
returns-clause-made g c = λ _.
    put_other c.self.inside.leaves.items c.args.self.now c.self.view_is c.args.place c.requires c.index_mut-2.result.now c.swap.new.x c.index_mut-2.ensures.value c.args.items.now.items (rw c.swap.ensures.x_after refl)
