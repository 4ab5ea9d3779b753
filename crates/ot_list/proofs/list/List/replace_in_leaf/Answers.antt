use Rattle.std.proofs.Common.{◌≡◌, ◌+◌, ◌-◌, ◌<◌, length, get_or, [], refl, sym, ap, ◌∙◌, arith, get_or-set_same}
use Rattle.ot_list.specs.Leaves.{with_run}
use Rattle.ot_list.proofs.Keeping.{true_false}
use Rattle.ot_list.proofs.Replacing.{have_set, set_small, set_have, length-with_run, leaf_is, put_back, put_replaced, put_sums, is_there, given_err}
use Rattle.ot_list.proofs.list.List.replace_in_leaf.Goals as goal

pub overflow_sub-CAP : goal.overflow_sub-CAP
overflow_sub-CAP g c = omega arith

pub returns-then-items-CAP-clause-only : goal.returns-then-items-CAP-clause-only
returns-then-items-CAP-clause-only g c = λ _ leaves.
    let l = get_or c.args.self.now c.args.leaf [] in
    let small = set_small g.E.Item.CAP c.args.self.now c.args.leaf (with_run l c.args.at c.args.gone c.args.items.now) leaves c.requires.leaf in
    let size : length (with_run l c.args.at c.args.gone c.args.items.now) ≡ (length l - c.args.gone) + length c.args.items.now = length-with_run l c.args.at c.args.gone c.args.items.now c.requires.within in
    omega (arith, small.1, size)

pub may_have-requires-clause-small : goal.may_have-requires-clause-small
may_have-requires-clause-small g c = omega arith

pub returns-then-not-may_have-clause-only : goal.returns-then-not-may_have-clause-only
returns-then-not-may_have-clause-only g c = λ _ leaves.
    let l = get_or c.args.self.now c.args.leaf [] in
    let size : length (with_run l c.args.at c.args.gone c.args.items.now) ≡ (length l - c.args.gone) + length c.args.items.now = length-with_run l c.args.at c.args.gone c.args.items.now c.requires.within in
    let m =
    set_have g.E.Item.CAP c.args.self.now c.args.leaf ((c.size.result - c.args.gone) + length c.args.items.now) (with_run l c.args.at c.args.gone c.args.items.now) leaves c.requires.leaf (omega (arith, size)) in
    let t = c.may_have.ensures.1 m in
    true_false (sym (rw c.if-not-may_have.true at t))

pub invariant_of-self : goal.invariant_of-self
invariant_of-self g c =
    let same = put_back c.self.inside.leaves.items c.args.self.now c.self.view_is c.args.leaf c.requires.leaf c.index_mut.result.now c.replace.new.items c.index_mut.ensures.value c.in_err-replace.ensures.err in
    (rw same c.self.invariant.0, rw same c.self.invariant.1)

pub returns-in_err-replace-clause-err : goal.returns-in_err-replace-clause-err
returns-in_err-replace-clause-err g c =
    let same = put_back c.self.inside.leaves.items c.args.self.now c.self.view_is c.args.leaf c.requires.leaf c.index_mut.result.now c.replace.new.items c.index_mut.ensures.value c.in_err-replace.ensures.err in
    given_err c.from_residual.result (same ∙ c.self.view_is)

pub sum-requires : goal.sum-requires
sum-requires g c =
    let l = get_or c.args.self.now c.args.leaf [] in
    let is : l ≡ c.index_mut.result.now.items = leaf_is c.self.inside.leaves.items c.args.self.now c.self.view_is c.args.leaf c.requires.leaf c.index_mut.result.now c.replace.new.items c.index_mut.ensures.value in
    let there : c.args.leaf < length c.self.inside.leaves.items = omega (arith, is_there c.self.inside.leaves.items c.args.self.now c.self.view_is c.args.leaf c.requires.leaf c.index_mut.result.now c.replace.new.items c.index_mut.ensures.value) in
    let here = c.index.ensures ∙ get_or-set_same c.self.inside.leaves.items c.args.leaf c.replace.new.items c.index.result.now there in
    let size : length (with_run c.index_mut.result.now.items c.args.at c.args.gone c.args.items.now) ≡ (length c.index_mut.result.now.items - c.args.gone) + length c.args.items.now =
    length-with_run c.index_mut.result.now.items c.args.at c.args.gone c.args.items.now (rw is at c.requires.within) in
    rw (c.as_slice.ensures.value, here, c.in_ok-replace.ensures.ok) (omega (arith, size, ap length is))

pub invariant_of-self-2 : goal.invariant_of-self-2
invariant_of-self-2 g c =
    let l = get_or c.args.self.now c.args.leaf [] in
    let is : l ≡ c.index_mut.result.now.items = leaf_is c.self.inside.leaves.items c.args.self.now c.self.view_is c.args.leaf c.requires.leaf c.index_mut.result.now c.replace.new.items c.index_mut.ensures.value in
    let there : c.args.leaf < length c.self.inside.leaves.items = omega (arith, is_there c.self.inside.leaves.items c.args.self.now c.self.view_is c.args.leaf c.requires.leaf c.index_mut.result.now c.replace.new.items c.index_mut.ensures.value) in
    let here = c.index.ensures ∙ get_or-set_same c.self.inside.leaves.items c.args.leaf c.replace.new.items c.index.result.now there in
    let made = put_replaced c.self.inside.leaves.items c.args.self.now c.self.view_is c.args.leaf c.requires.leaf c.index_mut.result.now c.replace.new.items c.index_mut.ensures.value c.args.at c.args.gone c.args.items.now c.in_ok-replace.ensures.ok in
    let whole = rw c.self.view_is at c.self.invariant.1 in
    let size : length (with_run l c.args.at c.args.gone c.args.items.now) ≡ (length l - c.args.gone) + length c.args.items.now = length-with_run l c.args.at c.args.gone c.args.items.now c.requires.within in
    let may = c.may_have.ensures.0 (rw c.if-not-may_have.false refl) in (
      put_sums c.self.inside.leaves.items c.args.self.now c.self.view_is c.args.leaf c.requires.leaf c.index_mut.result.now c.replace.new.items c.index_mut.ensures.value g.E.Item.total c.self.inside.sums.items c.sum.result c.self.invariant.0 (c.sum.ensures ∙ rw (c.as_slice.ensures.value, here) refl),
      rw made (have_set g.E.Item.CAP c.args.self.now c.args.leaf ((c.size.result - c.args.gone) + length c.args.items.now) (with_run l c.args.at c.args.gone c.args.items.now) whole c.requires.leaf (omega (arith, size)) (omega arith) may),
    )

pub returns-clause-made : goal.returns-clause-made
returns-clause-made g c = λ _. put_replaced c.self.inside.leaves.items c.args.self.now c.self.view_is c.args.leaf c.requires.leaf c.index_mut.result.now c.replace.new.items c.index_mut.ensures.value c.args.at c.args.gone c.args.items.now c.in_ok-replace.ensures.ok
