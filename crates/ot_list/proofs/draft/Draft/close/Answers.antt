use Rattle.std.proofs.Common.{arith}
use Rattle.ot_list.specs.Written.{front_of}
use Rattle.ot_list.proofs.Leaved.{may_end_by_last, last_small}
use Rattle.ot_list.proofs.draft.Draft.close.Goals as goal

pub close_alone-requires-clause-end : goal.close_alone-requires-clause-end
close_alone-requires-clause-end g c = may_end_by_last g.E.Item.CAP (front_of c.args.old.now c.args.self.now) c.args.count c.requires.draft.leaves (λ some. omega arith)

pub overflow_add-before : goal.overflow_add-before
overflow_add-before g c =
    let small = last_small g.E.Item.CAP (front_of c.args.old.now c.args.self.now) c.requires.draft.leaves in
    let bound = g.met.E.Item.bounds.2 in
    omega (arith, small, bound)

pub close_alone-requires-then-before-count-clause-end : goal.close_alone-requires-then-before-count-clause-end
close_alone-requires-then-before-count-clause-end g c = may_end_by_last g.E.Item.CAP (front_of c.args.old.now c.args.self.now) c.args.count c.requires.draft.leaves (λ some. omega arith)

pub returns : goal.returns
returns g c = c.close_joined.ensures
