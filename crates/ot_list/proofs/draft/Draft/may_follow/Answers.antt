use Rattle.std.proofs.Common.{arith}
use Rattle.ot_list.specs.Written.{front_of}
use Rattle.ot_list.proofs.Leaved.{last_small}
use Rattle.ot_list.proofs.draft.Draft.may_follow.Goals as goal

pub overflow_add-result-else-last-eq0 : goal.overflow_add-result-else-last-eq0
overflow_add-result-else-last-eq0 g c =
    let small = last_small g.E.Item.CAP (front_of c.args.old.now c.args.self.now) c.requires.draft.leaves in
    let bound = g.met.E.Item.bounds.2 in
    omega (arith, small, bound)
