use Rattle.std.proofs.Common.{sym, subst}
use Rattle.ot_model.proofs.Steps.{opening_sound}
use Rattle.ot_generate.specs.Walks.{IsWalk}
use Rattle.ot_generate.proofs.Walking.{begins, same_walk}
use Rattle.ot_generate.proofs.walk.Walk.new.Goals as goal

pub invariant_of-result : goal.invariant_of-result
invariant_of-result c =
    let e = same_walk _ _ _ _ c.args.room c.args.is_open c.in-Ok.ensures.ok c.in_ok-machine.ensures in
    subst IsWalk (sym e) (begins c.args.clients c.args.present c.args.room c.args.start.now c.args.is_open c.requires.clients.2 c.requires.room
    (opening_sound c.args.clients c.args.present c.args.start.now c.requires.clients.1 c.requires.clients.2 c.requires.start))
