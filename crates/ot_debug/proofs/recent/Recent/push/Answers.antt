use Rattle.ot_debug.specs.Stepping.{undos_in}
use Rattle.ot_debug.proofs.recent.Recent.push.Goals as goal

pub returns-clause-more : goal.returns-clause-more
returns-clause-more c =
    let newest = c.make_room.ensures.rest in
    record { gone = newest.gone; rest = undos_in c.make_room.new.self; were = newest.were; are = c.add.ensures.more }
