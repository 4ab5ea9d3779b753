use Rattle.ot_generate.proofs.Moving.{has_spare_open, may_read_server}
use Rattle.ot_generate.proofs.walk.Walk.read_last.Goals as goal

pub push-requires : goal.push-requires
push-requires c =
    let spare = has_spare_open c.args.self.now c.keeps.ensures c.requires.is_open c.requires.room in
    may_read_server c.args.self.now spare.0 c.keeps.ensures spare.1 spare.2
