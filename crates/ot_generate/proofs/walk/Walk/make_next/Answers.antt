use Rattle.ot_generate.proofs.Draining.{may_next}
use Rattle.ot_generate.proofs.walk.Walk.make_next.Goals as goal

pub push-requires : goal.push-requires
push-requires c = may_next c.args.self.now c.args.instr c.keeps.ensures c.requires.is_open c.requires.room c.requires.next
