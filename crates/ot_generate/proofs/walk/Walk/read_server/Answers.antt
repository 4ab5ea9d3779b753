use Rattle.std.proofs.Common.{arith}
use Rattle.ot_generate.proofs.Moving.{may_read_server}
use Rattle.ot_generate.proofs.walk.Walk.read_server.Goals as goal

pub returns-clause-some : goal.returns-clause-some
returns-clause-some c = may_read_server c.args.self.now c.args.spare c.keeps.ensures c.requires (omega arith)
