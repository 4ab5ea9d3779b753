use Rattle.std.proofs.Common.{arith}
use Rattle.ot_text.proofs.Writing.{kept_part}
use Rattle.ot_text.proofs.writer.Writer.keep_part.Goals as goal

pub returns-clause-written : goal.returns-clause-written
returns-clause-written g c =
    kept_part g.T.Item.CAP g.T.Item.total c.args.old.now c.args.self.now _ c.min-step.result c.rest-rest.result.now c.requires.writer c.rest-rest.ensures.front (omega arith) c.in_ok-extend.ensures c.advance.ensures.inside c.advance.ensures.left c.advance.ensures.later
