use Rattle.std.proofs.Common.{length, arith}
use Rattle.ot_server.proofs.Transformed.{slice_rest, chain_drop}
use Rattle.ot_server.proofs.Server.after_log.Goals as goal

pub transform_after-requires-clause-chain : goal.transform_after-requires-clause-chain
transform_after-requires-clause-chain g c =
    rw (slice_rest c.self.inside.log.items c.deref.result.now c.args.revision c.deref.ensures.value (omega arith), c.len-end.ensures.value)
    (chain_drop c.self.inside.log.items (length c.self.inside.document) c.args.revision c.self.invariant.0)
