use Rattle.std.proofs.Common.{arith}
use Rattle.ot_generate.proofs.Reading.{read_next}
use Rattle.ot_generate.proofs.generating.read_all.Goals as goal

pub loop-client-preserved : goal.loop-client-preserved
loop-client-preserved c =
    read_next c.args.walk.now c.loop-client.walk c.read_client.new.self c.loop-client.client c.loop-client.invariant (omega arith) c.in_ok-read_client.ensures
