use Rattle.std.proofs.Common.{◌+◌, ap, sym, ◌∙◌}
use Rattle.ot_generate.proofs.Owing.{left_more}
use Rattle.ot_generate.proofs.walk.left.Goals as goal

pub loop-client-preserved : goal.loop-client-preserved
loop-client-preserved c =
    let more = left_more c.args.machine.now c.loop-client.client c.work-left.result c.work-left.ensures in
    ap (λ n. n + c.work-left.result) c.loop-client.invariant ∙ sym more.0
