use Rattle.std.proofs.Common.{length, arith}
use Rattle.ot_asm.proofs.Runs.{neither_below}
use Rattle.ot_asm.proofs.passing.cut_before.Goals as goal

pub returns-in-Some-clause-neither : goal.returns-in-Some-clause-neither
returns-in-Some-clause-neither c =
    let first = c.in-Some.ensures in
    rw c.split_at.ensures.front (neither_below c.args.first c.args.second c.args.text.now c.in-Some.at (omega (arith, first.0.high)) first.0.before)

pub returns-in-None-clause-neither : goal.returns-in-None-clause-neither
returns-in-None-clause-neither c =
    let text = c.args.text.now in
    rw c.split_at-in-None.ensures.front (neither_below c.args.first c.args.second text (length text) (omega arith) c.in-None.ensures)
