use Rattle.std.proofs.Common.{sym, ◌∙◌, ap, arith, Some}
use Rattle.ot_check.specs.Convergence.{unsettled_at}
use Rattle.ot_check.proofs.FirstAnswer.{first-here, first-later, first-end}
use Rattle.ot_check.proofs.settling.first_unsettled.Goals as goal

pub returns-in-Some-clause-value : goal.returns-in-Some-clause-value
returns-in-Some-clause-value c =
    let s = c.args.machine.now in
    sym (c.loop-client.invariant ∙ first-here (unsettled_at s) s.clients c.loop-client.client _ (c.unsettled_at.ensures ∙ ap Some c.in-Some.is))

pub loop-client-preserved : goal.loop-client-preserved
loop-client-preserved c =
    let s = c.args.machine.now in
    c.loop-client.invariant ∙ first-later (unsettled_at s) s.clients c.loop-client.client (c.unsettled_at.ensures ∙ ap Some c.in_default.is)

pub returns-clause-value : goal.returns-clause-value
returns-clause-value c =
    let s = c.args.machine.now in
    sym (c.loop-client.invariant ∙ first-end (unsettled_at s) s.clients c.loop-client.client (omega arith))
