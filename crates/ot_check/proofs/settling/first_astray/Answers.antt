use Rattle.std.proofs.Common.{sym, ◌∙◌, ap, arith, Some}
use Rattle.ot_check.specs.Convergence.{astray_at}
use Rattle.ot_check.proofs.FirstAnswer.{first-here, first-later, first-end}
use Rattle.ot_check.proofs.settling.first_astray.Goals as goal

pub returns-in-Some : goal.returns-in-Some
returns-in-Some c =
    let s = c.args.machine.now in
    sym (c.loop-client.invariant ∙ first-here (astray_at s) s.clients c.loop-client.client _ (c.astray_at.ensures ∙ ap Some c.in-Some.is))

pub loop-client-preserved : goal.loop-client-preserved
loop-client-preserved c =
    let s = c.args.machine.now in
    c.loop-client.invariant ∙ first-later (astray_at s) s.clients c.loop-client.client (c.astray_at.ensures ∙ ap Some c.in_default.is)

pub returns : goal.returns
returns c =
    let s = c.args.machine.now in
    sym (c.loop-client.invariant ∙ first-end (astray_at s) s.clients c.loop-client.client (omega arith))
