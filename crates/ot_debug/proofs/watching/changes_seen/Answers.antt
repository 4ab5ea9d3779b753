use Rattle.ot_debug.proofs.Foretelling.{list_stays, phase_stays}
use Rattle.ot_debug.proofs.watching.changes_seen.Goals as goal

pub returns-else-names : goal.returns-else-names
returns-else-names c =
    rw (c.in-Doc.is, c.if-names.false)
    (list_stays c.args.machine.now c.args.instr.now c.in-Doc.client (λ on same. let e = c.names.ensures.1 same in let f = c.if-names.false in absurd (cc)))

pub returns-else-names-2 : goal.returns-else-names-2
returns-else-names-2 c =
    rw (c.in-State.is, c.if-names-2.false)
    (phase_stays c.args.machine.now c.args.instr.now c.in-State.client (λ on same. let e = c.names-in-State.ensures.1 same in let f = c.if-names-2.false in absurd (cc)))
