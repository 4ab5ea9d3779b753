use Rattle.ot_console.proofs.replies.print_reply.Goals as goal

pub returns-in_ok-lines-in-Shown-clause-ok : goal.returns-in_ok-lines-in-Shown-clause-ok
returns-in_ok-lines-in-Shown-clause-ok c = rw (c.in-Shown.is, ← c.machine.ensures) c.in_ok-lines-in-Shown.ensures
