use Rattle.ot_commands.proofs.Taking.{fails_comparing}
use Rattle.ot_commands.proofs.sessions.next_session.Goals as goal

pub returns-clause-err : goal.returns-clause-err
returns-clause-err g c =
    let remaining = g.R.Read.remaining in
    let one = rw c.in-Some.is at c.in_ok-earlier.ensures.ok in
    let two = rw c.in-Some-2.is at c.in_ok-lines.ensures.ok in
    let fails = rw c.as_slice.ensures.value at c.in-Err.ensures.err in
    fails_comparing (g.R.Source.failed c.take_marked-2.new.input) c.args.first c.in-Some.earlier c.in-Some-2.lines (remaining c.args.input.now) (remaining c.take_marked.new.input) (remaining c.take_marked-2.new.input)
    c.take_marked.new.text.items c.take_marked-2.new.text.items c.in-Err.fault one two fails
