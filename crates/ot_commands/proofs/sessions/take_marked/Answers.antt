use Rattle.std.proofs.Common.{◌≡◌, true, false, arith, refl, rules}
use Rattle.ot_commands.proofs.Taking.{takes_broken, takes_no_mark, takes_none}
use Rattle.ot_commands.proofs.sessions.take_marked.Goals as goal

pub returns-then-taken-eq0-clause-ok : goal.returns-then-taken-eq0-clause-ok
returns-then-taken-eq0-clause-ok g c =
    let remaining = g.R.Read.remaining in
    takes_none (remaining c.args.input.now) (remaining c.keep_part.new.input) c.keep_part.new.text.items c.args.earlier c.in-Ok.taken.lines c.in-Ok.ensures.part (omega arith)

pub returns-else-taken-clause-err : goal.returns-else-taken-clause-err
returns-else-taken-clause-err g c =
    let remaining = g.R.Read.remaining in
    let unmarked : c.in-Ok.taken.is_marked ≡ false = search rules in
    takes_no_mark (g.R.Source.failed c.keep_part.new.input) (remaining c.args.input.now) (remaining c.keep_part.new.input) c.args.earlier c.in-Ok.taken.lines _ c.in-Ok.taken.is_marked
    c.in-Ok.ensures.part c.in-Ok.ensures.marked unmarked refl

pub returns-in-Err-clause-err : goal.returns-in-Err-clause-err
returns-in-Err-clause-err g c =
    let remaining = g.R.Read.remaining in
    rw c.fault_behind.ensures
    (takes_broken (g.R.Source.failed c.keep_part.new.input) (remaining c.args.input.now) c.keep_part.new.text.items c.args.earlier c.in-Err.fault (omega arith) c.in-Err.ensures.err)
