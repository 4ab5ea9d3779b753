use Rattle.std.proofs.Common.{arith, refl}
use Rattle.ot_commands.proofs.Walking.{told_on, told_stopped}
use Rattle.ot_commands.proofs.many.write_each.Goals as goal

pub taking-preserved : goal.taking-preserved
taking-preserved g c =
    let remaining = g.I.Read.remaining in
    let contents = g.O.Write.contents in
    let next = rw c.in-Ok-Some.field-0-is at c.in-Ok-Some.ensures.ok in
    let spent = rw c.in-Ok-Some.field-0-is at c.in-Ok-Some.ensures.spent in
    record {
      told = told_on c.args.sparse c.args.json (remaining c.args.input.now) (remaining c.taking.input) (remaining c.next_session.new.input) (contents c.args.output.now) (contents c.taking.output)
          (contents c.write_session.new.output) c.taking.sessions c.taking.first c.in-Ok-Some.lines _ c.taking.conform c.in-Ok.conforms c.in-Ok-Some.session c.taking.invariant.told next c.in-Ok.ensures.ok refl;
      low = omega (arith, spent.0, c.taking.invariant.low);
      few = omega (arith, spent.1, c.taking.invariant.few);
    }

pub returns-in-Err-write_session-clause-err : goal.returns-in-Err-write_session-clause-err
returns-in-Err-write_session-clause-err g c =
    let remaining = g.I.Read.remaining in
    let contents = g.O.Write.contents in
    let next = rw c.in-Ok-Some.field-0-is at c.in-Ok-Some.ensures.ok in
    told_stopped c.args.sparse c.args.json (g.I.Source.failed c.next_session.new.input) (remaining c.args.input.now) (remaining c.taking.input) (remaining c.next_session.new.input)
    (contents c.args.output.now) (contents c.taking.output) (contents c.write_session.new.output) c.taking.sessions c.taking.first c.in-Ok-Some.lines _ c.taking.conform (g.O.Sink.failed c.write_session.new.output) c.in-Ok-Some.session
    c.in-Err-write_session.stop c.taking.invariant.told next c.in-Err-write_session.ensures.err refl
