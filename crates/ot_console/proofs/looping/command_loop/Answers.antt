use Rattle.std.proofs.Common.{◌<◌, arith}
use Rattle.ot_console.proofs.Loops.{ended, one_more, write_stopped}
use Rattle.ot_console.proofs.looping.command_loop.Goals as goal

pub returns-in-Ok-false-clause-ok : goal.returns-in-Ok-false-clause-ok
returns-in-Ok-false-clause-ok g c =
    let remaining = g.R.Read.remaining in
    let contents = g.W.Write.contents in
    let none = rw c.in-Ok-false.field-0-test at c.in-Ok-false.ensures.ok in
    ended c.args.debugger.now c.loop-taken.debugger c.loop-taken.faulted c.loop-taken.taken
    (remaining c.args.reader.now) (remaining c.loop-taken.reader) (remaining c.next_line.new.self)
    (contents c.args.writer.now) (contents c.loop-taken.writer)
    c.next_line.new.line.items c.loop-taken.invariant.looped none

pub returns-in-Err-clause-err : goal.returns-in-Err-clause-err
returns-in-Err-clause-err g c =
    let remaining = g.R.Read.remaining in
    let contents = g.W.Write.contents in
    let more = rw c.in-Ok-true.field-0-test at c.in-Ok-true.ensures.ok in
    let turn = rw c.as_slice.ensures.value at c.in-Err.ensures.err in
    write_stopped c.args.debugger.now c.loop-taken.debugger c.answer.new.debugger c.loop-taken.faulted c.loop-taken.taken c.args.earlier
    (remaining c.args.reader.now) (remaining c.loop-taken.reader) (remaining c.next_line.new.self)
    (contents c.args.writer.now) (contents c.loop-taken.writer) (contents c.answer.new.writer)
    c.next_line.new.line.items c.loop-taken.invariant.looped more turn

pub loop-taken-preserved : goal.loop-taken-preserved
loop-taken-preserved g c =
    let remaining = g.R.Read.remaining in
    let contents = g.W.Write.contents in
    let more = rw c.in-Ok-true.field-0-test at c.in-Ok-true.ensures.ok in
    let turn = rw c.as_slice.ensures.value at c.in-Ok.ensures.ok in
    let less : g.R.Source.left c.next_line.new.self < g.R.Source.left c.loop-taken.reader = c.in-Ok-true.ensures.less c.in-Ok-true.field-0-test in
    record {
      looped = one_more c.args.debugger.now c.loop-taken.debugger c.answer.new.debugger c.loop-taken.faulted c.in-Ok.fault c.loop-taken.taken
          (remaining c.args.reader.now) (remaining c.loop-taken.reader) (remaining c.next_line.new.self)
          (contents c.args.writer.now) (contents c.loop-taken.writer) (contents c.answer.new.writer)
          c.next_line.new.line.items c.loop-taken.invariant.looped more turn;
      few = omega (arith, less, c.loop-taken.invariant.few);
    }
