use Rattle.ot_commands.proofs.Looped.{converses, breaks_off}
use Rattle.ot_commands.proofs.debugging.answer_commands.Goals as goal

pub returns-in-Ok-command_loop : goal.returns-in-Ok-command_loop
returns-in-Ok-command_loop g c =
    rw c.loop_status.ensures
    (converses c.args.schedule c.in-Ok.debugger c.command_loop.new.debugger c.in-Ok-command_loop.faulted (g.I.Read.remaining c.args.input.now) c.args.earlier
    (g.O.Write.contents c.args.output.now) (g.O.Write.contents c.command_loop.new.writer) (g.F.Write.contents c.args.faults.now) (g.I.Source.failed c.command_loop.new.reader) (g.O.Sink.failed c.command_loop.new.writer) (g.F.Sink.failed c.args.faults.now) c.in-Ok.ensures.ok c.in-Ok-command_loop.ensures.ok)

pub returns : goal.returns
returns g c =
    breaks_off c.args.schedule c.in-Ok.debugger c.command_loop.new.debugger c.in-Err.stop (g.I.Read.remaining c.args.input.now) (g.I.Read.remaining c.command_loop.new.reader) c.args.earlier
    (g.O.Write.contents c.args.output.now) (g.O.Write.contents c.command_loop.new.writer) (g.F.Write.contents c.args.faults.now) (g.F.Write.contents c.complain_of_stop.new.faults) (g.I.Source.failed c.command_loop.new.reader) (g.O.Sink.failed c.command_loop.new.writer) (g.F.Sink.failed c.complain_of_stop.new.faults) c.in-Ok.ensures.ok c.in-Err.ensures.err c.in-Err.ensures.cause c.complain_of_stop.ensures
