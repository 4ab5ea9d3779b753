use Rattle.ot_commands.proofs.ListedSessions.{lists_all, lists_broken, lists_short}
use Rattle.ot_commands.proofs.listing.list_sessions.Goals as goal

pub returns-in-Ok : goal.returns-in-Ok
returns-in-Ok g c =
    let faults = g.F.Write.contents c.args.faults.now in
    lists_all c.args.space.now c.args.part.now (g.O.Write.contents c.args.output.now) (g.O.Write.contents c.print_sessions.new.output) faults faults (g.O.Sink.failed c.print_sessions.new.output) (g.F.Sink.failed c.args.faults.now) c.in-Ok.ensures.ok

pub returns-in-Err-Output : goal.returns-in-Err-Output
returns-in-Err-Output g c =
    let faults = g.F.Write.contents c.args.faults.now in
    lists_broken c.args.space.now c.args.part.now (g.O.Write.contents c.args.output.now) (g.O.Write.contents c.print_sessions.new.output) faults faults (g.O.Sink.failed c.print_sessions.new.output) (g.F.Sink.failed c.args.faults.now)
    (c.in-Err-Output.ensures.cause c.in-Err-Output.field-0-is) c.in-Err-Output.ensures.err

pub returns-in-Err-Memory : goal.returns-in-Err-Memory
returns-in-Err-Memory g c =
    lists_short c.args.space.now c.args.part.now (g.O.Write.contents c.args.output.now) (g.O.Write.contents c.print_sessions.new.output) (g.F.Write.contents c.args.faults.now) (g.F.Write.contents c.complain_of_memory.new.faults) (g.O.Sink.failed c.print_sessions.new.output) (g.F.Sink.failed c.complain_of_memory.new.faults)
    c.in-Err-Memory.ensures.err c.complain_of_memory.ensures.line
