use Rattle.std.proofs.KnownBytes.{Keeps-refl}
use Rattle.ot_commands.proofs.Walking.{answers_each, each_broken, each_refused, each_wants}
use Rattle.ot_commands.proofs.many.compare_each.Goals as goal

pub returns-in-Ok : goal.returns-in-Ok
returns-in-Ok g c = answers_each c.args.sparse c.args.json (g.I.Source.failed c.write_each.new.input) (g.I.Read.remaining c.args.input.now) c.in-Ok.status _ c.in-Ok.ensures.ok (Keeps-refl (g.F.Write.contents c.args.faults.now))

pub returns-in-Err-Refused : goal.returns-in-Err-Refused
returns-in-Err-Refused g c =
    each_refused c.args.sparse c.args.json (g.I.Source.failed c.write_each.new.input) (g.I.Read.remaining c.args.input.now) c.in-Err-Refused.number c.in-Err-Refused.fault (g.O.Sink.failed c.write_each.new.output) (g.O.Write.contents c.write_each.new.output) c.tell_session_fault.result _ (rw c.in-Err-Refused.field-0-is at c.in-Err-Refused.ensures.err) c.tell_session_fault.ensures

pub returns-in-Err-Memory : goal.returns-in-Err-Memory
returns-in-Err-Memory g c =
    each_wants c.args.sparse c.args.json (g.I.Source.failed c.write_each.new.input) (g.I.Read.remaining c.args.input.now) (g.O.Sink.failed c.write_each.new.output) _ (rw c.in-Err-Memory.field-0-is at c.in-Err-Memory.ensures.err) c.complain_of_memory.ensures.line

pub returns-in-Err-Output : goal.returns-in-Err-Output
returns-in-Err-Output g c =
    each_broken c.args.sparse c.args.json (g.I.Source.failed c.write_each.new.input) (g.I.Read.remaining c.args.input.now) _ (rw c.in-Err-Output.field-0-is at c.in-Err-Output.ensures.err) (Keeps-refl (g.F.Write.contents c.args.faults.now))
