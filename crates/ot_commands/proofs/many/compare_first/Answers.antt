use Rattle.std.proofs.Common.{refl}
use Rattle.std.proofs.KnownBytes.{Keeps-refl}
use Rattle.ot_commands.proofs.Walking.{answers_found, answers_refused, answers_wants}
use Rattle.ot_commands.proofs.many.compare_first.Goals as goal

pub returns-in-Ok : goal.returns-in-Ok
returns-in-Ok g c = answers_found c.args.sparse c.args.json (g.I.Source.failed c.find_first.new.input) (g.I.Read.remaining c.args.input.now) c.in-Ok.found c.write_found.result _ c.in-Ok.ensures.ok c.write_found.ensures

pub returns-in-Err-Refused : goal.returns-in-Err-Refused
returns-in-Err-Refused g c =
    answers_refused c.args.sparse c.args.json (g.I.Source.failed c.find_first.new.input) (g.I.Read.remaining c.args.input.now) c.in-Err-Refused.number c.in-Err-Refused.fault c.tell_session_fault.result _ (rw c.in-Err-Refused.field-0-is at c.in-Err-Refused.ensures.err) c.tell_session_fault.ensures

pub returns-in-Err-Memory : goal.returns-in-Err-Memory
returns-in-Err-Memory g c =
    answers_wants c.args.sparse c.args.json (g.I.Source.failed c.find_first.new.input) (g.I.Read.remaining c.args.input.now) 1 _ (refl, Keeps-refl (g.O.Write.contents c.args.output.now), c.complain_of_memory.ensures.line)
