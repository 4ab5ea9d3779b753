use Rattle.std.proofs.Common.{string_bytes}
use Rattle.ot_commands.proofs.Told.{told}
use Rattle.ot_commands.proofs.explaining.explain_trace.Goals as goal

pub returns : goal.returns
returns g c =
    told (g.I.Read.remaining c.args.input.now) (g.I.Source.failed c.read_whole.new.self) c.in-Ok.bytes.items c.as_slice.result.now c.in-Err-trace_or_reason.reason.fault
    (string_bytes c.in-Err-trace_or_reason.reason.words) (g.O.Write.contents c.args.output.now) (g.O.Sink.failed c.args.output.now) (g.F.Write.contents c.args.faults.now) (g.F.Write.contents c.tell.new.faults) (g.F.Sink.failed c.tell.new.faults)
    c.in-Ok.ensures.bytes c.as_slice.ensures.value c.in-Err-trace_or_reason.ensures.err c.in-Err-trace_or_reason.ensures.reason c.tell.ensures
