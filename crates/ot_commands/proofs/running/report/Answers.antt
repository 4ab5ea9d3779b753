use Rattle.std.proofs.Common.{subst}
use Rattle.streams.specs.Streams.{IsCaused}
use Rattle.ot_report.specs.Written.{WritesReportUpTo}
use Rattle.streams.specs.declared.OutputFault.{OutputFault}
use Rattle.ot_commands.proofs.Ran.{broken_off, reported}
use Rattle.ot_commands.proofs.running.report.Goals as goal

pub returns-in-Ok : goal.returns-in-Ok
returns-in-Ok g c =
    reported c.args.json c.args.schedule.now c.in-Ok.stopped c.status_of.result (g.O.Write.contents c.args.output.now) (g.O.Write.contents c.write_report.new.output) (g.F.Write.contents c.args.faults.now) (g.O.Sink.failed c.write_report.new.output) (g.F.Sink.failed c.args.faults.now)
    c.status_of.ensures c.in-Ok.ensures.ok

pub returns-in-Err-WriteFault : goal.returns-in-Err-WriteFault
returns-in-Err-WriteFault g c =
    let old = g.O.Write.contents c.args.output.now in
    let new = g.O.Write.contents c.write_report.new.output in
    let failed = g.O.Sink.failed c.write_report.new.output in
    broken_off c.args.json c.args.schedule.now old new (g.F.Write.contents c.args.faults.now) failed (g.F.Sink.failed c.args.faults.now)
    (subst (λ (f : OutputFault). IsCaused f failed) c.in-Err-WriteFault.field-0-is c.in-Err-WriteFault.ensures.cause)
    (subst (λ (f : OutputFault). WritesReportUpTo f c.args.json c.args.schedule.now old new) c.in-Err-WriteFault.field-0-is c.in-Err-WriteFault.ensures.err)
