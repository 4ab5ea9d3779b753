use Rattle.std.proofs.Common.{subst}
use Rattle.std.proofs.KnownBytes.{Keeps-refl}
use Rattle.streams.specs.Outcomes.{Complains}
use Rattle.ot_asm.specs.declared.fault.AsmFault.{AsmFault}
use Rattle.ot_commands.specs.Answered.{session_value}
use Rattle.ot_commands.specs.Faults.{line_fault}
use Rattle.ot_commands.proofs.Judged.{broke_off, judged}
use Rattle.ot_commands.proofs.conforming.judge.Goals as goal

pub returns-in-Ok : goal.returns-in-Ok
returns-in-Ok g c =
    judged c.args.sparse c.args.json (g.I.Source.failed c.compare_lines.new.reader) (session_value c.args.session.now) c.args.earlier (g.I.Read.remaining c.args.input.now) c.in-Ok.compared c.write_verdict.result _ c.in-Ok.ensures.ok c.in-Ok.ensures.unknown c.write_verdict.ensures

pub returns-in-Err : goal.returns-in-Err
returns-in-Err g c =
    broke_off c.args.sparse c.args.json (g.I.Source.failed c.compare_lines.new.reader) (session_value c.args.session.now) c.args.earlier (g.I.Read.remaining c.args.input.now) c.in-Err.stop _ c.in-Err.ensures.err (Keeps-refl (g.O.Write.contents c.args.output.now)) c.in-Err.ensures.cause
    (subst (λ (fault : AsmFault). Complains (line_fault fault) (g.F.Write.contents c.args.faults.now) (g.F.Write.contents c.complain_of_line.new.faults) (g.F.Sink.failed c.complain_of_line.new.faults)) c.stop_fault.ensures c.complain_of_line.ensures.line)
