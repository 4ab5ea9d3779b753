use Rattle.std.proofs.Common.{false}
use Rattle.ot_commands.specs.Ran.{MayReport}
use Rattle.ot_commands.proofs.Refused.{of_text}
use Rattle.ot_commands.proofs.running.run_text.Goals as goal

pub returns-then-json : goal.returns-then-json
returns-then-json g c = rw c.if-json.true c.run_whole.ensures

pub returns-in-Ok : goal.returns-in-Ok
returns-in-Ok g c =
    rw c.if-json.false
    (of_text (MayReport false) (g.I.Read.remaining c.args.input.now) (g.I.Source.failed c.assemble_from.new.reader) c.in-Ok.schedule c.report.result _ c.in-Ok.ensures.ok c.report.ensures)
