use Rattle.ot_commands.proofs.Inputs.{explained}
use Rattle.ot_commands.proofs.telling.run_explain.Goals as goal

pub returns-in-Ok : goal.returns-in-Ok
returns-in-Ok g c =
    explained (g.I.Read.remaining c.args.input.now) (g.I.Source.failed c.read_whole.new.self) c.in-Ok.text.items c.as_slice.result.now c.explain_text.result
    (record {
      output = g.O.Write.contents c.args.output.now;
      output' = g.O.Write.contents c.explain_text.new.output;
      broken = g.O.Sink.failed c.explain_text.new.output;
      faults = g.F.Write.contents c.args.faults.now;
      faults' = g.F.Write.contents c.explain_text.new.faults;
      faults_broken = g.F.Sink.failed c.explain_text.new.faults;
    })
    c.in-Ok.ensures.bytes c.as_slice.ensures.value c.explain_text.ensures
