use Rattle.ot_commands.proofs.Inputs.{explained_image}
use Rattle.ot_commands.proofs.telling.run_explain_image.Goals as goal

pub returns-in-Ok : goal.returns-in-Ok
returns-in-Ok g c =
    explained_image (g.I.Read.remaining c.args.input.now) (g.I.Source.failed c.read_whole.new.self) c.in-Ok.bytes.items c.as_slice.result.now c.explain_bytes.result
    (record {
      output = g.O.Write.contents c.args.output.now;
      output' = g.O.Write.contents c.explain_bytes.new.output;
      broken = g.O.Sink.failed c.explain_bytes.new.output;
      faults = g.F.Write.contents c.args.faults.now;
      faults' = g.F.Write.contents c.explain_bytes.new.faults;
      faults_broken = g.F.Sink.failed c.explain_bytes.new.faults;
    })
    c.in-Ok.ensures.bytes c.as_slice.ensures.value c.explain_bytes.ensures
