use Rattle.std.proofs.Common.{◌∙◌, List, ℕ, inl, subst}
use Rattle.streams.specs.Outcomes.{Streams}
use Rattle.ot_commands.specs.Explains.{ExplainsText}
use Rattle.ot_commands.proofs.telling.explain_canonical.Goals as goal

pub returns : goal.returns
returns g c =
    let streams : Streams =
    record {
      output = g.O.Write.contents c.args.output.now;
      output' = g.O.Write.contents c.explain_text.new.output;
      broken = g.O.Sink.failed c.explain_text.new.output;
      faults = g.F.Write.contents c.args.faults.now;
      faults' = g.F.Write.contents c.explain_text.new.faults;
      faults_broken = g.F.Sink.failed c.explain_text.new.faults;
    } in
    inl (subst (λ (text : List ℕ). ExplainsText text c.explain_text.result streams) (c.as_bytes.ensures.value ∙ c.in-Ok.ensures.text) c.explain_text.ensures)
