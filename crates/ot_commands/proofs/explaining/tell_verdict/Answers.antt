use Rattle.std.proofs.Common.{◌∙◌, ◌++◌, List, ℕ, subst, inl}
use Rattle.std.proofs.KnownBytes.{Keeps-refl}
use Rattle.ot_report.specs.Verdicts.{verdict_line}
use Rattle.ot_report.specs.Words.{verdict_words}
use Rattle.streams.specs.Outcomes.{Puts}
use Rattle.ot_commands.proofs.explaining.tell_verdict.Goals as goal

pub returns : goal.returns
returns g c =
    let contents = g.O.Write.contents in
    let verdict = c.in-Ok.verdict in
    let written = subst (λ (bytes : List ℕ). Puts c.status_of.result bytes c.give.result (contents c.args.output.now) (contents c.give.new.output) (g.O.Sink.failed c.give.new.output)) (c.as_bytes.ensures.value ∙ c.in-Ok-verdict_text.ensures) c.give.ensures in
    let given = subst (λ (right : ℕ). Puts right (verdict_line verdict ++ verdict_words c.args.trace.now verdict) c.give.result (contents c.args.output.now) (contents c.give.new.output) (g.O.Sink.failed c.give.new.output)) c.status_of.ensures written in
    inl (record {
      verdict = verdict;
      is_verdict = c.in-Ok.ensures.verdict;
      gives = (given, Keeps-refl (g.F.Write.contents c.args.faults.now));
    })
