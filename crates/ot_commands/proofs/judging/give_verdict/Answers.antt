use Rattle.std.proofs.Common.{◌∙◌, List, ℕ, subst, inl}
use Rattle.std.proofs.KnownBytes.{Keeps-refl}
use Rattle.ot_report.specs.Members.{verdict_text}
use Rattle.streams.specs.Outcomes.{Puts}
use Rattle.ot_commands.proofs.judging.give_verdict.Goals as goal

pub returns : goal.returns
returns g c =
    let contents = g.O.Write.contents in
    let written = subst (λ (bytes : List ℕ). Puts c.status_of.result bytes c.give.result (contents c.args.output.now) (contents c.give.new.output) (g.O.Sink.failed c.give.new.output)) (c.as_bytes.ensures.value ∙ c.in-Ok-verdict_text.ensures) c.give.ensures in
    let given = subst (λ (right : ℕ). Puts right (verdict_text c.args.json c.in-Ok.verdict) c.give.result (contents c.args.output.now) (contents c.give.new.output) (g.O.Sink.failed c.give.new.output)) c.status_of.ensures written in
    inl (record {
      verdict = c.in-Ok.verdict;
      is_verdict = c.in-Ok.ensures.verdict;
      gives = (given, Keeps-refl (g.F.Write.contents c.args.faults.now));
    })
