use Rattle.std.proofs.Common.{◌≡◌, ◌∙◌, ap, List, ℕ, subst, inl}
use Rattle.std.proofs.KnownBytes.{Keeps-refl}
use Rattle.ot_report.specs.Findings.{Found, found_of, found_text}
use Rattle.streams.specs.Outcomes.{Puts}
use Rattle.ot_commands.specs.Checked.{check_status}
use Rattle.ot_commands.proofs.checking.report_findings.Goals as goal

pub returns : goal.returns
returns g c =
    let contents = g.O.Write.contents in
    let found = c.in-Ok.ensures in
    let its = found_of c.args.all c.args.schedule.now found.ending in
    let right : c.check_status.result ≡ check_status its.verdict its.stopped = c.check_status.ensures ∙ ap (λ (f : Found). check_status f.verdict f.stopped) found.is in
    let written = subst (λ (bytes : List ℕ). Puts c.check_status.result bytes c.give.result (contents c.args.output.now) (contents c.give.new.output) (g.O.Sink.failed c.give.new.output)) (c.as_bytes.ensures.value ∙ c.in-Ok-found_text.ensures ∙ ap (found_text c.args.json) found.is) c.give.ensures in
    let given = subst (λ (status : ℕ). Puts status (found_text c.args.json its) c.give.result (contents c.args.output.now) (contents c.give.new.output) (g.O.Sink.failed c.give.new.output)) right written in
    inl (record {
      ending = found.ending;
      is_ending = found.is_ending;
      gives = (given, Keeps-refl (g.F.Write.contents c.args.faults.now));
    })
