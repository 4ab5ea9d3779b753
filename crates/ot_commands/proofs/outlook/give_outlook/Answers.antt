use Rattle.std.proofs.Common.{◌∙◌, List, ℕ, subst, inl}
use Rattle.std.proofs.KnownBytes.{Keeps-refl}
use Rattle.ot_explain.specs.OutlookJson.{outlook_json}
use Rattle.streams.specs.Outcomes.{Puts}
use Rattle.ot_commands.proofs.outlook.give_outlook.Goals as goal

pub returns : goal.returns
returns g c =
    let contents = g.O.Write.contents in
    let written = subst (λ (bytes : List ℕ). Puts c.status_of.result bytes c.give.result (contents c.args.output.now) (contents c.give.new.output) (g.O.Sink.failed c.give.new.output)) (c.as_bytes.ensures.value ∙ c.in-Ok-outlook_json.ensures) c.give.ensures in
    let given = subst (λ (right : ℕ). Puts right (outlook_json c.args.schedule.now c.in-Ok.ending) c.give.result (contents c.args.output.now) (contents c.give.new.output) (g.O.Sink.failed c.give.new.output)) c.status_of.ensures written in
    inl (record {
      ending = c.in-Ok.ending;
      is_ending = c.in-Ok.ensures;
      gives = (given, Keeps-refl (g.F.Write.contents c.args.faults.now));
    })
