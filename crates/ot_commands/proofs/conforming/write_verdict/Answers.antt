use Rattle.std.proofs.Common.{ℕ, List, inl, subst}
use Rattle.std.proofs.KnownBytes.{Keeps-refl}
use Rattle.streams.specs.Outcomes.{Puts}
use Rattle.ot_commands.specs.Conformed.{answer_status}
use Rattle.ot_commands.proofs.conforming.write_verdict.Goals as goal

pub returns-in-Ok : goal.returns-in-Ok
returns-in-Ok g c =
    let contents = g.O.Write.contents in
    let right : ℕ = answer_status c.args.session.now.comments.now c.args.compared.verdict in
    let put = subst (λ (status : ℕ). Puts status c.as_slice.result.now c.give.result (contents c.args.output.now) (contents c.give.new.output) (g.O.Sink.failed c.give.new.output)) c.answer_status-status.ensures c.give.ensures in
    let written = subst (λ (bytes : List ℕ). Puts right bytes c.give.result (contents c.args.output.now) (contents c.give.new.output) (g.O.Sink.failed c.give.new.output)) c.as_slice.ensures.value put in
    inl (record { bytes = c.in-Ok.bytes.items; is = c.in-Ok.ensures; gives = (written, Keeps-refl (g.F.Write.contents c.args.faults.now)) })
