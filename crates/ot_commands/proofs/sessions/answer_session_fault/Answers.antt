use Rattle.std.proofs.Common.{List, ℕ, inl, inr, refl, subst, ◌∙◌}
use Rattle.std.proofs.KnownBytes.{Keeps-refl}
use Rattle.streams.proofs.Parts.{still_complains}
use Rattle.streams.specs.Outcomes.{Puts}
use Rattle.ot_commands.proofs.sessions.answer_session_fault.Goals as goal

pub returns-in-Ok : goal.returns-in-Ok
returns-in-Ok g c =
    let contents = g.O.Write.contents in
    inl (
      subst (λ (bytes : List ℕ). Puts 1 bytes c.give.result (contents c.args.output.now) (contents c.give.new.output) (g.O.Sink.failed c.give.new.output)) (c.as_bytes.ensures.value ∙ c.in-Ok.ensures) c.give.ensures,
      c.complain_of_session.ensures.line,
    )

pub returns-in-Err : goal.returns-in-Err
returns-in-Err g c =
    inr (record {
      told = g.F.Write.contents c.complain_of_session.new.faults;
      status_is = refl;
      output = Keeps-refl (g.O.Write.contents c.args.output.now);
      line = still_complains _ _ _ (g.F.Sink.failed c.complain_of_memory.new.faults) _ c.complain_of_session.ensures.line c.complain_of_memory.ensures.failed;
      behind = c.complain_of_memory.ensures.line;
    })
