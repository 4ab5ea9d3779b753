use Rattle.std.proofs.Common.{◌∙◌, List, ℕ, inl, inr, refl, subst}
use Rattle.std.proofs.KnownBytes.{Keeps-refl}
use Rattle.streams.specs.Outcomes.{Streams}
use Rattle.ot_asm.specs.Comments.{Said, comments_of}
use Rattle.ot_commands.specs.Explains.{MayExplain}
use Rattle.ot_commands.proofs.telling.explain_text.Goals as goal

pub returns-in_default : goal.returns-in_default
returns-in_default g c = inr (c.in-Ok.schedule, c.in-Ok.ensures.ok, inr (inr (refl, inl (Keeps-refl (g.O.Write.contents c.args.output.now)), c.complain_of_memory.ensures.line)))

pub returns-in_default-comments_of : goal.returns-in_default-comments_of
returns-in_default-comments_of g c = inr (c.in-Ok.schedule, c.in-Ok.ensures.ok, inr (inr (refl, inl (Keeps-refl (g.O.Write.contents c.args.output.now)), c.complain_of_memory-in_default-comments_of.ensures.line)))

pub returns-in-Ok-comments_of : goal.returns-in-Ok-comments_of
returns-in-Ok-comments_of g c =
    let streams : Streams =
    record {
      output = g.O.Write.contents c.args.output.now;
      output' = g.O.Write.contents c.write_words.new.output;
      broken = g.O.Sink.failed c.write_words.new.output;
      faults = g.F.Write.contents c.args.faults.now;
      faults' = g.F.Write.contents c.write_words.new.faults;
      faults_broken = g.F.Sink.failed c.write_words.new.faults;
    } in
    inr (
      c.in-Ok.schedule,
      c.in-Ok.ensures.ok,
      subst (λ (lines : List ℕ). MayExplain lines (comments_of c.args.text.now) c.in-Ok.schedule c.write_words.result streams) (c.as_slice.ensures.value ∙ c.in-Ok-places.ensures)
          (subst (λ (said : Said). MayExplain c.as_slice.result.now said c.in-Ok.schedule c.write_words.result streams) c.in-Ok-comments_of.ensures c.write_words.ensures),
    )
