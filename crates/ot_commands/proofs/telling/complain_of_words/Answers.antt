use Rattle.std.proofs.Common.{◌∙◌, ℕ, List, inl, subst}
use Rattle.streams.specs.Streams.{Writes}
use Rattle.ot_commands.proofs.telling.complain_of_words.Goals as goal

pub returns-in-Ok-clause-line : goal.returns-in-Ok-clause-line
returns-in-Ok-clause-line g c =
    let contents = g.F.Write.contents in
    let written = c.complain.ensures.line in
    inl (subst (λ (line : List ℕ). Writes (contents c.args.faults.now) (contents c.complain.new.faults) (g.F.Sink.failed c.complain.new.faults) line) (c.as_str.ensures.value ∙ c.in-Ok.ensures) written)
