use Rattle.std.proofs.Common.{◌∙◌, List, inl, subst, ℕ}
use Rattle.streams.specs.Streams.{Writes}
use Rattle.ot_commands.proofs.faults.complain_of_byte.Goals as goal

pub returns-in-Ok-clause-line : goal.returns-in-Ok-clause-line
returns-in-Ok-clause-line g c =
    inl (
    subst (λ (line : List ℕ). Writes (g.F.Write.contents c.args.faults.now) (g.F.Write.contents c.complain.new.faults) (g.F.Sink.failed c.complain.new.faults) line)
    (c.as_str.ensures.value ∙ c.in-Ok.ensures) c.complain.ensures.line
    )
