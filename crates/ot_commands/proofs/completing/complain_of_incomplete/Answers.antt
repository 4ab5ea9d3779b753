use Rattle.std.proofs.Common.{◌∙◌, List, inl, subst, ℕ}
use Rattle.streams.specs.Streams.{Writes}
use Rattle.ot_commands.proofs.completing.complain_of_incomplete.Goals as goal

pub returns-in-Ok : goal.returns-in-Ok
returns-in-Ok g c =
    rw c.in-Refused.is
    (inl (
    subst (λ (line : List ℕ). Writes (g.F.Write.contents c.args.faults.now) (g.F.Write.contents c.complain.new.faults) (g.F.Sink.failed c.complain.new.faults) line)
    (c.as_str.ensures.value ∙ c.in-Ok.ensures) c.complain.ensures.line
    ))

pub returns-in-TooMany : goal.returns-in-TooMany
returns-in-TooMany g c = rw c.in-TooMany.is (inl c.complain-in-TooMany.ensures.line)
