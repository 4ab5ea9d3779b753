use Rattle.std.proofs.Common.{◌∙◌, List, ℕ, subst, inl}
use Rattle.std.proofs.KnownBytes.{Keeps-refl}
use Rattle.streams.specs.Outcomes.{Puts}
use Rattle.ot_commands.proofs.converting.give_image.Goals as goal

pub returns : goal.returns
returns g c =
    let contents = g.O.Write.contents in
    let given = subst (λ (bytes : List ℕ). Puts 0 bytes c.give.result (contents c.args.output.now) (contents c.give.new.output) (g.O.Sink.failed c.give.new.output)) (c.as_slice.ensures.value ∙ c.in-Ok.ensures.bytes) c.give.ensures in
    inl (given, Keeps-refl (g.F.Write.contents c.args.faults.now))
