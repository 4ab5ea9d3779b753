use Rattle.std.proofs.Common.{List, refl, subst, ℕ}
use Rattle.streams.proofs.Parts.{still_complains}
use Rattle.std.specs.Prelude.{Option}
use Rattle.ot_commands.specs.ExplainsImages.{Adds}
use Rattle.ot_commands.proofs.telling.complain_of_image.Goals as goal

pub returns-in-Some : goal.returns-in-Some
returns-in-Some g c =
    let failed = g.F.Sink.failed c.complain_of_refusal.new.faults in
    record {
      told = g.F.Write.contents c.complain_of_byte.new.faults;
      line = still_complains _ _ _ failed _ c.complain_of_byte.ensures.line c.complain_of_refusal.ensures.failed;
      words = subst (λ (words : Option (List ℕ)). Adds words (g.F.Write.contents c.complain_of_byte.new.faults) (g.F.Write.contents c.complain_of_refusal.new.faults) failed) c.in-Some.ensures c.complain_of_refusal.ensures.line;
    }

pub returns-in-None : goal.returns-in-None
returns-in-None g c = record {
  told = g.F.Write.contents c.complain_of_byte.new.faults;
  line = c.complain_of_byte.ensures.line;
  words = subst (λ (words : Option (List ℕ)). Adds words (g.F.Write.contents c.complain_of_byte.new.faults) (g.F.Write.contents c.complain_of_byte.new.faults) (g.F.Sink.failed c.complain_of_byte.new.faults)) c.in-None.ensures refl;
}
