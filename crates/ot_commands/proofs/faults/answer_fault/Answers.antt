use Rattle.std.proofs.Common.{inr, refl}
use Rattle.std.proofs.KnownBytes.{Keeps-refl}
use Rattle.streams.proofs.Parts.{still_complains}
use Rattle.ot_commands.proofs.faults.answer_fault.Goals as goal

pub returns-in-Err : goal.returns-in-Err
returns-in-Err g c =
    inr (record {
      told = g.F.Write.contents c.complain_of_line.new.faults;
      status_is = refl;
      output = Keeps-refl (g.O.Write.contents c.args.output.now);
      line = still_complains _ _ _ (g.F.Sink.failed c.complain_of_memory.new.faults) _ c.complain_of_line.ensures.line c.complain_of_memory.ensures.failed;
      behind = c.complain_of_memory.ensures.line;
    })
