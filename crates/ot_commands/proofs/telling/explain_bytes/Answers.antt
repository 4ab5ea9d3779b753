use Rattle.std.proofs.Common.{inl, inr, refl}
use Rattle.std.proofs.KnownBytes.{Keeps-refl}
use Rattle.ot_commands.proofs.telling.explain_bytes.Goals as goal

pub returns-in-Ok : goal.returns-in-Ok
returns-in-Ok g c = inr (c.in-Ok.schedule, c.in-Ok.ensures.found, c.explain_canonical.ensures)

pub returns-in-Err : goal.returns-in-Err
returns-in-Err g c =
    inl (record {
      fault = c.in-Err.fault;
      is_fault = c.in-Err.ensures.fault;
      status_is = refl;
      output = Keeps-refl (g.O.Write.contents c.args.output.now);
      tells = c.complain_of_image.ensures;
    })
