use Rattle.std.proofs.Common.{arith}
use Rattle.std.proofs.lemmas.List.{length-drop}
use Rattle.ot_list.proofs.draft.Draft.make_room.Goals as goal

pub returns : goal.returns
returns g c =
    let short = c.requires.short in
    let bounds = g.met.E.Item.bounds in
    record {
      ok = c.in_ok-close.ensures.continues;
      room = rw (c.in_ok-close.ensures.pending_is, length-drop) (omega (arith, bounds.0, bounds.1));
    }
