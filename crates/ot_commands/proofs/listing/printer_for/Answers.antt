use Rattle.ot_commands.proofs.listing.printer_for.Goals as goal

pub returns : goal.returns
returns c = record { head = c.in_ok-head.ensures; foot = c.in_ok-foot.ensures }
