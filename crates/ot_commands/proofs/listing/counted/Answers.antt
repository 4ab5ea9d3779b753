use Rattle.std.proofs.Common.{refl}
use Rattle.ot_every.specs.Parts.{sessions_in}
use Rattle.ot_commands.proofs.ListedSessions.{counted}
use Rattle.ot_commands.proofs.listing.counted.Goals as goal

pub returns-in-Ok : goal.returns-in-Ok
returns-in-Ok c = counted (record { count = 0 }) c.in-Ok.counter tt c.visit_part.new.output (sessions_in c.args.space.now c.args.part.now) refl c.in-Ok.ensures.ok
