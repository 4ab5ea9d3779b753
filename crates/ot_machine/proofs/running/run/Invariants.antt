use Rattle.std.proofs.Common.{◌≡◌, Some}
use Rattle.ot_model.specs.Runs.{place_at}
use Rattle.ot_machine.proofs.running.run.Given as goal

abbrev pub invariant-loop-place : goal.invariant-loop-place
invariant-loop-place l = place_at l.schedule l.place ≡ Some (record { state = l.machine; shown = l.shown.items })
