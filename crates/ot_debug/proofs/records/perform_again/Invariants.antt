use Rattle.std.specs.Prelude.{◌≡◌, ◌≢◌, ◌<◌, [], true}
use Rattle.ot_model.specs.Runs.{IsStateAt}
use Rattle.ot_debug.specs.Stepping.{undos_in, AreLast}
use Rattle.ot_debug.proofs.records.perform_again.Given as goal

abbrev pub invariant-loop-place : goal.invariant-loop-place
invariant-loop-place l =
    IsStateAt l.schedule l.place l.machine × AreLast l.schedule l.place (undos_in l.undos) × (0 < l.place → undos_in l.undos ≢ []) × (l.undos.kept ≡ true)
    × (l.undos.limit ≡ l.initial.undos.limit)
