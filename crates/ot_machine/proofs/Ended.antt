-- Where a run ends of which no list is recorded.
use Rattle.std.proofs.Common.{◌≡◌, ℕ, ◌≤◌, length, Some, None}
use Rattle.std.specs.Prelude.{slice_get}
use Rattle.ot_isa.specs.Program.{Program}
use Rattle.ot_isa.specs.declared.instruction.Instr.{Instr}
use Rattle.ot_model.specs.declared.shown.Refusal.{Refusal}
use Rattle.ot_model.specs.Table.{State, step}
use Rattle.ot_model.specs.Runs.{IsStateAt}
use Rattle.ot_machine.specs.Answers.{IsRefusal}
use Rattle.ot_machine.specs.declared.outcome.Ending.{Ending}
use Rattle.ot_machine.specs.Ended.{IsEnding}
use Rattle.ot_machine.proofs.Stopping.{stopped_at, whole}

pub is_stopped :
    (s : Program) (p : ℕ) (i : Instr) (r : Refusal) (state : State) (ended : Ending) → IsStateAt s p state → slice_get s.instrs p ≡ Some i → IsRefusal (step state i) r
    → ended.machine ≡ state → ended.stopped ≡ Some (p, r) → IsEnding s ended
is_stopped s p i r state ended is at refused machine stopped =
    record {
      shown = is.shown;
      at = rw (stopped, machine) is.at;
      stop = rw (stopped, machine) (stopped_at s p (record { state = state; shown = is.shown }) i r is.at at refused);
    }

pub is_whole : (s : Program) (p : ℕ) (state : State) (ended : Ending) → IsStateAt s p state → length s.instrs ≤ p → p ≤ length s.instrs → ended.machine ≡ state → ended.stopped ≡ None → IsEnding s ended
is_whole s p state ended is le ge machine stopped =
    let fact = whole s p (record { state = state; shown = is.shown }) le ge is.at in
    record { shown = is.shown; at = rw (stopped, machine) fact.0; stop = rw stopped fact.1 }
