-- What the judge says of the traces of schedules.
use Rattle.std.specs.Prelude.{◌≡◌}
use Rattle.ot_isa.specs.Program.{Program}
use Rattle.ot_model.specs.Runs.{IsRunnable}
use Rattle.ot_model.specs.Events.{trace_of}
use Rattle.ot_judge.specs.declared.verdict.Verdict.{Verdict}
use Rattle.ot_judge.specs.declared.verdict.Verdict.TheVariants.{Holds}
use Rattle.ot_judge.specs.Verdict.{IsVerdict}

-- the verdict of every schedule's trace is that the weak list property holds
abbrev pub JudgeAccepts : Type 0
JudgeAccepts = (s : Program) (v : Verdict) → IsRunnable s → IsVerdict (trace_of s) v → v ≡ Holds
