-- What `run` writes and answers, from its parts.
use Rattle.std.proofs.Common.{◌≡◌, ℕ, Bool, true, List, Option, refl, ap, ◌∙◌, sym, inl, inr}
use Rattle.std.proofs.KnownBytes.{Keeps-refl}
use Rattle.ot_isa.specs.Program.{Program}
use Rattle.ot_model.specs.declared.shown.Refusal.{Refusal}
use Rattle.ot_report.specs.Written.{WritesPartOfReport, WritesReport}
use Rattle.ot_commands.specs.Ran.{MayReport, stop_status}

-- the whole report
pub reported : (json : Bool) (schedule : Program) (stopped : Option (ℕ × Refusal)) (status : ℕ) (output output' faults : Option (List ℕ)) (broken faults_broken : Bool) → status ≡ stop_status stopped → WritesReport json schedule stopped output output'
    → MayReport json schedule status (record { output = output; output' = output'; broken = broken; faults = faults; faults' = faults; faults_broken = faults_broken })
reported json schedule stopped status output output' faults broken faults_broken right writes =
    inl (record {
      run = writes.run;
      is_run = writes.is.is_run;
      text = writes.text;
      is_report = writes.is.is_report;
      gives = (inl (right ∙ ap stop_status (sym writes.stopped_is), writes.written), Keeps-refl faults);
    })

-- a first part of it, where a write failed
pub broken_off : (json : Bool) (schedule : Program) (output output' faults : Option (List ℕ)) (broken faults_broken : Bool) → broken ≡ true → WritesPartOfReport json schedule output output'
    → MayReport json schedule 1 (record { output = output; output' = output'; broken = broken; faults = faults; faults' = faults; faults_broken = faults_broken })
broken_off json schedule output output' faults broken faults_broken failed writes =
    inl (record {
      run = writes.run;
      is_run = writes.is.is_run;
      text = writes.text;
      is_report = writes.is.is_report;
      gives = (inr (refl, writes.written, failed), Keeps-refl faults);
    })
