-- What `check` finds of a schedule, and its words and its JSON: both are made of one value.
use Rattle.std.specs.Prelude.{◌≡◌, ℕ, List, [], ◌∷◌, ◌++◌, Bool, true, false, Option, Some, None, codes, decimal, map, if◌then◌else◌}
use Rattle.ot_isa.specs.Program.{Program}
use Rattle.ot_model.specs.Events.{trace_of}
use Rattle.ot_model.specs.Table.{State}
use Rattle.ot_model.specs.declared.shown.Refusal.{Refusal}
use Rattle.ot_judge.specs.declared.verdict.Verdict.{Verdict}
use Rattle.ot_judge.specs.declared.verdict.Verdict.TheVariants.{Holds}
use Rattle.ot_machine.specs.declared.outcome.Ending.{Ending}
use Rattle.ot_machine.specs.Ended.{IsEnding, reached}
use Rattle.ot_check.specs.declared.outcome.Convergence.{Convergence}
use Rattle.ot_check.specs.declared.outcome.Convergence.TheVariants.{Quiet, NotQuiet}
use Rattle.ot_check.specs.Convergence.{all_unsettled, convergence_of}
use Rattle.ot_judge.specs.Making.{is_full}
use Rattle.ot_report.specs.declared.findings.Findings as program
use Rattle.ot_report.specs.Members.{stopped_member, trace_members, unsettled_members}
use Rattle.ot_report.specs.Printed.{line, stop_text}
use Rattle.ot_report.specs.Verdicts.{settling_lines, verdict_line}

-- ---- the value

-- how many instructions were performed; why the next one was not; whether all is quiet, or what is not; the verdict of the trace, none where it is too large
pub record Found : Type 0 where
  pub at : ℕ
  pub stopped : Option (ℕ × Refusal)
  pub settling : List Convergence
  pub verdict : Option Verdict

abbrev pub found_value : program.Findings → Found
found_value f = record { at = f.at; stopped = f.stopped; settling = f.settling.items; verdict = f.verdict }

-- these, or that all is quiet where there is none
abbrev pub quiet_if_none : List Convergence → List Convergence
quiet_if_none [] = Quiet ∷ []
quiet_if_none (c ∷ cs) = c ∷ cs

-- whether all is quiet with equal lists, or the first that is not settled, or all that is not
abbrev pub settling : Bool → State → List Convergence
settling false s = convergence_of s ∷ []
settling true s = quiet_if_none (map NotQuiet (all_unsettled s))

-- the trace of every schedule has the weak list property; a trace that is too large is not judged
abbrev pub verdict_of : Program → Option Verdict
verdict_of schedule = if is_full (trace_of schedule) then None else Some Holds

-- of a schedule whose run ends so
abbrev pub found_of : Bool → Program → Ending → Found
found_of all schedule ending =
    record { at = reached schedule ending.stopped; stopped = ending.stopped; settling = settling all ending.machine; verdict = verdict_of schedule }

-- what is found of the schedule's run
pub record IsFound (all : Bool) (schedule : Program) (found : Found) : Type 0 where
  pub ending : Ending
  pub is_ending : IsEnding schedule ending
  pub is : found ≡ found_of all schedule ending

-- ---- in words, and as JSON

-- the line of a trace's verdict
abbrev pub trace_text : Option Verdict → List ℕ
trace_text None = line (codes "trace full")
trace_text (Some verdict) = verdict_line verdict

-- the stop, if there was one; whether all is quiet where the run ended, or what is not; and the verdict of the trace
abbrev pub found_words : Found → List ℕ
found_words f = stop_text false f.stopped ++ settling_lines f.settling ++ trace_text f.verdict

abbrev pub found_json : Found → List ℕ
found_json f =
    codes "{\"at\":" ++ (decimal f.at ++ (stopped_member f.stopped ++ (unsettled_members f.settling ++ (codes "," ++ (trace_members f.verdict ++ codes "}\n")))))

abbrev pub found_text : Bool → Found → List ℕ
found_text false f = found_words f
found_text true f = found_json f
