-- What `threads` writes and answers.
use Rattle.std.specs.Prelude.{◌≡◌, ◌≢◌, ◌⊎◌, ℕ, ◌<◌, List, [], ◌∷◌, ◌++◌, length, Bool, true, Ok, Err, codes}
use Rattle.std.specs.Str.{is_utf8}
use Rattle.streams.specs.Outcomes.{Streams, Gives, GivesUp, Refuses, OutOfMemory, memory_fault}
use Rattle.ot_board.specs.declared.auditing.AuditFault.{AuditFault}
use Rattle.ot_board.specs.declared.auditing.AuditFault.TheVariants as audit
use Rattle.ot_board.specs.Boards.{BoardView}
use Rattle.ot_plan.specs.Plan.{PlanView}
use Rattle.ot_plan.specs.Lines.{fault_line}
use Rattle.ot_plan.specs.Reading.{plan_of_bytes}
use Rattle.ot_plan.specs.declared.fault.PlanFault.{PlanFault}
use Rattle.ot_plan.specs.declared.fault.PlanFault.TheVariants as kind
use Rattle.ot_workers.specs.declared.fault.WorkFault.{WorkFault}
use Rattle.ot_workers.specs.declared.fault.WorkFault.TheVariants as work
use Rattle.ot_workers.specs.declared.working.WorkerEnd.{WorkerEnd}
use Rattle.ot_threads.specs.declared.fault.ThreadsFault.{ThreadsFault}
use Rattle.ot_threads.specs.declared.fault.ThreadsFault.TheVariants.{Work, StillOut, Audit, NotPlan, Memory}
use Rattle.ot_threads.specs.Concluded.{AreLeft, IsConcluded, IsThreadsFault}

-- the lines of faults: of a worker, of the audit, and of all together
abbrev pub work_fault : WorkFault → List ℕ
work_fault work.RecordFull = codes "otbench: RecordFull" ++ 10 ∷ []
work_fault work.Stopped = codes "otbench: Stopped" ++ 10 ∷ []
work_fault work.Memory = memory_fault
work_fault work.Refused = codes "otbench: Refused" ++ 10 ∷ []

abbrev pub audit_fault : AuditFault → List ℕ
audit_fault (audit.Missing worker i) = codes "otbench: Missing" ++ 10 ∷ []
audit_fault (audit.Backwards worker i) = codes "otbench: Backwards" ++ 10 ∷ []
audit_fault (audit.Doubled at) = codes "otbench: Doubled" ++ 10 ∷ []
audit_fault (audit.Uncovered at) = codes "otbench: Uncovered" ++ 10 ∷ []
audit_fault audit.Memory = memory_fault

abbrev pub threads_fault : ThreadsFault → List ℕ
threads_fault (Work fault) = work_fault fault
threads_fault (StillOut client) = codes "otbench: StillOut" ++ 10 ∷ []
threads_fault (Audit fault) = audit_fault fault
threads_fault NotPlan = codes "otbench: NotPlan" ++ 10 ∷ []
threads_fault Memory = memory_fault

-- the fault of bytes that are read as a plan. One other than Memory is theirs; out of memory only for a text that is not empty
pub record IsPlanFault (bytes : List ℕ) (fault : PlanFault) : Type 0 where
  pub named : fault ≢ kind.Memory → plan_of_bytes bytes ≡ Err fault
  pub text : fault ≡ kind.Memory → is_utf8 bytes ≡ true
  pub some : fault ≡ kind.Memory → 0 < length bytes

-- an input that is no plan: nothing on the output, and the fault's line
pub record RefusesPlan (bytes : List ℕ) (status : ℕ) (streams : Streams) : Type 0 where
  pub fault : PlanFault
  pub is_fault : IsPlanFault bytes fault
  pub refuses : Refuses (fault_line fault) status streams

-- the schedule that the workers recorded, which follows the plan, and where it ends, as they are printed
pub record GivesRecord (plan : PlanView) (board : BoardView) (ends : List WorkerEnd) (status : ℕ) (streams : Streams) : Type 0 where
  pub text : List ℕ
  pub concluded : IsConcluded plan board ends text
  pub gives : Gives 0 text status streams

-- the first fault of what the workers left
pub record GivesFault (plan : PlanView) (board : BoardView) (ends : List WorkerEnd) (status : ℕ) (streams : Streams) : Type 0 where
  pub fault : ThreadsFault
  pub is_fault : IsThreadsFault plan board ends fault
  pub refuses : Refuses (threads_fault fault) status streams

abbrev pub Concludes : PlanView → BoardView → List WorkerEnd → ℕ → Streams → Type 0
Concludes plan board ends status streams = GivesRecord plan board ends status streams ⊎ GivesFault plan board ends status streams

-- the workers ended, and what they left is printed
pub record Ends (plan : PlanView) (status : ℕ) (streams : Streams) : Type 0 where
  pub board : BoardView
  pub ends : List WorkerEnd
  pub left : AreLeft plan.workers board ends
  pub concludes : Concludes plan board ends status streams

-- the plan is carried out, or memory for its workers ran out
abbrev pub CarriesOut : PlanView → ℕ → Streams → Type 0
CarriesOut plan status streams = OutOfMemory status streams ⊎ Ends plan status streams

-- what is done with an input: it was not read whole (`unread`: it has failed), it is no plan, or it is a plan that is carried out
abbrev pub Threads : Bool → List ℕ → ℕ → Streams → Type 0
Threads unread bytes status streams =
    GivesUp unread status streams ⊎ RefusesPlan bytes status streams ⊎ ((plan : PlanView) × (plan_of_bytes bytes ≡ Ok plan) × CarriesOut plan status streams)
