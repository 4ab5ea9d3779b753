-- What workers left, once they ended: the record of a schedule that follows the plan, or the first fault.
use Rattle.std.specs.Prelude.{◌≡◌, ℕ, List, length, map, take, slice_get, Option, Some, None}
use Rattle.std.specs.List.{All}
use Rattle.ot_isa.specs.Program.{Program}
use Rattle.ot_board.specs.declared.receipt.Receipt.{Receipt}
use Rattle.ot_board.specs.Boards.{BoardView, IsBoard, AreIn, IsLeastOut}
use Rattle.ot_board.specs.Tiling.{IsTiling, IsFault}
use Rattle.ot_plan.specs.Plan.{PlanView}
use Rattle.ot_threads.specs.Follows.{Follows}
use Rattle.ot_threads.specs.Record.{IsRecord}
use Rattle.ot_workers.specs.declared.fault.WorkFault.{WorkFault}
use Rattle.ot_workers.specs.declared.working.WorkerEnd.{WorkerEnd}
use Rattle.ot_threads.specs.declared.fault.ThreadsFault.{ThreadsFault}
use Rattle.ot_threads.specs.declared.fault.ThreadsFault.TheVariants.{Work, StillOut, Audit, NotPlan, Memory}

-- the workers' receipts, by worker
abbrev pub receipts_of : List WorkerEnd → List (List Receipt)
receipts_of ends = map (λ (e : WorkerEnd). e.receipts.items) ends

abbrev pub IsFaultless : WorkerEnd → Type 0
IsFaultless e = e.fault ≡ None

-- the first worker that has a fault, and its fault
pub record IsFirstFault (ends : List WorkerEnd) (fault : WorkFault) : Type 0 where
  pub worker : ℕ
  pub end : WorkerEnd
  pub end_is : slice_get ends worker ≡ Some end
  pub fault_is : end.fault ≡ Some fault
  pub before : All IsFaultless (take worker ends)

-- no worker has a fault, and no client is out
pub record AreDone (board : BoardView) (ends : List WorkerEnd) : Type 0 where
  pub faultless : All IsFaultless ends
  pub nobody : AreIn board.out

-- of a schedule that was recorded: the receipts tile it, it follows the plan, and the text is its printed form
pub record IsChecked (plan : PlanView) (recorded : Program) (receipts : List (List Receipt)) (text : List ℕ) : Type 0 where
  pub tiles : IsTiling recorded.instrs receipts
  pub is_record : IsRecord plan recorded text

-- or the first fault: the audit's, or that it does not follow the plan
abbrev pub IsCheckFault : PlanView → Program → List (List Receipt) → ThreadsFault → Type 0
IsCheckFault plan recorded receipts (Work fault) = ⊥
IsCheckFault plan recorded receipts (StillOut client) = ⊥
IsCheckFault plan recorded receipts (Audit fault) = IsFault recorded.instrs receipts fault
IsCheckFault plan recorded receipts NotPlan = IsTiling recorded.instrs receipts × (Follows plan recorded → ⊥)
IsCheckFault plan recorded receipts Memory = Unit {0}

-- all is well
pub record IsConcluded (plan : PlanView) (board : BoardView) (ends : List WorkerEnd) (text : List ℕ) : Type 0 where
  pub done : AreDone board ends
  pub checked : IsChecked plan board.recorded (receipts_of ends) text

-- the first fault: a worker's, a client that stays out, the audit's, a record that does not follow the plan. Out of memory only
-- where the workers and the board have none
abbrev pub IsThreadsFault : PlanView → BoardView → List WorkerEnd → ThreadsFault → Type 0
IsThreadsFault plan board ends (Work fault) = IsFirstFault ends fault
IsThreadsFault plan board ends (StillOut client) = All IsFaultless ends × IsLeastOut board.out client
IsThreadsFault plan board ends (Audit fault) = AreDone board ends × IsCheckFault plan board.recorded (receipts_of ends) (Audit fault)
IsThreadsFault plan board ends NotPlan = AreDone board ends × IsCheckFault plan board.recorded (receipts_of ends) NotPlan
IsThreadsFault plan board ends Memory = AreDone board ends

-- what so many workers may leave: a board, and one end for each of them
pub record AreLeft (workers : ℕ) (board : BoardView) (ends : List WorkerEnd) : Type 0 where
  pub kept : IsBoard board
  pub each : length ends ≡ workers
