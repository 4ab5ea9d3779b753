-- One instruction of a schedule that is compared with a plan.
use Rattle.std.specs.Prelude.{◌≡◌, ℕ, suc, ◌<◌, List, length, slice_get, slice_index, set, Some}
use Rattle.ot_isa.specs.declared.instruction.Instr.{Instr}
use Rattle.ot_isa.specs.declared.instruction.Instr.TheVariants.{Edit, Take, Deliver, Acknowledge, Read, Join, ReadServer}
use Rattle.ot_model.specs.Operation.{Operation}
use Rattle.ot_model.specs.Table.{Client, State}
use Rattle.ot_plan.specs.Typing.{Action, edit_of}
use Rattle.ot_plan.specs.Plan.{PlanView}
use Rattle.ot_threads.specs.Follows.{actions_of}

-- an edit of client c is the action that comes after so many
pub record IsEdit (p : PlanView) (done : ℕ) (s : State) (c : ℕ) (op : Operation ℕ) : Type 0 where
  pub client : Client
  pub client_is : slice_get s.clients c ≡ Some client
  pub action : Action
  pub next : slice_get (actions_of p c) done ≡ Some action
  pub edit : op ≡ edit_of action (length client.list)

-- what an instruction owes the plan, where each client has made so many edits
abbrev pub IsNext : PlanView → List ℕ → State → Instr → Type 0
IsNext p counts s (Edit c op) = IsEdit p (slice_index counts c) s c op
IsNext p counts s (Take c) = Unit {0}
IsNext p counts s (Deliver c) = Unit {0}
IsNext p counts s (Acknowledge c) = Unit {0}
IsNext p counts s (Read c) = Unit {0}
IsNext p counts s (Join c) = Unit {0}
IsNext p counts s ReadServer = Unit {0}

-- the edits, with one more instruction
abbrev pub counted : List ℕ → Instr → List ℕ
counted counts (Edit c op) = set counts c (suc (slice_index counts c))
counted counts (Take c) = counts
counted counts (Deliver c) = counts
counted counts (Acknowledge c) = counts
counted counts (Read c) = counts
counted counts (Join c) = counts
counted counts ReadServer = counts

-- each client has made all its edits
abbrev pub AreComplete : PlanView → List ℕ → Type 0
AreComplete p counts = (c : ℕ) → c < p.clients → slice_index counts c ≡ length (actions_of p c)
