-- Whether a schedule follows a plan.
use Rattle.std.specs.Prelude.{◌≡◌, ℕ, ◌<◌, Bool, false, List, [], length, take, slice_get, get_or, count_by, Some, ◌==◌}
use Rattle.ot_isa.specs.Program.{Program}
use Rattle.ot_isa.specs.declared.instruction.Instr.{Instr}
use Rattle.ot_isa.specs.declared.instruction.Instr.TheVariants.{Edit, Take, Deliver, Acknowledge, Read, Join, ReadServer}
use Rattle.ot_model.specs.Operation.{Operation}
use Rattle.ot_model.specs.Table.{Client, Place, IsQuiet}
use Rattle.ot_model.specs.Runs.{place_at}
use Rattle.ot_plan.specs.Typing.{Action, edit_of}
use Rattle.ot_plan.specs.Plan.{PlanView}

-- whether an instruction is an edit of this client
abbrev pub is_edit_of : ℕ → Instr → Bool
is_edit_of c (Edit d op) = d == c
is_edit_of c (Take d) = false
is_edit_of c (Deliver d) = false
is_edit_of c (Acknowledge d) = false
is_edit_of c (Read d) = false
is_edit_of c (Join d) = false
is_edit_of c ReadServer = false

-- how many edits of a client there are
abbrev pub edits : ℕ → List Instr → ℕ
edits c is = count_by (is_edit_of c) is

-- what a client's user types
abbrev pub actions_of : PlanView → ℕ → List Action
actions_of p c = get_or p.typing c []

-- the edit of client c at place i is its next action, on its list at that moment
pub record IsTyped (p : PlanView) (s : Program) (i c : ℕ) (op : Operation ℕ) : Type 0 where
  pub before : Place
  pub here : place_at s i ≡ Some before
  pub client : Client
  pub client_is : slice_get before.state.clients c ≡ Some client
  pub action : Action
  pub next : slice_get (actions_of p c) (edits c (take i s.instrs)) ≡ Some action
  pub edit : op ≡ edit_of action (length client.list)

-- every instruction is performed, and the end is quiet
pub record EndsQuiet (s : Program) : Type 0 where
  pub end : Place
  pub is : place_at s (length s.instrs) ≡ Some end
  pub quiet : IsQuiet end.state

-- the schedule begins as the plan says, each client's edits are its actions in order and no others, nothing is refused,
-- and the end is quiet
pub record Follows (p : PlanView) (s : Program) : Type 0 where
  pub clients : s.clients ≡ p.clients
  pub present : s.present ≡ p.present
  pub start : s.start ≡ p.start
  pub typed : (i c : ℕ) (op : Operation ℕ) → slice_get s.instrs i ≡ Some (Edit c op) → IsTyped p s i c op
  pub complete : (c : ℕ) → c < p.clients → edits c s.instrs ≡ length (actions_of p c)
  pub ended : EndsQuiet s
