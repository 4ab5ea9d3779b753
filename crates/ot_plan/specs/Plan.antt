-- What a plan says, and the limits of its type invariant.
use Rattle.std.specs.Prelude.{◌≡◌, ℕ, ◌≤◌, List, length, All}
use Rattle.ot_plan.specs.Typing.{Action, inserted}
use Rattle.ot_isa.specs.declared.builder.TheConstants.{CLIENT_LIMIT, START_LIMIT}
use Rattle.ot_isa.specs.declared.tagging.TheConstants.{INSERTED_LIMIT}
use Rattle.ot_operation.specs.declared.TheConstants.{LIMIT}

-- how many clients and workers there are, how many clients are present at the start, the start text, and what each client's
-- user types, action by action
pub record PlanView : Type 0 where
  pub clients : ℕ
  pub workers : ℕ
  pub present : ℕ
  pub start : List ℕ
  pub typing : List (List Action)

pub record IsAction (a : Action) : Type 0 where
  pub at : a.at ≤ LIMIT
  pub delete : a.delete ≤ LIMIT

-- what one client's user may type
pub record AreActions (actions : List Action) : Type 0 where
  pub few : length actions ≤ 1000
  pub short : inserted actions ≤ INSERTED_LIMIT
  pub each : All IsAction actions

pub record IsPlan (p : PlanView) : Type 0 where
  pub clients_from : 1 ≤ p.clients
  pub clients_to : p.clients ≤ CLIENT_LIMIT
  pub workers_from : 1 ≤ p.workers
  pub workers_to : p.workers ≤ 8
  pub present_to : p.present ≤ p.clients
  pub start_fits : length p.start ≤ START_LIMIT
  pub one_each : length p.typing ≡ p.clients
  pub typing_fits : All AreActions p.typing
