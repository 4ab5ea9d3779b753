-- What a board and its users' actions have to be for workers to share them.
use Rattle.std.specs.Prelude.{◌≡◌, ℕ, ◌+◌, ◌≤◌, List, length, slice_get, Some, false}
use Rattle.ot_model.specs.Table.{Client}
use Rattle.ot_plan.specs.Typing.{Action, inserted}
use Rattle.ot_board.specs.Boards.{BoardView}
use Rattle.ot_isa.specs.declared.tagging.TheConstants.{INSERTED_LIMIT}

-- the client is not out, and its user has at most 1,000 actions, which with what the client has inserted already insert at most 15,000
-- characters
pub record MayType (b : BoardView) (c : ℕ) (actions : List Action) : Type 0 where
  pub home : slice_get b.out c ≡ Some false
  pub few : length actions ≤ 1000
  pub short : (x : Client) → slice_get b.state.clients c ≡ Some x → x.count + inserted actions ≤ INSERTED_LIMIT

-- there is one list of actions for each client
pub record MayShare (b : BoardView) (typing : List (List Action)) : Type 0 where
  pub one_each : length typing ≡ b.recorded.clients
  pub each : (c : ℕ) (actions : List Action) → slice_get typing c ≡ Some actions → MayType b c actions
