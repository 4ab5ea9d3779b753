-- Receipts of what is recorded under the lock.
use Rattle.std.specs.Prelude.{◌≡◌, ℕ, ◌+◌, false, List, [], ◌∷◌, ◌++◌, length, set}
use Rattle.ot_isa.specs.declared.instruction.Instr.{Instr}
use Rattle.ot_model.specs.Session.{Session}
use Rattle.ot_board.specs.declared.receipt.Receipt.{Receipt}
use Rattle.ot_board.specs.Boards.{BoardView, with_steps}

-- the receipts' steps, in order
abbrev pub steps_in : List Receipt → List Instr
steps_in [] = []
steps_in (r ∷ rs) = r.steps.items ++ steps_in rs

-- the first receipt's block begins at this place, and each other one where the block before it ends
abbrev pub AreFrom : ℕ → List Receipt → Type 0
AreFrom place [] = Unit {0}
AreFrom place (r ∷ rs) = (r.first ≡ place) × AreFrom (place + length r.steps.items) rs

-- receipts are added, and their steps, no others, are recorded where they say
pub record HasReceipts (b : BoardView) (before : List Receipt) (a : BoardView) (after : List Receipt) : Type 0 where
  pub more : List Receipt
  pub added : after ≡ before ++ more
  pub recorded : a.recorded ≡ with_steps b.recorded (steps_in more)
  pub places : AreFrom (length b.recorded.instrs) more

-- all of the session's steps are recorded, its client is in, and nothing else is done
pub record IsSettled (x : Session) (b a : BoardView) : Type 0 where
  pub recorded : a.recorded ≡ with_steps b.recorded x.steps
  pub out_is : a.out ≡ set b.out x.start.number false
  pub parked_is : a.parked ≡ b.parked
