-- Schedules in which each machine has the same instructions in the same order, and how their runs end.
use Rattle.std.specs.Prelude.{◌≡◌, ℕ, suc, ◌≤◌, ◌⊎◌, length, drop, slice_get, count_by, Option, Some, None}
use Rattle.ot_isa.specs.Program.{Program}
use Rattle.ot_isa.specs.declared.instruction.Instr.{Instr}
use Rattle.ot_model.specs.declared.shown.Refusal.{Refusal}
use Rattle.ot_model.specs.declared.shown.Refusal.TheVariants.{LinkEmpty, Memory}
use Rattle.ot_model.specs.Table.{Place, Refused, step}
use Rattle.ot_model.specs.Runs.{done, place_at}
use Rattle.ot_model.specs.Orders.{AreSameOrders, AreSameShown, awaits}
use Rattle.ot_machine.specs.declared.outcome.Run.{Run}

-- the same clients, the same ones present, the same start text, and each machine's instructions in the same order
pub record AreReordered (first second : Program) : Type 0 where
  pub clients : first.clients ≡ second.clients
  pub present : first.present ≡ second.present
  pub start : first.start ≡ second.start
  pub orders : AreSameOrders first.instrs second.instrs

-- every instruction is performed
abbrev pub IsWhole : Program → Type 0
IsWhole s = done s ≡ length s.instrs

-- both runs reach their ends, in the same state, and each machine has shown the same lists in the same order
pub record EndAlike (first second : Program) : Type 0 where
  pub one : Place
  pub other : Place
  pub at_one : place_at first (length first.instrs) ≡ Some one
  pub at_other : place_at second (length second.instrs) ≡ Some other
  pub state : one.state ≡ other.state
  pub shown : AreSameShown one.shown other.shown

-- the run stops before an instruction that receives what is not sent yet, and one that may send it stands behind
pub record StopsEarly (s : Program) : Type 0 where
  pub place : Place
  pub early : Instr
  pub reached : place_at s (done s) ≡ Some place
  pub next : slice_get s.instrs (done s) ≡ Some early
  pub refused : step place.state early ≡ Refused LinkEmpty
  pub awaited : 1 ≤ count_by (awaits early) (drop (suc (done s)) s.instrs)

-- a second run, with its stop, beside a first one that did not stop: it did not stop either, both machines are in the same state, and of each
-- client's reads and the server's the same lists were shown; or it stopped for an empty link, or out of memory
abbrev pub IsBeside : Run → Run → Option (ℕ × Refusal) → Type 0
IsBeside one other None = (one.machine ≡ other.machine) × AreSameShown one.shown.items other.shown.items
IsBeside one other (Some stop) = (stop.1 ≡ LinkEmpty) ⊎ (stop.1 ≡ Memory)
