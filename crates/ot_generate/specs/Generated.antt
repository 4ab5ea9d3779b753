-- What holds of a session that was made at random.
use Rattle.std.specs.Prelude.{◌≡◌, ℕ, suc, List, [], ◌∷◌, ◌++◌, length, true, false, IfSome, Some, if◌then◌else◌}
use Rattle.ot_isa.specs.declared.instruction.Instr.{Instr}
use Rattle.ot_isa.specs.declared.instruction.Instr.TheVariants.{Read, ReadServer}
use Rattle.ot_isa.specs.Program.{Program}
use Rattle.ot_model.specs.Table.{Client, Place, is_joined, IsQuiet}
use Rattle.ot_model.specs.Runs.{place_at}
use Rattle.ot_machine.specs.Orders.{IsWhole}
use Rattle.ot_generate.specs.Shapes.{ShapeView, made}
use Rattle.ot_generate.specs.Walks.{WalkView}

-- a read of each joined client, by number, and then of the server
abbrev pub reads_from : ℕ → List Client → List Instr
reads_from c [] = ReadServer ∷ []
reads_from c (x ∷ clients) = if is_joined x.phase then Read c ∷ reads_from (suc c) clients else reads_from (suc c) clients

-- the schedule is so many instructions and then reads of everybody, and where it ends all is quiet
pub record EndsRead (many : ℕ) (s : Program) : Type 0 where
  pub end : Place
  pub at_end : place_at s (length s.instrs) ≡ Some end
  pub quiet : IsQuiet end.state
  pub before : List Instr
  pub reads : s.instrs ≡ before ++ reads_from 0 end.state.clients
  pub many_is : length before ≡ many

-- it begins as it was asked to, every instruction is performed, and there are as many as were asked: alone where the end is open, else
-- with reads of everybody behind them, where all is quiet
pub record IsGenerated (shape : ShapeView) (s : Program) : Type 0 where
  pub clients : s.clients ≡ shape.clients
  pub present : IfSome shape.present (λ p. s.present ≡ p)
  pub start : IfSome shape.start (λ text. s.start ≡ text)
  pub whole : IsWhole s
  pub is_open : shape.is_open ≡ true → length s.instrs ≡ made shape
  pub closed : shape.is_open ≡ false → EndsRead (made shape) s

-- a session of this shape that is as long as it is to be
pub record IsWandered (shape : ShapeView) (w : WalkView) : Type 0 where
  pub clients : w.recorded.clients ≡ shape.clients
  pub present : IfSome shape.present (λ p. w.recorded.present ≡ p)
  pub start : IfSome shape.start (λ text. w.recorded.start ≡ text)
  pub many : length w.recorded.instrs ≡ made shape
  pub is_open : w.is_open ≡ shape.is_open
  pub quiet : w.is_open ≡ false → IsQuiet w.state

-- at its opening
pub record IsOpened (shape : ShapeView) (w : WalkView) : Type 0 where
  pub clients : w.recorded.clients ≡ shape.clients
  pub present : IfSome shape.present (λ p. w.recorded.present ≡ p)
  pub start : IfSome shape.start (λ text. w.recorded.start ≡ text)
  pub room : w.room ≡ made shape
  pub is_open : w.is_open ≡ shape.is_open

-- the same beginning
pub record BeginsAs (p s : Program) : Type 0 where
  pub clients : s.clients ≡ p.clients
  pub present : s.present ≡ p.present
  pub start : s.start ≡ p.start
