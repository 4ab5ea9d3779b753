-- A session on its way: as far as a schedule was followed, and as far as it was brought to quiet.
use Rattle.std.specs.Prelude.{◌≡◌, ◌≢◌, ℕ, ◌+◌, true, List, length, take, None}
use Rattle.ot_isa.specs.declared.instruction.Instr.{Instr}
use Rattle.ot_isa.specs.Program.{Program}
use Rattle.ot_isa.specs.declared.builder.TheConstants.{INSTR_LIMIT}
use Rattle.ot_model.specs.Table.{State}
use Rattle.ot_generate.specs.Walks.{WalkView, with_instrs}
use Rattle.ot_generate.specs.Completed.{next_of, Drains}
use Rattle.ot_generate.specs.declared.completing.Incomplete.{Incomplete}
use Rattle.ot_generate.specs.declared.completing.Incomplete.TheVariants as incomplete

-- the first so many instructions of a schedule were performed and recorded
pub record IsFollowed (p : Program) (count : ℕ) (w : WalkView) : Type 0 where
  pub recorded : w.recorded ≡ record { clients = p.clients; present = p.present; start = p.start; instrs = take count p.instrs }
  pub room : w.room ≡ INSTR_LIMIT
  pub is_open : w.is_open ≡ true

-- instructions that bring it to quiet were made
pub record IsDraining (a : WalkView) (more : List Instr) (b : WalkView) : Type 0 where
  pub recorded : b.recorded ≡ with_instrs a.recorded more
  pub drains : Drains a.state more b.state
  pub room : b.room ≡ a.room
  pub is_open : b.is_open ≡ a.is_open

-- all of them
pub record IsDrained (a b : WalkView) : Type 0 where
  pub more : List Instr
  pub draining : IsDraining a more b
  pub settled : next_of b.state ≡ None

-- some of them, and for the next one there is no room
pub record IsFilled (a : WalkView) : Type 0 where
  pub more : List Instr
  pub end : State
  pub drains : Drains a.state more end
  pub unsettled : next_of end ≢ None
  pub full : length a.recorded.instrs + length more ≡ a.room

-- why it was not brought to quiet
abbrev pub IsStuck : WalkView → Incomplete → Type 0
IsStuck a (incomplete.Refused place refusal) = ⊥
IsStuck a incomplete.TooMany = IsFilled a
IsStuck a incomplete.Memory = Unit {0}
