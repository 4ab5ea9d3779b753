-- A session that grows: its type invariant, and what may be done next.
use Rattle.std.specs.Prelude.{if◌then◌else◌, ◌≡◌, ◌⊎◌, ℕ, ◌+◌, ◌≤◌, Bool, true, List, [], ◌∷◌, ◌++◌, length, drop, slice_get, Option, Some, None, IsSome}
use Rattle.ot_isa.specs.declared.instruction.Instr.{Instr}
use Rattle.ot_isa.specs.declared.instruction.Instr.TheVariants.{Read}
use Rattle.ot_isa.specs.Program.{Program, with_instr, IsForClients}
use Rattle.ot_isa.specs.Program as program
use Rattle.ot_model.specs.declared.shown.Shown.{Shown}
use Rattle.ot_model.specs.Table.{Client, State, is_joined, opening, step, Performed}
use Rattle.ot_model.specs.Runs.{opening_of}
use Rattle.ot_model.specs.Session.{RunsTo}
use Rattle.ot_model.specs.Sound.{IsSound}
use Rattle.ot_machine.specs.Answers.{IsPerformed}
use Rattle.ot_machine.specs.Readers.{ClientHas}
use Rattle.ot_generate.specs.Left.{owed, due, edit_due}
use Rattle.ot_generate.specs.declared.choice.Move.{Move}
use Rattle.ot_generate.specs.declared.choice.Move.TheVariants.{Edits, Makes}
use Rattle.ot_isa.specs.declared.builder.TheConstants.{INSTR_LIMIT}

-- what was recorded, the state that it leads to, how many instructions there may be, and whether it may end anyhow
pub record WalkView : Type 0 where
  pub recorded : Program
  pub state : State
  pub room : ℕ
  pub is_open : Bool

-- the type invariant: the machine is the table's run of the recorded instructions, what is owed to the end has room, and the state is sound
pub record IsWalk (w : WalkView) : Type 0 where
  pub replays : RunsTo (opening_of w.recorded) w.recorded.instrs w.state
  pub counted : w.state.steps ≡ length w.recorded.instrs
  pub clients : length w.state.clients ≡ w.recorded.clients
  pub fits : length w.recorded.instrs + owed w.is_open w.state ≤ w.room
  pub most : w.room ≤ INSTR_LIMIT
  pub sound : IsSound w.state

-- a session at its opening
abbrev pub begun : ℕ → ℕ → List ℕ → ℕ → Bool → WalkView
begun clients present start room is_open =
    record { recorded = program.opening clients present start; state = opening clients present start; room = room; is_open = is_open }

-- so many more instructions have room
abbrev pub HasSpare : WalkView → ℕ → Type 0
HasSpare w spare = length w.recorded.instrs + owed w.is_open w.state + spare ≡ w.room

-- the instruction is performed, and there is room for it and for what is owed after it
pub record MayMake (w : WalkView) (i : Instr) : Type 0 where
  pub performed : IsPerformed (step w.state i)
  pub client : IsForClients w.recorded.clients i
  pub room : length w.recorded.instrs + owed w.is_open w.state + due w.is_open (length w.state.clients) i ≤ w.room

-- the client is here, and there is room for an edit of it
pub record MayEdit (w : WalkView) (c : ℕ) : Type 0 where
  pub joined : ClientHas w.state c (λ x. is_joined x.phase) true
  pub room : length w.recorded.instrs + owed w.is_open w.state + edit_due w.is_open (length w.state.clients) ≤ w.room

abbrev pub IsPossible : WalkView → Move → Type 0
IsPossible w (Edits c) = MayEdit w c
IsPossible w (Makes i) = MayMake w i

-- of what was chosen before and what is offered, one is chosen; the one that is offered, where nothing was
abbrev pub IsOffered : Option Move → Option Move → Option Move → Type 0
IsOffered before None after = after ≡ before
IsOffered before (Some next) after = (after ≡ Some next) ⊎ ((after ≡ before) × IsSome before)

-- client c, where it is here, has sent nothing that is not taken
abbrev pub HasNoMessage : State → ℕ → Type 0
HasNoMessage s c = (x : Client) → slice_get s.clients c ≡ Some x → is_joined x.phase ≡ true → x.message ≡ None

-- and has received all
abbrev pub HasReceived : State → ℕ → Type 0
HasReceived s c = (x : Client) → slice_get s.clients c ≡ Some x → is_joined x.phase ≡ true → drop x.revision s.log ≡ []

abbrev pub IsAtRest : State → ℕ → Type 0
IsAtRest s c = HasNoMessage s c × HasReceived s c

-- one more instruction
pub record IsMade (a : WalkView) (i : Instr) (b : WalkView) : Type 0 where
  pub recorded : b.recorded ≡ with_instr a.recorded i
  pub room : b.room ≡ a.room
  pub is_open : b.is_open ≡ a.is_open
  pub shown : Option Shown
  pub row : step a.state i ≡ Performed b.state shown

-- the same session, maybe with more instructions
pub record IsAlong (a b : WalkView) : Type 0 where
  pub clients : b.recorded.clients ≡ a.recorded.clients
  pub present : b.recorded.present ≡ a.recorded.present
  pub start : b.recorded.start ≡ a.recorded.start
  pub room : b.room ≡ a.room
  pub is_open : b.is_open ≡ a.is_open

-- from here on it may end anyhow, and there is room for a read of each client and of the server
abbrev pub opened_up : WalkView → WalkView
opened_up w = record { recorded = w.recorded; state = w.state; room = length w.recorded.instrs + length w.state.clients + 1; is_open = true }

abbrev pub with_instrs : Program → List Instr → Program
with_instrs p instrs = record { clients = p.clients; present = p.present; start = p.start; instrs = p.instrs ++ instrs }

-- reads are made, which move nothing
pub record IsRead (a : WalkView) (reads : List Instr) (b : WalkView) : Type 0 where
  pub recorded : b.recorded ≡ with_instrs a.recorded reads
  pub clients : b.state.clients ≡ a.state.clients
  pub log : b.state.log ≡ a.state.log
  pub room : b.room ≡ a.room
  pub is_open : b.is_open ≡ a.is_open

-- a client that has joined is read
abbrev pub IsReadAt : WalkView → ℕ → WalkView → Type 0
IsReadAt a c b = (x : Client) → slice_get a.state.clients c ≡ Some x → IsRead a (if is_joined x.phase then Read c ∷ [] else []) b
