-- What brings a session to quiet, in a fixed order, and a schedule with that behind it.
use Rattle.std.specs.Prelude.{◌≡◌, ◌≢◌, ℕ, suc, ◌+◌, List, [], ◌∷◌, length, take, Option, Some, None, if◌then◌else◌}
use Rattle.std.specs.Option.{option_map}
use Rattle.ot_isa.specs.declared.instruction.Instr.{Instr}
use Rattle.ot_isa.specs.declared.instruction.Instr.TheVariants.{Take, Deliver, Acknowledge}
use Rattle.ot_isa.specs.Program.{Program}
use Rattle.ot_isa.specs.declared.builder.TheConstants.{INSTR_LIMIT}
use Rattle.ot_model.specs.declared.shown.Refusal.{Refusal}
use Rattle.ot_model.specs.declared.shown.Shown.{Shown}
use Rattle.ot_model.specs.Table.{Client, Message, State, is_joined, step, Performed, IsQuiet}
use Rattle.ot_model.specs.Runs.{opening_of}
use Rattle.ot_model.specs.Session.{RunsTo}
use Rattle.ot_machine.specs.Ended.{IsRefusedIn}
use Rattle.ot_machine.specs.Orders.{IsWhole}
use Rattle.ot_machine.specs.Readers.{head_at}
use Rattle.ot_machine.specs.declared.state.Head.{Head}
use Rattle.ot_machine.specs.declared.state.Head.TheVariants.{Ack, Op}
use Rattle.ot_generate.specs.Walks.{with_instrs}
use Rattle.ot_generate.specs.declared.completing.Incomplete.{Incomplete}
use Rattle.ot_generate.specs.declared.completing.Incomplete.TheVariants as incomplete

-- the take of a client's message, where one is on its way to the server
abbrev pub taking : ℕ → Option Message → Option Instr
taking c None = None
taking c (Some m) = Some (Take c)

abbrev pub take_next : ℕ → Client → Option Instr
take_next c x = if is_joined x.phase then taking c x.message else None

-- the receipt of a message by client c
abbrev pub receipt_of : ℕ → Head → Instr
receipt_of c Ack = Acknowledge c
receipt_of c (Op number) = Deliver c

-- the receipt of what is at the head of a client's link, where something is
abbrev pub receipt_next : State → ℕ → Client → Option Instr
receipt_next s c x = option_map (receipt_of c) (head_at s c 0 x)

-- the first instruction, or else the second
abbrev pub or_next : Option Instr → Option Instr → Option Instr
or_next None second = second
or_next (Some i) second = Some i

-- the instruction of the first of these clients, the first being number c, that has one
abbrev pub first_of : (ℕ → Client → Option Instr) → ℕ → List Client → Option Instr
first_of next c [] = None
first_of next c (x ∷ clients) = or_next (next c x) (first_of next (suc c) clients)

-- what comes next on the way to quiet: the take of the first client, by number, whose message is on its way; where there is none, the
-- receipt of the first client to whom something is on its way
abbrev pub next_of : State → Option Instr
next_of s = or_next (first_of take_next 0 s.clients) (first_of (receipt_next s) 0 s.clients)

-- the instructions lead from a state to a state, and each of them is what comes next
abbrev pub Drains : State → List Instr → State → Type 0
Drains s [] t = s ≡ t
Drains s (i ∷ is) t = (next_of s ≡ Some i) × (mid : State) × (shown : Option Shown) × (step s i ≡ Performed mid shown) × Drains mid is t

-- the second schedule is the first and then what brings it to quiet; none of its instructions is refused, and where it ends all is quiet
pub record IsCompletion (p s : Program) : Type 0 where
  pub more : List Instr
  pub instrs : s ≡ with_instrs p more
  pub before : State
  pub end : State
  pub begins : RunsTo (opening_of p) p.instrs before
  pub drains : Drains before more end
  pub settled : next_of end ≡ None
  pub ends : RunsTo (opening_of s) s.instrs end
  pub whole : IsWhole s
  pub quiet : IsQuiet end

-- the table refuses the instruction at this place of the schedule, and performs those before it
pub record IsRefusedAt (p : Program) (place : ℕ) (refusal : Refusal) : Type 0 where
  pub before : State
  pub begins : RunsTo (opening_of p) (take place p.instrs) before
  pub refused : IsRefusedIn p before place refusal

-- with what brings it to quiet the schedule would have more than 100,000 instructions
pub record IsTooLong (p : Program) : Type 0 where
  pub more : List Instr
  pub before : State
  pub end : State
  pub begins : RunsTo (opening_of p) p.instrs before
  pub drains : Drains before more end
  pub unsettled : next_of end ≢ None
  pub full : length p.instrs + length more ≡ INSTR_LIMIT

-- why a schedule was not completed; memory may run out at any time
abbrev pub IsIncomplete : Program → Incomplete → Type 0
IsIncomplete p (incomplete.Refused place refusal) = IsRefusedAt p place refusal
IsIncomplete p incomplete.TooMany = IsTooLong p
IsIncomplete p incomplete.Memory = Unit {0}
