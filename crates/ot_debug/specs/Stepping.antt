-- The undo records of a debugger, and what one step does.
use Rattle.std.specs.Prelude.{◌≡◌, ◌≢◌, ◌<◌, ◌≤◌, ℕ, suc, ◌+◌, ◌-◌, List, [], ◌∷◌, ◌++◌, Bool, true, false, length, slice_get, take, unwrap_or, Option, Some, None, MatchBool}
use Rattle.std.specs.Option.{option_map}
use Rattle.ot_isa.specs.Program.{Program}
use Rattle.ot_isa.specs.declared.instruction.Instr.{Instr}
use Rattle.ot_isa.specs.declared.instruction.Instr.TheVariants.{Read, ReadServer}
use Rattle.ot_model.specs.declared.shown.Shown.{Shown}
use Rattle.ot_model.specs.Table.{State, Place, Performed, step}
use Rattle.ot_model.specs.Runs.{done, place_at}
use Rattle.ot_machine.specs.declared.undo.Undo.{Undo}
use Rattle.ot_machine.specs.Undoing.{Undoes}
use Rattle.ot_debug.specs.declared.command.Watched.{Watched}
use Rattle.ot_debug.specs.declared.recent.Recent.{Recent}
use Rattle.ot_debug.specs.Session.{Session, IsSession}
use Rattle.ot_debug.specs.Answers.{Keeps}

-- the debugger's fields as a session; its records are seen by nobody
abbrev pub session_of : Program → ℕ → State → List Shown → List Bool → List Watched → Session
session_of schedule position state shown breaks watches =
    record { schedule = schedule; position = position; place = record { state = state; shown = shown }; breaks = breaks; watches = watches }

-- the lists that the run has shown where it has come to a place
abbrev pub shown_at : Program → ℕ → List Shown
shown_at s p = unwrap_or (option_map (λ (q : Place). q.shown) (place_at s p)) []

-- these are all of them where lists are recorded, and else none
abbrev pub AreLists : Bool → List Shown → List Shown → Type 0
AreLists kept shown lists = MatchBool kept (lists ≡ shown) (lists ≡ [])

-- the table performs the instruction, whatever it shows
abbrev pub Leads : State → Instr → State → Type 0
Leads s i t = (shown : Option Shown) × (step s i ≡ Performed t shown)

-- the table performs the instruction; what it shows is given where lists are recorded, and else nothing
abbrev pub Gives : Bool → State → Instr → State → Option Shown → Type 0
Gives kept s i t given = (shown : Option Shown) × (step s i ≡ Performed t shown) × MatchBool kept (given ≡ shown) (given ≡ None)

-- the records that are kept, in the order of their instructions
abbrev pub undos_in : Recent → List Undo
undos_in recent = recent.records.items

-- the k-th of the records leads from the place after the instruction `first + k` back to the place before it
abbrev pub AreUndos : Program → ℕ → List Undo → Type 0
AreUndos s first undos =
    (k : ℕ) (undo : Undo) (before after : Place)
    → slice_get undos k ≡ Some undo → place_at s (first + k) ≡ Some before → place_at s (suc (first + k)) ≡ Some after → Undoes before.state after.state undo

-- these are the records of the last instructions before a position: of each from a first one on
pub record AreLast (s : Program) (position : ℕ) (undos : List Undo) : Type 0 where
  pub first : ℕ
  pub many : first + length undos ≡ position
  pub back : AreUndos s first undos

-- the invariant of the debugger
pub record IsKept (schedule : Program) (position : ℕ) (state : State) (shown : List Shown) (undos : Recent) (breaks : List Bool) (watches : List Watched) : Type 0 where
  pub session : IsSession (session_of schedule position state shown breaks watches)
  pub last : AreLast schedule position (undos_in undos)

-- the same records are kept, and what is performed leaves some as before
abbrev pub IsAsBefore : Recent → Recent → Type 0
IsAsBefore undos records = (undos_in records ≡ undos_in undos) × (records.kept ≡ undos.kept)

-- the newest of these records
pub record AreNewest (undos rest : List Undo) : Type 0 where
  pub gone : List Undo
  pub were : undos ≡ gone ++ rest

-- one record more, behind the others, of which the oldest may have gone
pub record IsPushed (undo : Undo) (undos records : List Undo) : Type 0 where
  pub gone : List Undo
  pub rest : List Undo
  pub were : undos ≡ gone ++ rest
  pub are : records ≡ rest ++ undo ∷ []

-- such a record, which undoes a step that led from the earlier state to this one
pub record OneMore (earlier s : State) (undos records : List Undo) : Type 0 where
  pub undo : Undo
  pub more : IsPushed undo undos records
  pub undoes : Undoes earlier s undo

-- the records after such a step: one more where it leaves one, and else none
abbrev pub GoOn : Bool → State → State → Recent → Recent → Type 0
GoOn leaves earlier s undos records = MatchBool leaves (OneMore earlier s (undos_in undos) (undos_in records)) (undos_in records ≡ []) × (records.kept ≡ undos.kept)

-- the records of the last instructions before a position, of one instruction at least, if there is one; what is performed leaves more
pub record AreRecords (s : Program) (position : ℕ) (undos : Recent) : Type 0 where
  pub last : AreLast s position (undos_in undos)
  pub some : 0 < position → undos_in undos ≢ []
  pub kept : undos.kept ≡ true

-- one more instruction is performed
pub record Advances (x y : Session) : Type 0 where
  pub keeps : Keeps x y
  pub next : y.position ≡ suc x.position
  pub reached : y.position ≤ done y.schedule

-- the instruction shows a list
abbrev pub is_read : Instr → Bool
is_read (Read client) = true
is_read ReadServer = true
is_read i = false

-- the lists shown before an instruction: without the last one where it was a read
abbrev pub AreShownBefore : Bool → List Shown → List Shown → Type 0
AreShownBefore true shown before = before ≡ take (length shown - 1) shown
AreShownBefore false shown before = before ≡ shown
