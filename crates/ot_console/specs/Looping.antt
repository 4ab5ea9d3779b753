-- The command loop: lines of commands, and what they are answered with.
use Rattle.std.specs.Prelude.{◌≡◌, ◌⊎◌, ◌+◌, ◌-◌, ◌^◌, ◌||◌, min, ℕ, Bool, true, false, List, [], ◌∷◌, ◌++◌, length, Option, Some, None, ⊤, IfSome, MatchBool}
use Rattle.std.specs.Io.KnownBytes.{Appends}
use Rattle.streams.specs.Streams.{WritesPart}
use Rattle.streams.specs.Lines.{lines_of, lacks}
use Rattle.ot_debug.specs.Session.{Session}
use Rattle.ot_debug.specs.Answers.{Answers}
use Rattle.ot_debug.specs.declared.command.Command.{Command}
use Rattle.ot_debug.specs.declared.command.Reply.{Reply}
use Rattle.ot_console.specs.Commands.{command_of, is_blank_line}
use Rattle.ot_console.specs.Replies.{IsReplyText, IsMade, is_fault, no_memory, bad_command}
use Rattle.ot_console.specs.declared.looping.LoopStop.{LoopStop}
use Rattle.ot_console.specs.declared.looping.LoopStop.TheVariants as stop

-- what is printed of a reply: its text; or, where that had to be made and memory ran out, `no memory`
abbrev pub IsPrinted : Session → Reply → List ℕ → Bool → Type 0
IsPrinted session reply text faulted =
    (IsReplyText session reply text × (faulted ≡ is_fault reply)) ⊎ (IsMade reply × (text ≡ no_memory) × (faulted ≡ true))

-- a line that is no command changes nothing; a command is performed, and its reply printed
abbrev pub IsCommandTurn : Session → Option Command → Session → List ℕ → Bool → Type 0
IsCommandTurn before None after text faulted = (after ≡ before) × (text ≡ bad_command) × (faulted ≡ true)
IsCommandTurn before (Some command) after text faulted = (reply : Reply) × Answers before command reply after × IsPrinted after reply text faulted

-- a line is answered: an empty one by nothing
abbrev pub IsTurn : Session → List ℕ → Session → List ℕ → Bool → Type 0
IsTurn before line after text faulted =
    MatchBool (is_blank_line line) ((after ≡ before) × (text ≡ []) × (faulted ≡ false)) (IsCommandTurn before (command_of line) after text faulted)

-- one line's session, text and fault
pub record Turn (before : Session) (line : List ℕ) : Type 0 where
  pub after : Session
  pub text : List ℕ
  pub faulted : Bool
  pub is : IsTurn before line after text faulted

-- a line is answered, and that is written
abbrev pub WritesTurn : Session → List ℕ → Session → Bool → Option (List ℕ) → Option (List ℕ) → Type 0
WritesTurn before line after faulted old new = (text : List ℕ) × IsTurn before line after text faulted × Appends old new text

-- a line is answered, and a first part of that is written
abbrev pub WritesPartOfTurn : Session → List ℕ → Session → Option (List ℕ) → Option (List ℕ) → Type 0
WritesPartOfTurn before line after old new = (text : List ℕ) × (faulted : Bool) × IsTurn before line after text faulted × WritesPart old new text

-- the lines are answered one after the other: the session after them, all that is printed, and whether a fault was among it
abbrev pub Loops : Session → List (List ℕ) → Session → List ℕ → Bool → Type 0
Loops before [] after text faulted = (after ≡ before) × (text ≡ []) × (faulted ≡ false)
Loops before (line ∷ lines) after text faulted =
    (turn : Turn before line) × (rest : List ℕ) × (later : Bool)
    × Loops turn.after lines after rest later
    × (text ≡ turn.text ++ rest) × (faulted ≡ (turn.faulted || later))

-- lines were taken, and then a piece of one, and nothing behind it
abbrev pub StopsBehind : Option (List ℕ) → Option (List ℕ) → List (List ℕ) → Type 0
StopsBehind None new lines = ⊤
StopsBehind (Some text) None lines = ⊥
StopsBehind (Some text) (Some rest) lines = (piece : List ℕ) × (lacks piece ≡ true) × (lines_of text ≡ lines ++ lines_of (piece ++ rest))

-- a whole command loop: each line of the input is answered, and nothing else is written
pub record LoopsToEnd (before after : Session) (faulted : Bool) (input old new : Option (List ℕ)) : Type 0 where
  pub lines : List (List ℕ)
  pub all : IfSome input (λ text. lines_of text ≡ lines)
  pub text : List ℕ
  pub loops : Loops before lines after text faulted
  pub written : Appends old new text

-- all that was said is written, unless writing failed: then a first part of it
abbrev pub IsWritten : LoopStop → Option (List ℕ) → Option (List ℕ) → List ℕ → Type 0
IsWritten (stop.ReadFault number) old new text = Appends old new text
IsWritten (stop.Memory number) old new text = Appends old new text
IsWritten stop.WriteFault old new text = WritesPart old new text

-- ReadFault is said only where the input has failed (`unread`), and WriteFault only where a write has, as these say themselves
abbrev pub IsCaused : LoopStop → Bool → Bool → Type 0
IsCaused (stop.ReadFault number) unread broken = unread ≡ true
IsCaused (stop.Memory number) unread broken = ⊤
IsCaused stop.WriteFault unread broken = broken ≡ true

-- the number of the line behind those that were taken, at most the greatest u64
abbrev pub IsNumber : LoopStop → ℕ → Type 0
IsNumber (stop.ReadFault number) taken = number ≡ min (taken + 1) (2 ^ 64 - 1)
IsNumber (stop.Memory number) taken = number ≡ min (taken + 1) (2 ^ 64 - 1)
IsNumber stop.WriteFault taken = ⊤

-- a command loop that stopped: the lines that were taken are answered, and that is written as far as the stop says.
-- Its number counts these lines and those before the commands
pub record LoopsPart (stop : LoopStop) (earlier : ℕ) (before after : Session) (input left old new : Option (List ℕ)) : Type 0 where
  pub lines : List (List ℕ)
  pub taken : StopsBehind input left lines
  pub text : List ℕ
  pub faulted : Bool
  pub loops : Loops before lines after text faulted
  pub written : IsWritten stop old new text
  pub number : IsNumber stop (earlier + length lines)
