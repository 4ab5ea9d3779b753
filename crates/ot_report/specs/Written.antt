-- What is written of a run while it goes.
use Rattle.std.specs.Prelude.{◌≡◌, ◌⊎◌, ℕ, ◌<◌, List, [], ◌++◌, Bool, Option, Some, None}
use Rattle.std.specs.Io.KnownBytes.{Appends, Keeps}
use Rattle.streams.specs.Streams.{WritesPart}
use Rattle.ot_isa.specs.Program.{Program}
use Rattle.ot_isa.specs.declared.elements.Tag.{Tag}
use Rattle.ot_model.specs.declared.shown.Refusal.{Refusal}
use Rattle.ot_model.specs.declared.shown.Shown.{Shown}
use Rattle.ot_model.specs.Table.{Place, State}
use Rattle.ot_model.specs.Runs.{done, place_at}
use Rattle.ot_machine.specs.declared.outcome.Run.{Run}
use Rattle.ot_machine.specs.Ended.{reached, IsRun, IsStop}
use Rattle.ot_report.specs.Authors.{author_of}
use Rattle.ot_report.specs.Printed.{read_lines, read_text, IsReport}
use Rattle.ot_report.specs.declared.authors.Author.{Author}
use Rattle.streams.specs.declared.OutputFault.{OutputFault}
use Rattle.streams.specs.declared.OutputFault.TheVariants.{Memory, WriteFault}

-- the text is the report of a run of the schedule
pub record IsReportOf (json : Bool) (s : Program) (run : Run) (text : List ℕ) : Type 0 where
  pub is_run : IsRun s run
  pub is_report : IsReport json s run text

-- the report of the schedule's run is written, which ended in this way
pub record WritesReport (json : Bool) (s : Program) (stopped : Option (ℕ × Refusal)) (old new : Option (List ℕ)) : Type 0 where
  pub run : Run
  pub stopped_is : run.stopped ≡ stopped
  pub text : List ℕ
  pub is : IsReportOf json s run text
  pub written : Appends old new text

-- a first part of the report of a run of the schedule is written
pub record WritesPartOfReport (json : Bool) (s : Program) (old new : Option (List ℕ)) : Type 0 where
  pub run : Run
  pub text : List ℕ
  pub is : IsReportOf json s run text
  pub written : WritesPart old new text

-- the lines of the reads among the first instructions are written, and nothing else
pub record WritesFirstReads (json : Bool) (s : Program) (old new : Option (List ℕ)) : Type 0 where
  pub performed : ℕ
  pub place : Place
  pub at : place_at s performed ≡ Some place
  pub written : Appends old new (read_lines json (author_of s.instrs) place.shown)

-- what stands there after a fault: whole lines of reads if memory ran out, else a first part of the report
abbrev pub WritesReportUpTo : OutputFault → Bool → Program → Option (List ℕ) → Option (List ℕ) → Type 0
WritesReportUpTo Memory json s old new = WritesFirstReads json s old new
WritesReportUpTo WriteFault json s old new = WritesPartOfReport json s old new

-- ---- for private clauses

-- what is gathered is still there, or it is written
abbrev pub Flushes : List ℕ → List ℕ → Option (List ℕ) → Option (List ℕ) → Type 0
Flushes before after old new = (Keeps old new × (after ≡ before)) ⊎ (Appends old new before × (after ≡ []))

-- the line of what an instruction showed
abbrev pub shown_line : Bool → (Tag → Option Author) → Option Shown → List ℕ
shown_line json by None = []
shown_line json by (Some shown) = read_text json by shown

-- and that is gathered too
abbrev pub Gathers : Bool → (Tag → Option Author) → Option Shown → List ℕ → List ℕ → Option (List ℕ) → Option (List ℕ) → Type 0
Gathers json by shown before after old new = (between : List ℕ) × Flushes before between old new × (after ≡ between ++ shown_line json by shown)

-- what stands there where it is not
abbrev pub GathersUpTo : OutputFault → List ℕ → Option (List ℕ) → Option (List ℕ) → Type 0
GathersUpTo Memory before old new = (between : List ℕ) × Flushes before between old new
GathersUpTo WriteFault before old new = WritesPart old new before

-- of the reads shown so far the first ones are written, and the others are gathered
pub record AreGathered (json : Bool) (s : Program) (shown : List Shown) (gathered : List ℕ) (old new : Option (List ℕ)) : Type 0 where
  pub first : WritesFirstReads json s old new
  pub others : List Shown
  pub shown_are : shown ≡ first.place.shown ++ others
  pub gathered_are : gathered ≡ read_lines json (author_of s.instrs) others

-- all instructions up to the stop are performed, and the lines of their reads gathered
pub record GathersReads (json : Bool) (s : Program) (stopped : Option (ℕ × Refusal)) (state : State) (gathered : List ℕ) (old new : Option (List ℕ)) : Type 0 where
  pub place : Place
  pub at : place_at s (reached s stopped) ≡ Some place
  pub state_is : place.state ≡ state
  pub stop : IsStop s state stopped
  pub reads : AreGathered json s place.shown gathered old new

-- what stands there after a fault among them: it comes before an instruction that the table performs
abbrev pub ReadsUpTo : OutputFault → Bool → Program → Option (List ℕ) → Option (List ℕ) → Type 0
ReadsUpTo Memory json s old new = WritesFirstReads json s old new
ReadsUpTo WriteFault json s old new = (p : ℕ) × (p < done s) × ((place : Place) × (place_at s p ≡ Some place) × WritesPart old new (read_lines json (author_of s.instrs) place.shown))
