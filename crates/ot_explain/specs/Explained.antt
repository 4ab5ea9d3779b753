-- A run in words, and what of it is written.
use Rattle.std.specs.Prelude.{◌≡◌, ◌⊎◌, ℕ, suc, ◌≤◌, List, [], ◌∷◌, ◌++◌, get_or, slice_get, take, Bool, Option, Some, None, is_some, codes, if◌then◌else◌}
use Rattle.std.specs.Io.KnownBytes.{Appends, Keeps}
use Rattle.streams.specs.Streams.{WritesPart}
use Rattle.ot_isa.specs.Program.{Program}
use Rattle.ot_isa.specs.declared.instruction.Instr.{Instr}
use Rattle.ot_model.specs.declared.shown.Refusal.{Refusal}
use Rattle.ot_model.specs.declared.shown.Shown.{Shown}
use Rattle.ot_model.specs.Table.{Place, State, Performed, Refused, NoRow, step}
use Rattle.ot_model.specs.Runs.{done, opening_of, place_at}
use Rattle.ot_machine.specs.Ended.{reached, IsStop}
use Rattle.ot_steps.specs.Steps.{is_quiet}
use Rattle.ot_asm.specs.Comments.{Said, cut_text}
use Rattle.ot_asm.specs.Named.{named}
use Rattle.ot_explain.specs.Told.{opening_words, paragraph}
use Rattle.ot_explain.specs.Reasons.{refused_paragraph}
use Rattle.ot_explain.specs.Agreeing.{verdict_words}
use Rattle.streams.specs.declared.OutputFault.{OutputFault}
use Rattle.streams.specs.declared.OutputFault.TheVariants.{Memory, WriteFault}

-- ---- the text of a run; `lines` are the lines of the instructions, and `said` is what the comments tell

-- the line of an instruction
abbrev pub line_at : List ℕ → ℕ → ℕ
line_at lines number = get_or lines number 0

-- the paragraphs of the instructions up to the first refusal, with the clients' names, from the state s on, the first of which has this number
abbrev pub paragraphs : List ℕ → Said → ℕ → State → List Instr → List ℕ
paragraphs lines said number s [] = []
paragraphs lines said number s (i ∷ is) =
    elim (step s i) [
      | Performed t shown ↦ named said.names (paragraph (line_at lines number) number i s t) ++ paragraphs lines said (suc number) t is
      | Refused r ↦ []
      | NoRow ↦ []
    ]

-- of the first p instructions
abbrev pub first_paragraphs : List ℕ → Said → Program → ℕ → List ℕ
first_paragraphs lines said s p = paragraphs lines said 0 (opening_of s) (take p s.instrs)

-- the opening before them
abbrev pub first_text : List ℕ → Said → Program → ℕ → List ℕ
first_text lines said s p = opening_words s ++ first_paragraphs lines said s p

-- the instruction at which a run stopped in the state s, if it did
abbrev pub stop_at : List ℕ → List Instr → ℕ → Refusal → State → Option Instr → List ℕ
stop_at lines is number refusal s None = []
stop_at lines is number refusal s (Some i) = refused_paragraph lines is number i s refusal

abbrev pub stop_text : List ℕ → Program → State → Option (ℕ × Refusal) → List ℕ
stop_text lines s state None = []
stop_text lines s state (Some stop) = stop_at lines s.instrs stop.0 stop.1 state (slice_get s.instrs stop.0)

abbrev pub end_words : Bool → List ℕ
end_words quiet = if quiet then codes "the end: all is quiet\n" else codes "the end: not all is quiet\n"

-- the stop and the end of a run that ends in this state, and the verdict on it
abbrev pub end_text : List ℕ → Program → State → Option (ℕ × Refusal) → List ℕ
end_text lines s state stopped = stop_text lines s state stopped ++ (end_words (is_quiet state) ++ verdict_words state)

-- these with the clients' names, and what tells of the cut
abbrev pub last_text : List ℕ → Said → Program → State → Option (ℕ × Refusal) → List ℕ
last_text lines said s state stopped = named said.names (end_text lines s state stopped) ++ cut_text said.cut

abbrev pub run_text : List ℕ → Said → Program → State → Option (ℕ × Refusal) → List ℕ
run_text lines said s state stopped = first_text lines said s (reached s stopped) ++ last_text lines said s state stopped

-- ---- what is written

-- the text is that of the schedule's run, which ends in this way
pub record IsRunText (lines : List ℕ) (said : Said) (s : Program) (stopped : Option (ℕ × Refusal)) (text : List ℕ) : Type 0 where
  pub place : Place
  pub at : place_at s (reached s stopped) ≡ Some place
  pub stop : IsStop s place.state stopped
  pub is : text ≡ run_text lines said s place.state stopped

-- the whole run is written; `refused` says whether an instruction was not performed
pub record WritesRun (lines : List ℕ) (said : Said) (s : Program) (refused : Bool) (old new : Option (List ℕ)) : Type 0 where
  pub stopped : Option (ℕ × Refusal)
  pub text : List ℕ
  pub is : IsRunText lines said s stopped text
  pub refused_is : refused ≡ is_some stopped
  pub written : Appends old new text

-- nothing is written, or the opening and the paragraphs of the first instructions
abbrev pub WritesFirst : List ℕ → Said → Program → Option (List ℕ) → Option (List ℕ) → Type 0
WritesFirst lines said s old new = Keeps old new ⊎ ((p : ℕ) × (p ≤ done s) × Appends old new (first_text lines said s p))

-- a first part of the run is written
pub record WritesPartOfRun (lines : List ℕ) (said : Said) (s : Program) (old new : Option (List ℕ)) : Type 0 where
  pub text : List ℕ
  pub is : ((p : ℕ) × (p ≤ done s) × (text ≡ first_text lines said s p)) ⊎ ((stopped : Option (ℕ × Refusal)) × IsRunText lines said s stopped text)
  pub written : WritesPart old new text

-- what stands there after a fault: whole paragraphs if memory ran out, else a first part of the text
abbrev pub WritesUpTo : OutputFault → List ℕ → Said → Program → Option (List ℕ) → Option (List ℕ) → Type 0
WritesUpTo Memory lines said s old new = WritesFirst lines said s old new
WritesUpTo WriteFault lines said s old new = WritesPartOfRun lines said s old new

-- ---- for private clauses

-- the instruction is performed, and the text is its paragraph
pub record IsMove (line number : ℕ) (i : Instr) (s t : State) (text : List ℕ) : Type 0 where
  pub shown : Option Shown
  pub performed : step s i ≡ Performed t shown
  pub is : text ≡ paragraph line number i s t

-- all instructions up to the stop are performed, and their paragraphs written
pub record WritesMoves (lines : List ℕ) (said : Said) (s : Program) (stopped : Option (ℕ × Refusal)) (state : State) (old new : Option (List ℕ)) : Type 0 where
  pub place : Place
  pub at : place_at s (reached s stopped) ≡ Some place
  pub state_is : place.state ≡ state
  pub stop : IsStop s state stopped
  pub written : Appends old new (first_paragraphs lines said s (reached s stopped))

-- what stands there after a fault among them
abbrev pub MovesUpTo : OutputFault → List ℕ → Said → Program → Option (List ℕ) → Option (List ℕ) → Type 0
MovesUpTo Memory lines said s old new = (p : ℕ) × (p ≤ done s) × Appends old new (first_paragraphs lines said s p)
MovesUpTo WriteFault lines said s old new = (p : ℕ) × (p ≤ done s) × WritesPart old new (first_paragraphs lines said s p)
