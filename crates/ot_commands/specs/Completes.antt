-- What `complete` writes and answers.
use Rattle.std.specs.Prelude.{◌⊎◌, ℕ, List, [], ◌∷◌, ◌++◌, codes}
use Rattle.ot_isa.specs.Program.{Program, IsProgram}
use Rattle.ot_asm.specs.Canonical.{canonical}
use Rattle.ot_generate.specs.Completed.{IsCompletion, IsIncomplete}
use Rattle.ot_generate.specs.declared.completing.Incomplete.{Incomplete}
use Rattle.ot_generate.specs.declared.completing.Incomplete.TheVariants.{Refused, TooMany, Memory}
use Rattle.ot_report.specs.Printed.{stop_line}
use Rattle.streams.specs.Outcomes.{Streams, Gives, MayRefuse, OutOfMemory, memory_fault}

-- the line of a schedule that is not completed
abbrev pub incomplete_line : Incomplete → List ℕ
incomplete_line (Refused place refusal) = stop_line place refusal
incomplete_line TooMany = codes "otbench: TooMany" ++ 10 ∷ []
incomplete_line Memory = memory_fault

-- the canonical text of the schedule and what brings it to quiet
pub record GivesCompletion (schedule : Program) (status : ℕ) (streams : Streams) : Type 0 where
  pub completion : Program
  pub limits : IsProgram completion
  pub is_completion : IsCompletion schedule completion
  pub gives : Gives 0 (canonical completion) status streams

-- nothing on the output, and on the faults why the schedule is not completed
pub record LeavesIncomplete (schedule : Program) (status : ℕ) (streams : Streams) : Type 0 where
  pub fault : Incomplete
  pub is_incomplete : IsIncomplete schedule fault
  pub refuses : MayRefuse (incomplete_line fault) status streams

-- the completion, or why there is none, or out of memory
abbrev pub MayComplete : Program → ℕ → Streams → Type 0
MayComplete schedule status streams = GivesCompletion schedule status streams ⊎ LeavesIncomplete schedule status streams ⊎ OutOfMemory status streams
