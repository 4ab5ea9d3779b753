-- What is left on the output and on the faults, with the status.
use Rattle.std.specs.Prelude.{◌≡◌, ◌⊎◌, ℕ, List, [], ◌∷◌, ◌++◌, Option, Bool, true, codes}
use Rattle.std.specs.Io.KnownBytes.{Appends, Keeps}
use Rattle.streams.specs.Streams.{Writes, WritesPart}
use Rattle.streams.specs.declared.InputFault.{InputFault}
use Rattle.streams.specs.declared.InputFault.TheVariants.{Read, Memory}

-- the streams before and after: what was on the output and on the faults, and what is there now; and whether a write to either has failed
pub record Streams : Type 0 where
  pub output : Option (List ℕ)
  pub output' : Option (List ℕ)
  pub broken : Bool
  pub faults : Option (List ℕ)
  pub faults' : Option (List ℕ)
  pub faults_broken : Bool

-- the lines of faults that no place of the input has
abbrev pub memory_fault : List ℕ
memory_fault = codes "otbench: Memory" ++ 10 ∷ []

abbrev pub read_fault : List ℕ
read_fault = codes "otbench: ReadFault" ++ 10 ∷ []

-- the line of an input that was not read whole
abbrev pub input_fault : InputFault → List ℕ
input_fault Read = read_fault
input_fault Memory = memory_fault

-- a text on the faults
abbrev pub Says : List ℕ → Streams → Type 0
Says text streams = Writes streams.faults streams.faults' streams.faults_broken text

-- the line, or if memory for it runs out, the line that says so
abbrev pub Complains : List ℕ → Option (List ℕ) → Option (List ℕ) → Bool → Type 0
Complains line old new failed = Writes old new failed line ⊎ Writes old new failed memory_fault

-- status 1, nothing on the output, and the line on the faults
abbrev pub Refuses : List ℕ → ℕ → Streams → Type 0
Refuses line status streams = (status ≡ 1) × Keeps streams.output streams.output' × Says line streams

-- the same with a line that has to be made: if memory for it runs out, the line that says so
abbrev pub MayRefuse : List ℕ → ℕ → Streams → Type 0
MayRefuse line status streams = (status ≡ 1) × Keeps streams.output streams.output' × Complains line streams.faults streams.faults' streams.faults_broken

-- status 1, nothing on the output, and on the faults that memory ran out
abbrev pub OutOfMemory : ℕ → Streams → Type 0
OutOfMemory status streams = Refuses memory_fault status streams

-- status 1, nothing on the output, and on the faults why the input was not read whole: memory ran out, or, only where the input says that it has
-- failed (`unread`), a read failed or the input is too long
pub record GivesUp (unread : Bool) (status : ℕ) (streams : Streams) : Type 0 where
  pub fault : InputFault
  pub cause : fault ≡ Read → unread ≡ true
  pub refuses : Refuses (input_fault fault) status streams

-- the whole text and its status; or, only where a write failed, a first part of it and status 1
abbrev pub Puts : ℕ → List ℕ → ℕ → Option (List ℕ) → Option (List ℕ) → Bool → Type 0
Puts right text status old new broken = ((status ≡ right) × Appends old new text) ⊎ ((status ≡ 1) × WritesPart old new text × (broken ≡ true))

-- the output with its status, as far as writing went, and nothing on the faults
abbrev pub Gives : ℕ → List ℕ → ℕ → Streams → Type 0
Gives right text status streams = Puts right text status streams.output streams.output' streams.broken × Keeps streams.faults streams.faults'
