-- What `generate` writes and answers.
use Rattle.std.specs.Prelude.{◌⊎◌, ℕ}
use Rattle.ot_isa.specs.Program.{Program, IsProgram}
use Rattle.ot_asm.specs.Canonical.{canonical}
use Rattle.ot_generate.specs.Generated.{IsGenerated}
use Rattle.ot_generate.specs.Shapes.{ShapeView}
use Rattle.streams.specs.Outcomes.{Streams, Gives, OutOfMemory}

-- the canonical text of a schedule within the limits, that was made as the shape asks: each instruction is performed, and unless the end
-- may be open all is quiet there and everybody is read
pub record GivesSession (shape : ShapeView) (status : ℕ) (streams : Streams) : Type 0 where
  pub schedule : Program
  pub limits : IsProgram schedule
  pub generated : IsGenerated shape schedule
  pub gives : Gives 0 (canonical schedule) status streams

-- a session, or out of memory
abbrev pub Generates : ShapeView → ℕ → Streams → Type 0
Generates shape status streams = GivesSession shape status streams ⊎ OutOfMemory status streams
