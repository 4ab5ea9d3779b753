-- What `asm` and `dis` write and answer.
use Rattle.std.specs.Prelude.{◌⊎◌, ℕ}
use Rattle.ot_isa.specs.Program.{Program}
use Rattle.ot_asm.specs.Canonical.{canonical}
use Rattle.ot_image.specs.Spelling.{bytes2}
use Rattle.streams.specs.Outcomes.{Streams, Gives, OutOfMemory}

-- the image, or out of memory
abbrev pub MayGiveImage : Program → ℕ → Streams → Type 0
MayGiveImage schedule status streams = Gives 0 (bytes2 schedule) status streams ⊎ OutOfMemory status streams

-- the canonical text, or out of memory
abbrev pub MayGiveText : Program → ℕ → Streams → Type 0
MayGiveText schedule status streams = Gives 0 (canonical schedule) status streams ⊎ OutOfMemory status streams
