-- What `explain --image` writes and answers.
use Rattle.std.specs.Prelude.{◌≡◌, ◌⊎◌, ℕ, List, Bool, Option, Some, None, Err}
use Rattle.std.specs.Io.KnownBytes.{Keeps}
use Rattle.streams.specs.Outcomes.{Complains, GivesUp, Streams, OutOfMemory}
use Rattle.ot_asm.specs.Canonical.{canonical}
use Rattle.ot_image.specs.declared.fault.ImageFault.{ImageFault}
use Rattle.ot_image.specs.declared.fault.Kind.{Kind}
use Rattle.ot_image.specs.declared.fault.Kind.TheVariants.{Memory}
use Rattle.ot_image.specs.Reading.{image_of, IsWant}
use Rattle.ot_image.specs.Spelling.{IsImageOf}
use Rattle.ot_image.specs.Words.{first_words}
use Rattle.ot_commands.specs.Faults.{byte_fault}
use Rattle.ot_isa.specs.Program.{Program}
use Rattle.ot_commands.specs.Explains.{ExplainsText}

-- the words for a fault of the bytes; memory that ran out has none
abbrev pub words_of_kind : List ℕ → Kind → Option (List ℕ)
words_of_kind bytes Memory = None
words_of_kind bytes kind = first_words bytes

abbrev pub image_words : List ℕ → ImageFault → Option (List ℕ)
image_words bytes fault = words_of_kind bytes fault.kind

-- the words, or if memory runs out, the line that says so; where there are none nothing is written
abbrev pub Adds : Option (List ℕ) → Option (List ℕ) → Option (List ℕ) → Bool → Type 0
Adds None old new failed = new ≡ old
Adds (Some words) old new failed = Complains words old new failed

-- the fault's line, and behind it the words
pub record TellsImage (bytes : List ℕ) (fault : ImageFault) (old new : Option (List ℕ)) (failed : Bool) : Type 0 where
  pub told : Option (List ℕ)
  pub line : Complains (byte_fault fault) old told failed
  pub words : Adds (image_words bytes fault) told new failed

-- bytes that are no image, or out of memory at a field before the fault: nothing on the output; on the faults the fault's line and its words
pub record RefusesImage (bytes : List ℕ) (status : ℕ) (streams : Streams) : Type 0 where
  pub fault : ImageFault
  pub is_fault : (image_of bytes ≡ Err fault) ⊎ IsWant bytes fault
  pub status_is : status ≡ 1
  pub output : Keeps streams.output streams.output'
  pub tells : TellsImage bytes fault streams.faults streams.faults' streams.faults_broken

-- the schedule's canonical text is explained, or memory for it ran out
abbrev pub ExplainsCanonical : Program → ℕ → Streams → Type 0
ExplainsCanonical schedule status streams = ExplainsText (canonical schedule) status streams ⊎ OutOfMemory status streams

-- the bytes are refused, or they are the image of a schedule, which is explained
abbrev pub ExplainsBytes : List ℕ → ℕ → Streams → Type 0
ExplainsBytes bytes status streams = RefusesImage bytes status streams ⊎ ((schedule : Program) × IsImageOf bytes schedule × ExplainsCanonical schedule status streams)

-- the bytes were not read whole (`unread`: the input has failed), or they are dealt with
abbrev pub ExplainsImage : Bool → List ℕ → ℕ → Streams → Type 0
ExplainsImage unread bytes status streams = GivesUp unread status streams ⊎ ExplainsBytes bytes status streams
