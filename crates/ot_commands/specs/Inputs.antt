-- What a subcommand does with a schedule that is its input.
use Rattle.std.specs.Prelude.{◌≡◌, ◌⊎◌, ℕ, List, Bool, true, false, Ok}
use Rattle.streams.specs.Lines.{lines_of}
use Rattle.ot_isa.specs.Program.{Program}
use Rattle.ot_asm.specs.Stepping.{outcome}
use Rattle.ot_asm.specs.declared.fault.AsmFault.{AsmFault}
use Rattle.ot_image.specs.Spelling.{IsImageOf}
use Rattle.ot_commands.specs.Faults.{AnswersFault, IsLineFault, RefusesLines, RefusesImage}
use Rattle.streams.specs.Outcomes.{Streams, GivesUp}

-- the text is refused (`unread`: the input has failed), or it spells a schedule, which is dealt with
abbrev pub OfText : (Program → ℕ → Streams → Type 0) → Bool → List ℕ → ℕ → Streams → Type 0
OfText does unread text status streams =
    RefusesLines unread (lines_of text) status streams ⊎ ((schedule : Program) × (outcome text ≡ Ok schedule) × does schedule status streams)

-- the same where the answer is JSON, and that of a refused text too: the text was not read whole (`unread`: the input has failed), or it is refused, or dealt with
abbrev pub OfWholeText : (Program → ℕ → Streams → Type 0) → Bool → List ℕ → ℕ → Streams → Type 0
OfWholeText does unread text status streams =
    GivesUp unread status streams
    ⊎ ((fault : AsmFault) × IsLineFault false (lines_of text) fault × AnswersFault (lines_of text) fault status streams)
    ⊎ ((schedule : Program) × (outcome text ≡ Ok schedule) × does schedule status streams)

-- in words, or as JSON
abbrev pub OfTextAs : Bool → (Program → ℕ → Streams → Type 0) → Bool → List ℕ → ℕ → Streams → Type 0
OfTextAs false does unread text status streams = OfText does unread text status streams
OfTextAs true does unread text status streams = OfWholeText does unread text status streams

-- the bytes were not read whole (`unread`: the input has failed), or they are refused, or they are the image of a schedule, which is dealt with
abbrev pub OfImage : (Program → ℕ → Streams → Type 0) → Bool → List ℕ → ℕ → Streams → Type 0
OfImage does unread bytes status streams =
    GivesUp unread status streams ⊎ RefusesImage bytes status streams ⊎ ((schedule : Program) × IsImageOf bytes schedule × does schedule status streams)
