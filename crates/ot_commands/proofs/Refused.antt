-- What is written of a text that is refused, and of one that is none.
use Rattle.std.proofs.Common.{◌≡◌, ℕ, Bool, true, false, List, Option, Some, None, Ok, inr}
use Rattle.std.specs.Prelude.{IfSome}
use Rattle.streams.specs.Outcomes.{Streams, memory_fault}
use Rattle.streams.specs.Streams.{Writes}
use Rattle.ot_asm.specs.Stepping.{outcome}
use Rattle.ot_asm.specs.declared.fault.AsmFault.{AsmFault}
use Rattle.ot_isa.specs.Program.{Program}
use Rattle.ot_commands.specs.Explains.{AddsWords}
use Rattle.ot_commands.specs.Inputs.{OfText}

-- memory for the words ran out
pub lacks_words : (of_text : Bool) (lines : List (List ℕ)) (fault : AsmFault) (told new : Option (List ℕ)) (failed : Bool) → Writes told new failed memory_fault → AddsWords of_text lines fault told new failed
lacks_words false lines fault told new failed written = inr written
lacks_words true lines fault told new failed written = inr written

-- the text spells a schedule, which is dealt with
pub of_text : (does : Program → ℕ → Streams → Type 0) (input : Option (List ℕ)) (unread : Bool) (schedule : Program) (status : ℕ) (streams : Streams)
    → IfSome input (λ text. outcome text ≡ Ok schedule) → does schedule status streams
    → IfSome input (λ text. OfText does unread text status streams)
of_text does None unread schedule status streams spelled did = tt
of_text does (Some text) unread schedule status streams spelled did = inr (schedule, spelled, did)
