-- All lines of a reader, where marks do not count.
use Rattle.std.proofs.Common.{◌≡◌, ℕ, List, false, Option, None, Some, Result, Ok}
use Rattle.std.specs.Prelude.{IfSome}
use Rattle.streams.specs.Lines.{lines_of}
use Rattle.ot_isa.specs.Program.{Program, IsProgram}
use Rattle.ot_asm.specs.Stepping.{outcome, outcome_of_lines, IsFaultlessBefore}
use Rattle.ot_asm.specs.Spelling.{Spells}
use Rattle.ot_asm.specs.Parts.{lines_before}
use Rattle.ot_asm.specs.declared.fault.AsmFault.{AsmFault}
use Rattle.ot_asm.proofs.Running.{all_before}
use Rattle.ot_asm.proofs.Read.{spells}

pub whole_outcome : (known : Option (List ℕ)) (result : Result Program AsmFault) → IfSome known (λ t. outcome_of_lines (lines_before false (lines_of t)) ≡ result) → IfSome known (λ t. outcome t ≡ result)
whole_outcome None result h = tt
whole_outcome (Some text) result h = let e = rw (all_before (lines_of text)) at h in e

pub whole_spells : (known : Option (List ℕ)) (s : Program) → IfSome known (λ t. outcome t ≡ Ok s) → IsProgram s → IfSome known (λ t. Spells t s)
whole_spells None s h limits = tt
whole_spells (Some text) s h limits = spells text s h limits

pub whole_faultless : (known : Option (List ℕ)) (line : ℕ) → IfSome known (λ t. IsFaultlessBefore (lines_before false (lines_of t)) line) → IfSome known (λ t. IsFaultlessBefore (lines_of t) line)
whole_faultless None line h = tt
whole_faultless (Some text) line h = let e = rw (all_before (lines_of text)) at h in e
