-- The lines before a mark, kept as a text.
use Rattle.std.specs.Prelude.{◌≡◌, ◌⊎◌, ◌+◌, ◌-◌, ◌<◌, ◌||◌, ℕ, Bool, true, false, List, [], ◌∷◌, ◌++◌, length}
use Rattle.streams.specs.Lines.{lines_of}
use Rattle.ot_asm.specs.Parts.{is_mark}
use Rattle.ot_asm.specs.declared.fault.AsmFault.{AsmFault}
use Rattle.ot_asm.specs.declared.fault.Kind.TheVariants.{Memory, ReadFault}
use Rattle.ot_faults.specs.Faults.{is_of_text}

-- a mark stands in these lines
abbrev pub has_mark : List (List ℕ) → Bool
has_mark [] = false
has_mark (l ∷ ls) = is_mark l || has_mark ls

-- the text has the lines before that of the fault, which could not be kept or, where the input has failed (`unread`), read
pub record BreaksIn (unread : Bool) (text : List ℕ) (lines : List (List ℕ)) (fault : AsmFault) : Type 0 where
  pub rest : List (List ℕ)
  pub all : lines ≡ lines_of text ++ rest
  pub number : fault.line ≡ 1 + length (lines_of text)
  pub cause : (fault.kind ≡ Memory) ⊎ ((fault.kind ≡ ReadFault) × (unread ≡ true))

-- lines that were kept are the first of these, and a fault of the text stands in one of them, or they are all
abbrev pub HasFaultIn : List (List ℕ) → List (List ℕ) → AsmFault → Type 0
HasFaultIn kept lines fault =
    is_of_text fault.kind ≡ true → (rest : List (List ℕ)) × (lines ≡ kept ++ rest) × ((rest ≡ []) ⊎ (fault.line - 1 < length kept))
