-- Which texts spell a schedule, by cases on the list of lines.
use Rattle.std.specs.Prelude.{◌≡◌, ◌⊎◌, ℕ, true, List, [], ◌∷◌, map, filter, Some, Ok}
use Rattle.std.specs.List.{AllByRecursion}
use Rattle.std.specs.Str.{is_utf8}
use Rattle.ot_isa.specs.Program.{Program, IsProgram}
use Rattle.ot_isa.specs.declared.instruction.Instr.{Instr}
use Rattle.ot_isa.specs.declared.instruction.Instr.TheVariants.{Edit, Take, Deliver, Acknowledge, Read, Join, ReadServer}
use Rattle.streams.specs.Lines.{lines_of}
use Rattle.ot_asm.specs.Words.{trimmed, counts, first_word, after_word, keyword_of}
use Rattle.ot_asm.specs.Numbers.{number}
use Rattle.ot_asm.specs.Stepping.{string_of_text, operation_of_rest}
use Rattle.ot_asm.specs.declared.keyword.Keyword.{Keyword}
use Rattle.ot_asm.specs.declared.keyword.Keyword.TheVariants as word

-- a keyword and a number, with `rest` after them
abbrev pub Says : List ℕ → Keyword → ℕ → List ℕ → Type 0
Says line keyword n rest =
    (keyword_of (first_word line) ≡ keyword) × (number (first_word (after_word line)) ≡ Some n) × (after_word (after_word line) ≡ rest)

-- the line spells the instruction
abbrev pub SpellsInstr : List ℕ → Instr → Type 0
SpellsInstr line (Edit client op) = Says line word.Edit client (after_word (after_word line)) × (operation_of_rest (after_word (after_word line)) ≡ Ok op)
SpellsInstr line (Take client) = Says line word.Take client []
SpellsInstr line (Deliver client) = Says line word.Deliver client []
SpellsInstr line (Acknowledge client) = Says line word.Acknowledge client []
SpellsInstr line (Read client) = Says line word.Read client []
SpellsInstr line (Join client) = Says line word.Join client []
SpellsInstr line ReadServer = (keyword_of (first_word line) ≡ word.ReadServer) × (after_word line ≡ [])

-- each line spells its instruction
abbrev pub SpellsInstrs : List (List ℕ) → List Instr → Type 0
SpellsInstrs [] [] = Unit {0}
SpellsInstrs [] (i ∷ is) = ⊥
SpellsInstrs (l ∷ ls) [] = ⊥
SpellsInstrs (l ∷ ls) (i ∷ is) = SpellsInstr l i × SpellsInstrs ls is

-- the lines below those of the clients: an optional start, then the instructions
abbrev pub SpellsStart : List (List ℕ) → List ℕ → List Instr → Type 0
SpellsStart [] start instrs = (start ≡ []) × (instrs ≡ [])
SpellsStart (l ∷ ls) start instrs =
    ((keyword_of (first_word l) ≡ word.Start) × (string_of_text (after_word l) ≡ Some start) × SpellsInstrs ls instrs)
    ⊎ ((start ≡ []) × SpellsInstrs (l ∷ ls) instrs)

-- the lines below `clients N`: optionally the number of present clients, then the rest
abbrev pub SpellsPresent : List (List ℕ) → Program → Type 0
SpellsPresent [] s = (s.present ≡ s.clients) × SpellsStart [] s.start s.instrs
SpellsPresent (l ∷ ls) s =
    (Says l word.Present s.present [] × SpellsStart ls s.start s.instrs)
    ⊎ ((s.present ≡ s.clients) × SpellsStart (l ∷ ls) s.start s.instrs)

-- the lines that count, the first of which is `clients N`
abbrev pub SpellsLines : List (List ℕ) → Program → Type 0
SpellsLines [] s = ⊥
SpellsLines (l ∷ ls) s = Says l word.Clients s.clients [] × SpellsPresent ls s

-- the lines of a text that count, trimmed
abbrev pub counted : List ℕ → List (List ℕ)
counted text = filter counts (map trimmed (lines_of text))

-- the text spells the schedule
abbrev pub Spells : List ℕ → Program → Type 0
Spells text s = AllByRecursion (λ line. is_utf8 line ≡ true) (lines_of text) × SpellsLines (counted text) s × IsProgram s

-- a text spells at most one schedule
abbrev pub SpellsAtMostOne : Type 0
SpellsAtMostOne = (text : List ℕ) (s r : Program) → Spells text s → Spells text r → s ≡ r
