-- What holds of a schedule and its canonical text.
use Rattle.ot_isa.specs.Program.{Program, IsProgram}
use Rattle.ot_asm.specs.Spelling.{Spells}
use Rattle.ot_asm.specs.Canonical.{canonical}

-- the canonical text of a schedule spells it
abbrev pub CanonicalSpells : Type 0
CanonicalSpells = (s : Program) → IsProgram s → Spells (canonical s) s
