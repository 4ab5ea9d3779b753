-- A port's line that is a line of `steps`, byte for byte.
use Rattle.std.specs.Prelude.{◌≡◌, ℕ, List, [], ◌∷◌, ◌++◌, Option, None, Some}
use Rattle.ot_steps.specs.Lines.{Line}
use Rattle.ot_steps.specs.Text.{line_text}
use Rattle.ot_conform.specs.Answers.{IsCompared}
use Rattle.ot_conform.specs.Counted.{with_port_line, with_printed}
use Rattle.ot_conform.specs.Differences.{field_of}
use Rattle.ot_conform.specs.Due.{DueLine}
use Rattle.ot_conform.specs.Ports.{PortLine, port_line}
use Rattle.ot_conform.specs.Unknown.{Named, with_unknown}
use Rattle.ot_conform.specs.declared.answers.Difference.{Difference}
use Rattle.ot_conform.specs.declared.comparison.Verdict.{Verdict}
use Rattle.ot_conform.specs.declared.comparison.Verdict.TheVariants.{Differs}
use Rattle.ot_conform.specs.declared.counts.Counts.{Counts}

-- the bytes are the line without its LF
abbrev pub IsPrinted : Line → List ℕ → Type 0
IsPrinted line bytes = bytes ++ 10 ∷ [] ≡ line_text line

-- a port's line with these bytes agrees with the one that is due, and has the values and no other keys than the line of `steps` has
pub record StandsFor (due : DueLine) (printed : Line) : Type 0 where
  pub agrees : (bytes : List ℕ) → IsPrinted printed bytes → field_of due (port_line bytes) ≡ None
  pub counts : (bytes : List ℕ) (c : Counts) → IsPrinted printed bytes → with_port_line c (port_line bytes) ≡ with_printed c printed
  pub known : (bytes : List ℕ) (number : ℕ) (ns : List Named) → IsPrinted printed bytes → with_unknown number (port_line bytes) ns ≡ ns

-- a line agrees with the one that is due, and these are the counts with what it says; or the verdict is that it differs
abbrev pub IsJudged : Counts → Counts → DueLine → PortLine → Option Verdict → Type 0
IsJudged c c' due line None = (field_of due line ≡ None) × (c' ≡ with_port_line c line)
IsJudged c c' due line (Some verdict) = (d : Difference) × IsCompared due line d × (verdict ≡ Differs d)
