-- Which rule of ot.js makes the value of a first difference, and what is true of what was found.
use Rattle.std.specs.Prelude.{◌≡◌, ℕ, List, ◌++◌, Option, Some, None, option_map, string_bytes}
use Rattle.ot_isa.specs.Program.{Program}
use Rattle.ot_report.specs.Printed.{stop_line}
use Rattle.ot_rules.specs.Explained.{Explained, Explains, explained_text, explained_value}
use Rattle.ot_rules.specs.Notes as notes
use Rattle.ot_conform.specs.Answers.{agreement_text, difference_text, malformed_rows}
use Rattle.ot_conform.specs.Points.{difference_points, points_rows}
use Rattle.ot_conform.specs.declared.answers.Difference.{Difference}
use Rattle.ot_conform.specs.Unknown.{Named, all_named}
use Rattle.ot_conform.specs.declared.answer.Answer as program
use Rattle.ot_conform.specs.declared.comparison.Verdict.{Verdict}
use Rattle.ot_conform.specs.declared.comparison.Verdict.TheVariants.{Conforms, Differs, Stopped}
use Rattle.ot_conform.specs.declared.reading.Compared.{Compared}
use Rattle.ot_steps.specs.declared.key.Key.{Key}
use Rattle.ot_steps.specs.declared.key.Key.TheVariants as key
use Rattle.ot_conform.specs.declared.meeting.Field.{Field}
use Rattle.ot_conform.specs.declared.meeting.Field.TheVariants as field

-- what the rules are asked of a difference at the value of a key, or at the line itself
abbrev pub asked : Difference → Option Key → notes.Difference
asked d k = record { key = k; found = string_bytes d.found; wanted = string_bytes d.wanted; printed = d.tells_operation }

-- no rule makes the message: one that differs was changed on its way
abbrev pub AreFieldRules : Program → ℕ → Field → Difference → Option Explained → Type 0
AreFieldRules s number field.Line d said = Explains s number (asked d None) said
AreFieldRules s number field.Stopped d said = Explains s number (asked d (Some key.Stopped)) said
AreFieldRules s number field.Message d said = said ≡ None
AreFieldRules s number (field.Key k) d said = Explains s number (asked d (Some k)) said

-- what they say of it at an instruction of the schedule's run; nothing where none was performed
abbrev pub AreRules : Program → Option ℕ → Field → Difference → Option Explained → Type 0
AreRules s None f d said = said ≡ None
AreRules s (Some number) f d said = AreFieldRules s number f d said

-- what they say of a verdict
abbrev pub AreVerdictRules : Program → Verdict → Option Explained → Type 0
AreVerdictRules s (Conforms counts) said = said ≡ None
AreVerdictRules s (Differs difference) said = AreRules s difference.number difference.field difference said
AreVerdictRules s (Stopped place refusal) said = said ≡ None

-- ---- the answer: the value of which its words and its JSON are made

pub record Answer : Type 0 where
  pub verdict : Verdict
  pub unknown : List Named
  pub explained : Option Explained

abbrev pub answer_value : program.Answer → Answer
answer_value a = record { verdict = a.compared.verdict; unknown = all_named a.compared.unknown.items; explained = option_map explained_value a.explained }

-- of a comparison with the schedule's run
pub record IsAnswer (s : Program) (compared : Compared) (a : Answer) : Type 0 where
  pub verdict : a.verdict ≡ compared.verdict
  pub unknown : a.unknown ≡ all_named compared.unknown.items
  pub explained : AreVerdictRules s compared.verdict a.explained

-- the rows of a difference, the code points of what may look alike, what is wrong with the port's line, and behind them what the rules say
abbrev pub explained_rows : Difference → Option Explained → List ℕ
explained_rows d said = difference_text d ++ points_rows (difference_points d) ++ malformed_rows d.malformed ++ explained_text said

-- the lines of the verdict
abbrev pub verdict_text : Verdict → Option Explained → List ℕ
verdict_text (Conforms counts) said = agreement_text counts
verdict_text (Differs difference) said = explained_rows difference said
verdict_text (Stopped place refusal) said = stop_line place refusal
