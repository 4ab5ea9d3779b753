-- What the lines before a line make: which words may begin it, and how many clients there are.
use Rattle.std.specs.Prelude.{ℕ, ◌-◌, List, [], ◌∷◌, Option, Some, None, codes, get_or, take, if◌then◌else◌}
use Rattle.std.specs.Str.{bytes_eq}
use Rattle.ot_asm.specs.Numbers.{number}
use Rattle.ot_asm.specs.Words.{after_word, counts, first_word, trimmed}
use Rattle.ot_faults.specs.declared.reached.Reached.{Reached}
use Rattle.ot_faults.specs.declared.reached.Stage.{Stage}
use Rattle.ot_faults.specs.declared.reached.Stage.TheVariants.{Opening, AfterClients, AfterPresent, InBody}

abbrev pub opening : Reached
opening = record { stage = Opening; clients = 0 }

-- the stage behind a line that begins with this word
abbrev pub next_stage : Stage → List ℕ → Stage
next_stage Opening word = AfterClients
next_stage AfterClients word = if bytes_eq word (codes "present") then AfterPresent else InBody
next_stage AfterPresent word = InBody
next_stage InBody word = InBody

abbrev pub number_or_zero : Option ℕ → ℕ
number_or_zero None = 0
number_or_zero (Some n) = n

-- how many clients there are: the first line says it
abbrev pub next_clients : Stage → ℕ → List ℕ → ℕ
next_clients Opening clients line = number_or_zero (number (first_word (after_word line)))
next_clients AfterClients clients line = clients
next_clients AfterPresent clients line = clients
next_clients InBody clients line = clients

abbrev pub counted : Reached → List ℕ → Reached
counted r line = record { stage = next_stage r.stage (first_word line); clients = next_clients r.stage r.clients line }

-- behind one line more; blank lines and comments change nothing
abbrev pub passed : Reached → List ℕ → Reached
passed r line = if counts (trimmed line) then counted r (trimmed line) else r

unfoldable pub reached_from : Reached → List (List ℕ) → Reached
reached_from r [] = r
reached_from r (l ∷ ls) = reached_from (passed r l) ls

-- before the line of this number, counted from 1
abbrev pub reached_at : List (List ℕ) → ℕ → Reached
reached_at lines number = reached_from opening (take (number - 1) lines)

-- that line; behind the last one nothing stands
abbrev pub line_at : List (List ℕ) → ℕ → List ℕ
line_at lines number = get_or lines (number - 1) []
