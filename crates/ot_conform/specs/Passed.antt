-- Which lines that are due a port's line passes over, where the port has lines for some instructions alone.
use Rattle.std.specs.Prelude.{ℕ, Bool, false, ◌==◌, ◌&&◌, ◌||◌, Option, Some, None, codes, nat_lt}
use Rattle.serde_json.specs.Data.{Data}
use Rattle.serde_json.specs.Find.{get}
use Rattle.ot_json.specs.Fields.{number_at}
use Rattle.ot_model.specs.declared.shown.Refusal.{Refusal}
use Rattle.ot_conform.specs.Due.{DueLine, What, Opening, Instruction, End}
use Rattle.ot_conform.specs.Keys.{is_told}
use Rattle.ot_conform.specs.Ports.{PortLine, Told}

-- whether a place that is given lies behind one, or is that one and something else holds too
abbrev pub is_past : ℕ → Option ℕ → Bool → Bool
is_past at None too = false
is_past at (Some n) too = nat_lt at n || (n == at && too)

abbrev pub is_at : ℕ → Option ℕ → Bool
is_at at None = false
is_at at (Some n) = n == at

-- what a line says last: that an instruction was refused, or that all is over
abbrev pub is_stop : Data → Bool
is_stop d = is_told (get (codes "stopped") d)

abbrev pub is_end : Data → Bool
is_end d = is_told (get (codes "end") d)

-- the line of an instruction that leads to a place is passed over by a line of a later place, and by one of this place that says `stopped`
-- or `end`
abbrev pub passes_step : ℕ → PortLine → Bool
passes_step at (Told d) = is_past at (number_at (codes "at") d) (is_stop d || is_end d)
passes_step at _ = false

-- that of an instruction that is refused at a place, by a line of this place that says `end`
abbrev pub passes_stop : ℕ → PortLine → Bool
passes_stop at (Told d) = is_at at (number_at (codes "at") d) && is_end d
passes_stop at _ = false

-- the opening's line and the end's are not passed over
abbrev pub passes_what : What → Option Refusal → ℕ → PortLine → Bool
passes_what Opening stopped at line = false
passes_what (Instruction i) None at line = passes_step at line
passes_what (Instruction i) (Some refusal) at line = passes_stop at line
passes_what End stopped at line = false

-- whether lines for some instructions alone are allowed, and this line passes over the one that is due
abbrev pub passes : Bool → DueLine → PortLine → Bool
passes sparse due line = sparse && passes_what due.what due.line.stopped due.line.at line
