-- One of so many parts of the sessions.
use Rattle.std.specs.Prelude.{ℕ, ◌-◌, ◌&&◌, nat_le, if◌then◌else◌, Bool, List, Option, Some, None}
use Rattle.ot_isa.specs.declared.instruction.Instr.{Instr}
use Rattle.ot_every.specs.Listing.{Space, part_of, sessions}

-- a part by its number, from 1 on, and how many there are
pub record PartView : Type 0 where
  pub number : ℕ
  pub parts : ℕ

abbrev pub part_in : ℕ → ℕ → PartView
part_in number parts = record { number = number; parts = parts }

abbrev pub is_part : PartView → Bool
is_part p = nat_le 1 p.number && nat_le p.number p.parts

-- the part, if there is one
abbrev pub part_if : PartView → Option PartView
part_if p = if is_part p then Some p else None

-- all sessions are one part
abbrev pub whole : PartView
whole = part_in 1 1

-- the sessions of a part
abbrev pub sessions_in : Space → PartView → List (List Instr)
sessions_in space part = part_of part.parts (part.number - 1) (sessions space)
