-- What `generate --every` writes and answers.
use Rattle.std.specs.Prelude.{◌≡◌, ◌⊎◌, ◌+◌, ◌-◌, ◌^◌, ℕ, Bool, true, List, [], ◌∷◌, ◌++◌, Option, codes, decimal, length, map, min, string_bytes, take}
use Rattle.std.specs.List.{flat_map}
use Rattle.std.specs.Io.KnownBytes.{Appends}
use Rattle.ot_isa.specs.Program.{opening}
use Rattle.ot_isa.specs.declared.instruction.Instr.{Instr}
use Rattle.ot_asm.specs.Canonical.{canonical, instr_text, lines_text}
use Rattle.ot_every.specs.Listing.{Space}
use Rattle.ot_every.specs.Parts.{PartView, sessions_in}
use Rattle.ot_every.specs.Printed.{reads, schedule_of}
use Rattle.streams.specs.Streams.{WritesPart}
use Rattle.streams.specs.Outcomes.{Streams, Gives, OutOfMemory, Says, memory_fault}
use Rattle.ot_commands.specs.declared.listing.Printer.{Printer}

-- the canonical text of a session with its reads, and behind it a line `%%`
abbrev pub session_text : Space → List Instr → List ℕ
session_text space is = canonical (schedule_of space is) ++ (codes "%%" ++ 10 ∷ [])

-- those of sessions, one after the other
abbrev pub sessions_text : Space → List (List Instr) → List ℕ
sessions_text space sessions = flat_map (session_text space) sessions

-- after a stop: the first sessions of the part, whole; or, only where a write failed, a first part of all
abbrev pub WritesFirst : Space → PartView → Bool → Option (List ℕ) → Option (List ℕ) → Type 0
WritesFirst space part broken old new =
    ((n : ℕ) × Appends old new (sessions_text space (take n (sessions_in space part))))
    ⊎ ((broken ≡ true) × WritesPart old new (sessions_text space (sessions_in space part)))

-- memory ran out on the way
abbrev pub StopsBetween : Space → PartView → ℕ → Streams → Type 0
StopsBetween space part status streams =
    (status ≡ 1) × WritesFirst space part streams.broken streams.output streams.output' × Says memory_fault streams

-- each session of the part, in order; or memory ran out on the way
abbrev pub Lists : Space → PartView → ℕ → Streams → Type 0
Lists space part status streams = Gives 0 (sessions_text space (sessions_in space part)) status streams ⊎ StopsBetween space part status streams

-- how many they are, as far as 64 bits count
abbrev pub count_text : Space → PartView → List ℕ
count_text space part = decimal (min (length (sessions_in space part)) (2 ^ 64 - 1)) ++ 10 ∷ []

-- their number and a line end; or memory ran out
abbrev pub Counts : Space → PartView → ℕ → Streams → Type 0
Counts space part status streams = Gives 0 (count_text space part) status streams ⊎ OutOfMemory status streams

-- ---- for private clauses

-- what stands before the instructions of each session, and what stands behind them
abbrev pub head_text : Space → List ℕ
head_text space = canonical (opening space.clients space.present space.start)

abbrev pub foot_text : Space → List ℕ
foot_text space = lines_text (map instr_text (reads space.clients)) ++ (codes "%%" ++ 10 ∷ [])

-- a printer has both
pub record IsPrinter (space : Space) (p : Printer) : Type 0 where
  pub head : string_bytes p.head ≡ head_text space
  pub foot : string_bytes p.foot ≡ foot_text space

-- what it makes of a session
abbrev pub piece : Printer → List Instr → List ℕ
piece p is = string_bytes p.head ++ (lines_text (map instr_text is) ++ string_bytes p.foot)

-- it is written; or nothing, or, where a write failed, a first part of it
abbrev pub Prints : Printer → List Instr → Printer → Option (List ℕ) → Option (List ℕ) → Type 0
Prints p is q old new = (q ≡ p) × Appends old new (piece p is)

abbrev pub PrintsPart : Printer → List Instr → Bool → Option (List ℕ) → Option (List ℕ) → Type 0
PrintsPart p is broken old new = Appends old new [] ⊎ ((broken ≡ true) × WritesPart old new (piece p is))

-- one more, as far as 64 bits count
abbrev pub next_count : ℕ → ℕ
next_count n = min (n + 1) (2 ^ 64 - 1)
