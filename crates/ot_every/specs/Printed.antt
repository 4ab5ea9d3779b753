-- The schedule of a small session, as it is printed: the session, and then a read of each client and of the server.
use Rattle.std.specs.Prelude.{◌≡◌, ℕ, List, [], ◌∷◌, ◌++◌, map, true}
use Rattle.std.specs.List.{All, range_with_len}
use Rattle.ot_isa.specs.Program.{Program}
use Rattle.ot_isa.specs.declared.instruction.Instr.{Instr}
use Rattle.ot_isa.specs.declared.instruction.Instr.TheVariants.{Read, ReadServer}
use Rattle.ot_every.specs.Listing.{Space, sessions}
use Rattle.ot_every.specs.Laws.{IsSession}
use Rattle.ot_every.specs.Spaces.{is_space}

-- a read of each of so many clients, by number, and then of the server
abbrev pub reads : ℕ → List Instr
reads clients = map Read (range_with_len 0 clients) ++ ReadServer ∷ []

abbrev pub schedule_of : Space → List Instr → Program
schedule_of space is = record { clients = space.clients; present = space.present; start = space.start; instrs = is ++ reads space.clients }

-- of a space that may be asked for, each schedule that is printed is a session, with its reads
abbrev pub PrintedAreSessions : Type 0
PrintedAreSessions = (space : Space) → is_space space ≡ true → All (λ is. IsSession space space.start (schedule_of space is).instrs) (sessions space)
