-- Which sessions may be asked for.
use Rattle.std.specs.Prelude.{ℕ, ◌-◌, ◌&&◌, nat_le, length, if◌then◌else◌, Bool, List, Vec, Option, Some, None}
use Rattle.std.specs.declared.alloc.Global.{Global}
use Rattle.ot_every.specs.Listing.{Space}

abbrev pub space_in : ℕ → ℕ → Vec ℕ Global → ℕ → ℕ → ℕ → Space
space_in clients present start edits inserts letters =
    record { clients = clients; present = present; start = start.items; edits = edits; inserts = inserts; letters = letters }

-- the last client joins late, or all are there from the start
abbrev pub space_of : ℕ → Bool → List ℕ → ℕ → ℕ → ℕ → Space
space_of clients is_join start edits inserts letters =
    record { clients = clients; present = if is_join then clients - 1 else clients; start = start; edits = edits; inserts = inserts; letters = letters }

-- 1 to 4 clients, no more present ones, a start text of at most 8 characters, at most 6 edits, at most 8 insertions, of 1 to 8 letters
abbrev pub is_space : Space → Bool
is_space s =
    nat_le 1 s.clients && (nat_le s.clients 4 && (nat_le s.present s.clients && (nat_le (length s.start) 8 && (nat_le s.edits 6
    && (nat_le s.inserts 8 && (nat_le 1 s.letters && nat_le s.letters 8))))))

-- the space, if it is one
abbrev pub space_if : Space → Option Space
space_if s = if is_space s then Some s else None
