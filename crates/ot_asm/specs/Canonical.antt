-- The canonical text of a schedule.
use Rattle.std.specs.Prelude.{ℕ, List, [], ◌∷◌, ◌++◌, if◌then◌else◌, decimal, codes, map, nat_lt}
use Rattle.std.specs.Str.{encode_utf8_all}
use Rattle.json.specs.Print.{quoted}
use Rattle.ot_isa.specs.Program.{Program}
use Rattle.ot_isa.specs.declared.instruction.Instr.{Instr}
use Rattle.ot_isa.specs.declared.instruction.Instr.TheVariants.{Edit, Take, Deliver, Acknowledge, Read, Join, ReadServer}
use Rattle.ot_json.specs.Writing.{text_of_operation}

-- a keyword, a space and a number
abbrev pub numbered : List ℕ → ℕ → List ℕ
numbered keyword n = keyword ++ 32 ∷ decimal n

-- the line of an instruction, without its end
abbrev pub instr_text : Instr → List ℕ
instr_text (Edit client op) = numbered (codes "edit") client ++ 32 ∷ text_of_operation op
instr_text (Take client) = numbered (codes "take") client
instr_text (Deliver client) = numbered (codes "deliver") client
instr_text (Acknowledge client) = numbered (codes "ack") client
instr_text (Read client) = numbered (codes "read") client
instr_text (Join client) = numbered (codes "join") client
instr_text ReadServer = codes "read-server"

abbrev pub clients_text : Program → List ℕ
clients_text s = numbered (codes "clients") s.clients

-- the number of present clients, where some come later
abbrev pub present_texts : Program → List (List ℕ)
present_texts s = if nat_lt s.present s.clients then numbered (codes "present") s.present ∷ [] else []

-- the start text, where it is not empty
abbrev pub start_texts : List ℕ → List (List ℕ)
start_texts [] = []
start_texts (c ∷ cs) = (codes "start" ++ 32 ∷ quoted (encode_utf8_all (c ∷ cs))) ∷ []

-- the lines before those of the instructions
abbrev pub head_lines : Program → List (List ℕ)
head_lines s = clients_text s ∷ (present_texts s ++ start_texts s.start)

-- the lines of the canonical text
abbrev pub canonical_lines : Program → List (List ℕ)
canonical_lines s = head_lines s ++ map instr_text s.instrs

-- lines, each ended by LF
abbrev pub lines_text : List (List ℕ) → List ℕ
lines_text [] = []
lines_text (line ∷ lines) = line ++ 10 ∷ lines_text lines

abbrev pub canonical : Program → List ℕ
canonical s = lines_text (canonical_lines s)
