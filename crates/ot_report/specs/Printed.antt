-- The lines that are printed of a run, in words or as JSON: both are functions of the run.
use Rattle.std.specs.Prelude.{◌≡◌, ◌↔◌, ℕ, suc, List, [], ◌∷◌, ◌++◌, length, Bool, true, false, IsTrue, Option, Some, None, codes, decimal, if◌then◌else◌}
use Rattle.ot_isa.specs.Program.{Program}
use Rattle.ot_isa.specs.declared.elements.Tag.{Tag}
use Rattle.ot_isa.specs.declared.elements.Tagged.{Tagged}
use Rattle.ot_model.specs.declared.shown.Refusal.{Refusal}
use Rattle.ot_model.specs.declared.shown.Reader.{Reader}
use Rattle.ot_model.specs.declared.shown.Reader.TheVariants as reader
use Rattle.ot_model.specs.declared.shown.Shown.{Shown}
use Rattle.ot_model.specs.Table.{Client, State, IsQuiet}
use Rattle.ot_machine.specs.Readers.{phase_name}
use Rattle.ot_machine.specs.declared.outcome.Run.{Run}
use Rattle.ot_values.specs.Values.{phase_word, refusal_text, text_of}
use Rattle.ot_report.specs.Authors.{author_of}
use Rattle.ot_report.specs.declared.authors.Author.{Author}
use Rattle.ot_report.specs.RunJson.{end_json, read_json, stop_json}

abbrev pub line : List ℕ → List ℕ
line text = text ++ 10 ∷ []

-- read C "text", or read-server "text"
abbrev pub reader_text : Reader → List ℕ
reader_text (reader.Client c) = codes "read" ++ 32 ∷ decimal c
reader_text reader.Server = codes "read-server"

abbrev pub read_line : Shown → List ℕ
read_line shown = reader_text shown.who ++ 32 ∷ line (text_of shown.list)

-- in words, or as JSON, which has the authors of tags
abbrev pub read_text : Bool → (Tag → Option Author) → Shown → List ℕ
read_text false by shown = read_line shown
read_text true by shown = read_json by shown

abbrev pub read_lines : Bool → (Tag → Option Author) → List Shown → List ℕ
read_lines json by [] = []
read_lines json by (shown ∷ others) = read_text json by shown ++ read_lines json by others

-- stopped at I: Refusal
abbrev pub stop_line : ℕ → Refusal → List ℕ
stop_line place refusal = codes "stopped at " ++ (decimal place ++ (codes ": " ++ line (refusal_text refusal)))

-- client C rev R STATE "text"
abbrev pub client_text : ℕ → ℕ → List ℕ → List Tagged → List ℕ
client_text c revision phase list =
    codes "client " ++ (decimal c ++ (codes " rev " ++ (decimal revision ++ 32 ∷ (phase ++ 32 ∷ line (text_of list)))))

abbrev pub client_line : ℕ → Client → List ℕ
client_line c x = client_text c x.revision (phase_word (phase_name x.phase)) x.list

abbrev pub client_lines : ℕ → List Client → List ℕ
client_lines c [] = []
client_lines c (x ∷ clients) = client_line c x ++ client_lines (suc c) clients

-- server rev R "text"
abbrev pub server_text : ℕ → List Tagged → List ℕ
server_text revision list = codes "server rev " ++ (decimal revision ++ 32 ∷ line (text_of list))

abbrev pub server_line : State → List ℕ
server_line s = server_text (length s.log) s.server

abbrev pub quiet_line : Bool → List ℕ
quiet_line quiet = line (if quiet then codes "quiet" else codes "not quiet")

-- the state of a run at its end, and whether it is quiet
abbrev pub end_lines : State → Bool → List ℕ
end_lines s quiet = client_lines 0 s.clients ++ server_line s ++ quiet_line quiet

abbrev pub end_text : Bool → State → Bool → List ℕ
end_text false s quiet = end_lines s quiet
end_text true s quiet = end_json s quiet

-- the text is that of the state's end, in words or as JSON
abbrev pub IsEndText : Bool → State → List ℕ → Type 0
IsEndText json s text = (quiet : Bool) × (IsTrue quiet ↔ IsQuiet s) × (text ≡ end_text json s quiet)

abbrev pub IsEnd : State → List ℕ → Type 0
IsEnd s text = IsEndText false s text

-- the stop, if there was one
abbrev pub stopped_text : Bool → ℕ → Refusal → List ℕ
stopped_text false place refusal = stop_line place refusal
stopped_text true place refusal = stop_json place refusal

abbrev pub stop_text : Bool → Option (ℕ × Refusal) → List ℕ
stop_text json None = []
stop_text json (Some stop) = stopped_text json stop.0 stop.1

-- the text is that of the schedule's run: its reads, its stop and its end
abbrev pub IsReport : Bool → Program → Run → List ℕ → Type 0
IsReport json s run text = (end : List ℕ) × IsEndText json run.machine end × (text ≡ read_lines json (author_of s.instrs) run.shown.items ++ stop_text json run.stopped ++ end)
