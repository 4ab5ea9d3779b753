-- The lines that are printed of a run as JSON: one object a line.
use Rattle.std.specs.Prelude.{ℕ, suc, List, [], ◌∷◌, ◌++◌, length, Bool, Option, codes, decimal, if◌then◌else◌}
use Rattle.ot_isa.specs.declared.elements.Tag.{Tag}
use Rattle.ot_isa.specs.declared.elements.Tagged.{Tagged}
use Rattle.ot_model.specs.declared.shown.Refusal.{Refusal}
use Rattle.ot_model.specs.declared.shown.Reader.{Reader}
use Rattle.ot_model.specs.declared.shown.Reader.TheVariants as reader
use Rattle.ot_model.specs.declared.shown.Shown.{Shown}
use Rattle.ot_model.specs.Table.{Client, State}
use Rattle.ot_machine.specs.Readers.{phase_name}
use Rattle.ot_report.specs.Authors.{authors, by_json}
use Rattle.ot_report.specs.declared.authors.Author.{Author}
use Rattle.ot_values.specs.Values.{phase_word, refusal_text, text_of}

abbrev pub document_json : List Tagged → List ℕ
document_json list = codes ",\"document\":" ++ text_of list

-- {"do":"read","client":0,"document":"text","by":[[1,0,3],[3]]}
abbrev pub reader_json : Reader → List ℕ
reader_json (reader.Client c) = codes "{\"do\":\"read\",\"client\":" ++ decimal c
reader_json reader.Server = codes "{\"do\":\"read-server\""

abbrev pub read_json : (Tag → Option Author) → Shown → List ℕ
read_json by shown = reader_json shown.who ++ (document_json shown.list ++ (by_json (authors by shown.list) ++ codes "}\n"))

-- {"at":3,"stopped":"LinkEmpty"}
abbrev pub stop_json : ℕ → Refusal → List ℕ
stop_json place refusal = codes "{\"at\":" ++ (decimal place ++ (codes ",\"stopped\":\"" ++ (refusal_text refusal ++ codes "\"}\n")))

-- {"client":0,"revision":1,"state":"synchronized","document":"text"}
abbrev pub client_head : ℕ → ℕ → List ℕ → List ℕ
client_head c revision phase =
    codes "{\"client\":" ++ (decimal c ++ (codes ",\"revision\":" ++ (decimal revision ++ (codes ",\"state\":\"" ++ (phase ++ codes "\"")))))

abbrev pub client_parts : ℕ → ℕ → List ℕ → List Tagged → List ℕ
client_parts c revision phase list = client_head c revision phase ++ (document_json list ++ codes "}\n")

abbrev pub client_json : ℕ → Client → List ℕ
client_json c x = client_parts c x.revision (phase_word (phase_name x.phase)) x.list

abbrev pub clients_json : ℕ → List Client → List ℕ
clients_json c [] = []
clients_json c (x ∷ clients) = client_json c x ++ clients_json (suc c) clients

-- {"client":null,"revision":1,"document":"text"}
abbrev pub server_parts : ℕ → List Tagged → List ℕ
server_parts revision list = codes "{\"client\":null,\"revision\":" ++ (decimal revision ++ (document_json list ++ codes "}\n"))

abbrev pub server_json : State → List ℕ
server_json s = server_parts (length s.log) s.server

abbrev pub quiet_json : Bool → List ℕ
quiet_json quiet = if quiet then codes "{\"end\":\"quiet\"}\n" else codes "{\"end\":\"not quiet\"}\n"

-- the state of a run at its end, and whether it is quiet
abbrev pub end_json : State → Bool → List ℕ
end_json s quiet = clients_json 0 s.clients ++ server_json s ++ quiet_json quiet
