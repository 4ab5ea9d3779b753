-- The lines as text.
use Rattle.std.specs.Prelude.{ℕ, List, [], ◌∷◌, ◌++◌, Bool, Option, Some, None, codes, decimal, option_map, if◌then◌else◌}
use Rattle.std.specs.Str.{encode_utf8_all}
use Rattle.json.specs.Print.{quoted}
use Rattle.ot_json.specs.Writing.{text_of_operation}
use Rattle.ot_model.specs.Operation.{Operation}
use Rattle.ot_values.specs.Values.{phase_word, refusal_text}
use Rattle.ot_steps.specs.Lines.{Line, Message, Word, Edit, Take, Deliver, Ack, Join, Read, ReadServer}
use Rattle.ot_steps.specs.Lines as lines
use Rattle.ot_steps.specs.declared.key.Key.{Key}
use Rattle.ot_steps.specs.declared.key.Key.TheVariants as key

-- a value: a number, a name that JSON writes as it is, a text's characters, an operation, or a message
pub data Value : Type 0 where
  Number : ℕ → Value
  Name : List ℕ → Value
  Text : List ℕ → Value
  Op : Operation ℕ → Value
  Sent : lines.Message → Value

pub record Field : Type 0 where
  pub key : List ℕ
  pub value : Value

-- the names of instructions, and of ends
abbrev pub word_text : Word → List ℕ
word_text Edit = codes "edit"
word_text Take = codes "take"
word_text Deliver = codes "deliver"
word_text Ack = codes "ack"
word_text Join = codes "join"
word_text Read = codes "read"
word_text ReadServer = codes "read-server"

abbrev pub end_text : Bool → List ℕ
end_text quiet = if quiet then codes "quiet" else codes "not quiet"

-- what a line has under each key; the parts of its message have keys of their own
abbrev pub value_at : Key → Line → Option Value
value_at key.At line = Some (Number line.at)
value_at key.Clients line = option_map Number line.clients
value_at key.Present line = option_map Number line.present
value_at key.Start line = option_map Text line.start
value_at key.Do line = option_map (λ w. Name (word_text w)) line.word
value_at key.Client line = option_map Number line.client
value_at key.Edit line = option_map Op line.edit
value_at key.Stopped line = option_map (λ r. Name (refusal_text r)) line.stopped
value_at key.Revision line = option_map Number line.revision
value_at key.State line = option_map (λ p. Name (phase_word p)) line.state
value_at key.Outstanding line = option_map Op line.outstanding
value_at key.Buffer line = option_map Op line.buffer
value_at key.Sent line = option_map Sent line.sent
value_at key.SentRevision line = option_map (λ m. Number m.revision) line.sent
value_at key.SentOperation line = option_map (λ m. Op m.operation) line.sent
value_at key.Applied line = option_map Op line.applied
value_at key.Appended line = option_map Op line.appended
value_at key.Document line = option_map Text line.document
value_at key.End line = option_map (λ q. Name (end_text q)) line.quiet

-- how a key is spelled; a message's parts stand in the object under `sent`
abbrev pub key_text : Key → List ℕ
key_text key.At = codes "at"
key_text key.Clients = codes "clients"
key_text key.Present = codes "present"
key_text key.Start = codes "start"
key_text key.Do = codes "do"
key_text key.Client = codes "client"
key_text key.Edit = codes "edit"
key_text key.Stopped = codes "stopped"
key_text key.Revision = codes "revision"
key_text key.State = codes "state"
key_text key.Outstanding = codes "outstanding"
key_text key.Buffer = codes "buffer"
key_text key.Sent = codes "sent"
key_text key.SentRevision = codes "revision"
key_text key.SentOperation = codes "operation"
key_text key.Applied = codes "applied"
key_text key.Appended = codes "appended"
key_text key.Document = codes "document"
key_text key.End = codes "end"

-- the keys behind the place, in their order: the opening's, which instruction it is, where the one that moved is, the operations that moved,
-- and the rest
abbrev pub keys : List Key
keys =
    key.Clients
    ∷ key.Present
    ∷ key.Start
    ∷ key.Do
    ∷ key.Client
    ∷ key.Edit
    ∷ key.Stopped
    ∷ key.Revision
    ∷ key.State
    ∷ key.Outstanding
    ∷ key.Buffer
    ∷ key.Sent
    ∷ key.Applied
    ∷ key.Appended
    ∷ key.Document
    ∷ key.End
    ∷ []

-- a key with its value, where the line has it
abbrev pub field : List ℕ → Option Value → List Field
field key None = []
field key (Some value) = record { key = key; value = value } ∷ []

-- of these keys each
abbrev pub fields_of : List Key → Line → List Field
fields_of [] line = []
fields_of (k ∷ ks) line = field (key_text k) (value_at k line) ++ fields_of ks line

abbrev pub fields : Line → List Field
fields line = fields_of keys line

-- {"revision":R,"operation":[..]}
abbrev pub message_text : Message → List ℕ
message_text m = codes "{\"revision\":" ++ (decimal m.revision ++ (codes ",\"operation\":" ++ (text_of_operation m.operation ++ codes "}")))

abbrev pub value_text : Value → List ℕ
value_text (Number n) = decimal n
value_text (Name name) = 34 ∷ (name ++ 34 ∷ [])
value_text (Text text) = quoted (encode_utf8_all text)
value_text (Op op) = text_of_operation op
value_text (Sent m) = message_text m

-- what a line has under a key, as text
abbrev pub text_at : Key → Line → Option (List ℕ)
text_at k line = option_map value_text (value_at k line)

-- ,"key":value
abbrev pub field_text : Field → List ℕ
field_text f = 44 ∷ 34 ∷ (f.key ++ 34 ∷ 58 ∷ value_text f.value)

abbrev pub fields_text : List Field → List ℕ
fields_text [] = []
fields_text (f ∷ fs) = field_text f ++ fields_text fs

-- one JSON object, and LF
abbrev pub line_text : Line → List ℕ
line_text line = codes "{\"at\":" ++ (decimal line.at ++ (fields_text (fields line) ++ codes "}\n"))

abbrev pub lines_text : List Line → List ℕ
lines_text [] = []
lines_text (line ∷ others) = line_text line ++ lines_text others
