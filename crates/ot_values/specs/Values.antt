-- Values of a run as they are printed.
use Rattle.std.specs.Prelude.{◌≡◌, ℕ, List, ◌++◌, codes}
use Rattle.std.specs.Str.{encode_utf8_all}
use Rattle.json.specs.Print.{quoted}
use Rattle.ot_isa.specs.declared.elements.Tagged.{Tagged}
use Rattle.ot_isa.specs.Tagging.{chars_of}
use Rattle.ot_model.specs.declared.shown.Refusal.{Refusal}
use Rattle.ot_model.specs.declared.shown.Refusal.TheVariants.{NoSuchClient, StepsFull, NotJoined, AlreadyJoined, BadBase, ClientFull, LinkEmpty, WrongHead, Memory}
use Rattle.ot_machine.specs.declared.state.Phase.{Phase}
use Rattle.ot_machine.specs.declared.state.Phase.TheVariants as phase

-- a text as a JSON string
abbrev pub text_of : List Tagged → List ℕ
text_of list = quoted (encode_utf8_all (chars_of list))

-- a refusal's name
abbrev pub refusal_text : Refusal → List ℕ
refusal_text NoSuchClient = codes "NoSuchClient"
refusal_text StepsFull = codes "StepsFull"
refusal_text NotJoined = codes "NotJoined"
refusal_text AlreadyJoined = codes "AlreadyJoined"
refusal_text BadBase = codes "BadBase"
refusal_text ClientFull = codes "ClientFull"
refusal_text LinkEmpty = codes "LinkEmpty"
refusal_text WrongHead = codes "WrongHead"
refusal_text Memory = codes "Memory"

-- the name of a client's state
abbrev pub phase_word : Phase → List ℕ
phase_word phase.NotJoined = codes "not-joined"
phase_word phase.Synchronized = codes "synchronized"
phase_word phase.AwaitingConfirm = codes "awaiting-confirm"
phase_word phase.AwaitingWithBuffer = codes "awaiting-with-buffer"

-- ---- for private clauses

-- what stood there stands there, and more behind it
abbrev pub Continues : List ℕ → List ℕ → Type 0
Continues old new = (more : List ℕ) × (new ≡ old ++ more)
