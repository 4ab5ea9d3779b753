-- The lines of a run, as values.
use Rattle.std.specs.Prelude.{ℕ, List, map, Bool, Option, None}
use Rattle.ot_isa.specs.declared.elements.Tagged.{Tagged}
use Rattle.ot_isa.specs.declared.instruction.Instr.{Instr}
use Rattle.ot_isa.specs.declared.instruction.Instr.TheVariants as instr
use Rattle.ot_model.specs.declared.shown.Refusal.{Refusal}
use Rattle.ot_model.specs.Operation.{Item, Old, New, Operation}
use Rattle.ot_model.specs.Table as table
use Rattle.ot_machine.specs.declared.state.Phase.{Phase}

-- an operation without the tags of what it inserts
abbrev pub plain_item : Item Tagged → Item ℕ
plain_item (Old i) = Old i
plain_item (New x) = New x.ch

abbrev pub plain_operation : Operation Tagged → Operation ℕ
plain_operation op = record { base = op.base; image = map plain_item op.image }

-- a message to the server: the revision that it was made at, and the operation
pub record Message : Type 0 where
  pub revision : ℕ
  pub operation : Operation ℕ

abbrev pub plain_message : table.Message → Message
plain_message m = record { revision = m.revision; operation = plain_operation m.op }

-- the words of instructions
pub data Word : Type 0 where
  Edit : Word
  Take : Word
  Deliver : Word
  Ack : Word
  Join : Word
  Read : Word
  ReadServer : Word

abbrev pub word_of : Instr → Word
word_of (instr.Edit c op) = Edit
word_of (instr.Take c) = Take
word_of (instr.Deliver c) = Deliver
word_of (instr.Acknowledge c) = Ack
word_of (instr.Join c) = Join
word_of (instr.Read c) = Read
word_of instr.ReadServer = ReadServer

-- a line: the place, and the value of each key that it has. Operations are without tags, texts are lists of characters
pub record Line : Type 0 where
  pub at : ℕ
  pub clients : Option ℕ
  pub present : Option ℕ
  pub start : Option (List ℕ)
  pub word : Option Word
  pub client : Option ℕ
  pub edit : Option (Operation ℕ)
  pub stopped : Option Refusal
  pub revision : Option ℕ
  pub state : Option Phase
  pub outstanding : Option (Operation ℕ)
  pub buffer : Option (Operation ℕ)
  pub sent : Option Message
  pub applied : Option (Operation ℕ)
  pub appended : Option (Operation ℕ)
  pub document : Option (List ℕ)
  pub quiet : Option Bool

-- a line that says the place alone
abbrev pub bare : ℕ → Line
bare at =
    record {
      at = at;
      clients = None;
      present = None;
      start = None;
      word = None;
      client = None;
      edit = None;
      stopped = None;
      revision = None;
      state = None;
      outstanding = None;
      buffer = None;
      sent = None;
      applied = None;
      appended = None;
      document = None;
      quiet = None;
    }
