-- The text that an operation of a line applies to.
use Rattle.std.specs.Prelude.{ℕ, ◌+◌, List, [], ◌∷◌, length, take, ◌==◌, nat_lt, if◌then◌else◌, Option, Some, None, Vec}
use Rattle.std.specs.declared.alloc.Global.{Global}
use Rattle.std.specs.Option.{option_map}
use Rattle.ot_isa.specs.Program.{client_of}
use Rattle.ot_isa.specs.Tagging.{chars_of}
use Rattle.ot_isa.specs.declared.elements.Tagged.{Tagged}
use Rattle.ot_isa.specs.declared.instruction.Instr.{Instr}
use Rattle.ot_model.specs.Operation.{Operation, apply}
use Rattle.ot_model.specs.Table.{Entry, State, start_list}
use Rattle.ot_machine.specs.Effects.{client_in}
use Rattle.ot_rules.specs.declared.call.Pending.TheVariants.{Nothing, Outstanding, Buffered}
use Rattle.ot_steps.specs.declared.key.Key.{Key}
use Rattle.ot_steps.specs.declared.key.Key.TheVariants as key
use Rattle.ot_rules.specs.Call.{Call, ApplyClient, ApplyServer, ServerAck}
use Rattle.ot_rules.specs.Wrong.{first_of, transformed}

abbrev pub letters : Vec ℕ Global → List ℕ
letters v = v.items

-- the list after these entries, where each fits
abbrev pub replayed : List Tagged → List Entry → Option (List Tagged)
replayed list [] = Some list
replayed list (h ∷ log) = if h.op.base == length list then replayed (apply h.op list) log else None

-- the server's text at a revision
abbrev pub text_at : List ℕ → List Entry → ℕ → Option (List ℕ)
text_at start log revision = option_map chars_of (replayed (start_list start) (take revision log))

-- how many more entries of the log the client has seen after the call than before it
abbrev pub gained : Call → ℕ
gained (ApplyServer w op) = 1
gained (ServerAck revision w) = 1
gained _ = 0

-- the server's text at the client's revision behind the call
abbrev pub text_seen : List ℕ → State → ℕ → Option ℕ → Option (List ℕ)
text_seen start s more None = None
text_seen start s more (Some c) = if nat_lt c (length s.clients) then text_at start s.log ((client_in s c).revision + more) else None

abbrev pub text_behind : List ℕ → State → Instr → Call → Option (List ℕ)
text_behind start s i call = text_seen start s (gained call) (client_of i)

-- the text of the client that an instruction names
abbrev pub own_text : State → Option ℕ → Option (List ℕ)
own_text s None = None
own_text s (Some c) = if nat_lt c (length s.clients) then Some (chars_of (client_in s c).list) else None

-- what is outstanding behind the call
abbrev pub outstanding_behind : Call → Option (Operation ℕ)
outstanding_behind (ApplyClient Nothing op) = Some op
outstanding_behind (ApplyClient (Outstanding o) op) = Some o
outstanding_behind (ApplyClient (Buffered o b) op) = Some o
outstanding_behind (ApplyServer (Outstanding o) op) = first_of (transformed o op)
outstanding_behind (ApplyServer (Buffered o b) op) = first_of (transformed o op)
outstanding_behind (ServerAck revision (Buffered o b)) = Some b
outstanding_behind _ = None

-- the text that an operation makes, where it fits
abbrev pub applied : Operation ℕ → List ℕ → Option (List ℕ)
applied op text = if op.base == length text then Some (apply op text) else None

abbrev pub applied_to : Option (Operation ℕ) → Option (List ℕ) → Option (List ℕ)
applied_to None text = None
applied_to (Some op) None = None
applied_to (Some op) (Some text) = applied op text

-- the text that the operation under a key applies to, in the line of an instruction of a run from this start, before which the state is s
abbrev pub text_for : List ℕ → State → Instr → Call → Option Key → Option (List ℕ)
text_for start s i call (Some key.Edit) = own_text s (client_of i)
text_for start s i call (Some key.Applied) = own_text s (client_of i)
text_for start s i call (Some key.Outstanding) = text_behind start s i call
text_for start s i call (Some key.SentOperation) = text_behind start s i call
text_for start s i call (Some key.Buffer) = applied_to (outstanding_behind call) (text_behind start s i call)
text_for start s i call (Some key.Appended) = Some (chars_of s.server)
text_for start s i call _ = None
