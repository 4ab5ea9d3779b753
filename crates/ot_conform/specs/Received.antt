-- The message that an instruction receives, and when what a port prints of it agrees.
use Rattle.std.specs.Prelude.{◌≡◌, ℕ, Bool, true, ◌&&◌, Option, Some, None, codes, option_map, slice_get}
use Rattle.serde_json.specs.Data.{Data}
use Rattle.serde_json.specs.Find.{get}
use Rattle.ot_client.specs.Client.{message_of}
use Rattle.ot_isa.specs.declared.instruction.Instr.{Instr}
use Rattle.ot_isa.specs.declared.instruction.Instr.TheVariants.{Edit, Take, Deliver, Acknowledge, Join, Read, ReadServer}
use Rattle.ot_model.specs.Operation.{Operation}
use Rattle.ot_model.specs.Table as table
use Rattle.ot_model.specs.Table.{Entry, Head, Ack, State, downlink}
use Rattle.ot_steps.specs.Lines.{Message, plain_message, plain_operation}
use Rattle.ot_machine.specs.Effects.{client_in}
use Rattle.ot_steps.specs.Steps.{message_in}
use Rattle.ot_steps.specs.Text.{Value, Number, Op, Sent}
use Rattle.ot_conform.specs.Keys.{agrees}
use Rattle.ot_conform.specs.declared.received.Received as held
use Rattle.ot_conform.specs.declared.received.Received.TheVariants as holds

-- what a client sent, which the server takes; or the operation of the log's entry, which a client is delivered
pub data Received : Type 0 where
  Taken : Message → Received
  Delivered : Operation ℕ → Received

-- a message to a client that is another's operation
abbrev pub delivered_head : Option Head → Option Received
delivered_head None = None
delivered_head (Some Ack) = None
delivered_head (Some (table.Op op)) = Some (Delivered (plain_operation op))

-- what an instruction receives in the state s, before it is performed: a take the message on the client's link to the server, a deliver
-- the operation at the head of the client's downlink. With an acknowledgement ot.js hands nothing over
abbrev pub receives : Instr → State → Option Received
receives (Edit c op) s = None
receives (Take c) s = option_map Taken (message_in s (Some c))
receives (Deliver c) s = delivered_head (slice_get (downlink s c (client_in s c)) 0)
receives (Acknowledge c) s = None
receives (Join c) s = None
receives (Read c) s = None
receives ReadServer s = None

-- as it is held; an entry stands in the log of the state t
abbrev pub received_in : State → held.Received → Option Received
received_in t holds.Nothing = None
received_in t (holds.Taken message) = Some (Taken (plain_message (message_of message)))
received_in t (holds.Delivered number) = option_map (λ (h : Entry). Delivered (plain_operation h.op)) (slice_get t.log number)

-- what is held of it before the instruction is performed; a number of an entry, where it is a deliver
abbrev pub IsHeld : Instr → State → held.Received → Type 0
IsHeld i s holds.Nothing = receives i s ≡ None
IsHeld i s (holds.Taken message) = receives i s ≡ Some (Taken (plain_message (message_of message)))
IsHeld i s (holds.Delivered number) = (c : ℕ) × (i ≡ Deliver c) × (receives i s ≡ received_in s (holds.Delivered number))

-- as a value of a line
abbrev pub received_value : Received → Value
received_value (Taken m) = Sent m
received_value (Delivered op) = Op op

-- ---- what a port prints under `message`

-- of what a client sent its revision and its operation are compared, where they are printed
abbrev pub parts_agree : Option Value → Option Data → Bool
parts_agree wanted None = true
parts_agree (Some (Sent m)) (Some d) = agrees (Some (Number m.revision)) (get (codes "revision") d) && agrees (Some (Op m.operation)) (get (codes "operation") d)
parts_agree wanted (Some d) = true

abbrev pub value_agrees : Option Value → Option Data → Bool
value_agrees wanted found = agrees wanted found && parts_agree wanted found

abbrev pub message_agrees : Option Received → Option Data → Bool
message_agrees received found = value_agrees (option_map received_value received) found
