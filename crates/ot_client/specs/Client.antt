-- The program's clients and messages as states and messages.
use Rattle.ot_client.specs.State.{State, Message}
use Rattle.ot_client.specs.Values.{synchronized, confirming, buffering}
use Rattle.ot_client.specs.declared.client.Client.{Client}
use Rattle.ot_client.specs.declared.client.Client.TheVariants.{Synchronized, AwaitingConfirm, AwaitingWithBuffer}
use Rattle.ot_client.specs.declared.sent.Sent.{Sent}

-- a client of any type as a state
abbrev pub state_of : {A : Type 0} → Client A → State A
state_of (Synchronized client) = synchronized client
state_of (AwaitingConfirm client) = confirming client
state_of (AwaitingWithBuffer client) = buffering client

-- what was sent as a message
abbrev pub message_of : {A : Type 0} → Sent A → Message A
message_of sent = record { revision = sent.revision; op = sent.op }
