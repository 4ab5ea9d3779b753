-- How much is left to do until a session is quiet, and what an instruction takes of the room for it.
use Rattle.std.specs.Prelude.{ℕ, suc, ◌+◌, ◌-◌, Bool, true, false, length, sum_by, if◌then◌else◌, Option, Some, None}
use Rattle.ot_isa.specs.declared.instruction.Instr.{Instr}
use Rattle.ot_isa.specs.declared.instruction.Instr.TheVariants.{Edit, Take, Deliver, Acknowledge, Read, Join, ReadServer}
use Rattle.ot_model.specs.Table.{Phase, NotJoined, Synchronized, AwaitingConfirm, AwaitingWithBuffer, is_joined, Client, State, Message}

-- a message on its way to the server: it is taken, and at most n clients receive it
abbrev pub in_transit : ℕ → Option Message → ℕ
in_transit n None = 0
in_transit n (Some m) = suc n

-- a buffer will be such a message
abbrev pub in_buffer : ℕ → Phase → ℕ
in_buffer n NotJoined = 0
in_buffer n Synchronized = 0
in_buffer n (AwaitingConfirm o) = 0
in_buffer n (AwaitingWithBuffer o b) = suc n

-- the entries of a log of this length that a client has still to receive
abbrev pub ahead : ℕ → Client → ℕ
ahead logged x = if is_joined x.phase then logged - x.revision else 0

abbrev pub work : ℕ → ℕ → Client → ℕ
work n logged x = in_transit n x.message + in_buffer n x.phase + ahead logged x

-- after at most so many takes, deliveries and acknowledgements, whichever of them come first, the session is quiet
abbrev pub left : State → ℕ
left s = sum_by (work (length s.clients) (length s.log)) s.clients

-- what a session that ends anyhow owes to its end, and one that ends quiet
abbrev pub owed : Bool → State → ℕ
owed true s = 0
owed false s = left s

-- by how much the instructions made and those owed become more: where the end is open each counts itself alone. Else an edit counts itself,
-- its take, and its receipt by each of n clients; what receives or takes was owed
abbrev pub edit_due : Bool → ℕ → ℕ
edit_due true n = 1
edit_due false n = n + 2

abbrev pub drain_due : Bool → ℕ
drain_due true = 1
drain_due false = 0

abbrev pub due : Bool → ℕ → Instr → ℕ
due is_open n (Edit c op) = edit_due is_open n
due is_open n (Take c) = drain_due is_open
due is_open n (Deliver c) = drain_due is_open
due is_open n (Acknowledge c) = drain_due is_open
due is_open n (Join c) = 1
due is_open n (Read c) = 1
due is_open n ReadServer = 1
