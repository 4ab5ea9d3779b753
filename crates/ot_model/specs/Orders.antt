-- Instructions in other orders: which machine each is performed at, and when two schedules have each machine's instructions in one order.
use Rattle.std.specs.Prelude.{◌≡◌, ℕ, ◌==◌, List, Bool, true, false, not}
use Rattle.std.specs.List.{filter}
use Rattle.ot_isa.specs.declared.instruction.Instr.{Instr}
use Rattle.ot_isa.specs.declared.instruction.Instr.TheVariants.{Edit, Take, Deliver, Acknowledge, Read, Join, ReadServer}
use Rattle.ot_model.specs.declared.shown.Reader.{Reader}
use Rattle.ot_model.specs.declared.shown.Reader.TheVariants as reader
use Rattle.ot_model.specs.declared.shown.Shown.{Shown}

-- the machines of a session
pub data Machine : Type 0 where
  ClientMachine : ℕ → Machine
  ServerMachine : Machine

-- a client's machine edits, receives and reads; the server's takes messages and reads; a client joins at both
abbrev pub is_at : Machine → Instr → Bool
is_at (ClientMachine c) (Edit d op) = d == c
is_at (ClientMachine c) (Take d) = false
is_at (ClientMachine c) (Deliver d) = d == c
is_at (ClientMachine c) (Acknowledge d) = d == c
is_at (ClientMachine c) (Join d) = d == c
is_at (ClientMachine c) (Read d) = d == c
is_at (ClientMachine c) ReadServer = false
is_at ServerMachine (Edit d op) = false
is_at ServerMachine (Take d) = true
is_at ServerMachine (Deliver d) = false
is_at ServerMachine (Acknowledge d) = false
is_at ServerMachine (Join d) = true
is_at ServerMachine (Read d) = false
is_at ServerMachine ReadServer = true

-- a take of the message of a client that passes the test
abbrev pub is_take_by : (ℕ → Bool) → Instr → Bool
is_take_by p (Edit d op) = false
is_take_by p (Take d) = p d
is_take_by p (Deliver d) = false
is_take_by p (Acknowledge d) = false
is_take_by p (Join d) = false
is_take_by p (Read d) = false
is_take_by p ReadServer = false

abbrev pub is_take : Instr → Bool
is_take i = is_take_by (λ c. true) i

-- no client's machine performs both, and where one of them is a take, the server does not perform the other
pub record IsIndependent (i j : Instr) : Type 0 where
  pub clients : (c : ℕ) → is_at (ClientMachine c) i ≡ true → is_at (ClientMachine c) j ≡ false
  pub take_first : is_take i ≡ true → is_at ServerMachine j ≡ false
  pub take_second : is_take j ≡ true → is_at ServerMachine i ≡ false

-- each machine performs the same instructions in the same order: what the logs of the machines say of a schedule
abbrev pub AreSameOrders : List Instr → List Instr → Type 0
AreSameOrders is js = (w : Machine) → filter (is_at w) is ≡ filter (is_at w) js

-- a list that this machine shows
abbrev pub is_of : Machine → Reader → Bool
is_of (ClientMachine c) (reader.Client d) = d == c
is_of (ClientMachine c) reader.Server = false
is_of ServerMachine (reader.Client d) = false
is_of ServerMachine reader.Server = true

-- each machine shows the same lists in the same order
abbrev pub AreSameShown : List Shown → List Shown → Type 0
AreSameShown xs ys = (w : Machine) → filter (λ x. is_of w x.who) xs ≡ filter (λ x. is_of w x.who) ys

-- client c sends a message by an edit, or by an acknowledgement after which its buffer goes
abbrev pub may_send : ℕ → Instr → Bool
may_send c (Edit d op) = d == c
may_send c (Take d) = false
may_send c (Deliver d) = false
may_send c (Acknowledge d) = d == c
may_send c (Join d) = false
may_send c (Read d) = false
may_send c ReadServer = false

-- the second instruction may put on the link what the first one receives: what a client sends, its take; the take of another's
-- message, the client's delivery; the take of its own message, its acknowledgement
abbrev pub awaits : Instr → Instr → Bool
awaits (Edit c op) i = false
awaits (Take c) i = may_send c i
awaits (Deliver c) i = is_take_by (λ d. not (d == c)) i
awaits (Acknowledge c) i = is_take_by (λ d. d == c) i
awaits (Join c) i = false
awaits (Read c) i = false
awaits ReadServer i = false
