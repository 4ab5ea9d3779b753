-- The laws of what is still to arrive.
use Rattle.std.specs.Prelude.{◌≡◌, ◌≢◌, ◌⊎◌, ℕ, ◌+◌, ◌<◌, ◌≤◌, List, [], ◌∷◌, length, drop, slice_get, true, Some, None}
use Rattle.ot_isa.specs.declared.elements.Tagged.{Tagged}
use Rattle.ot_isa.specs.declared.instruction.Instr.{Instr}
use Rattle.ot_isa.specs.declared.instruction.Instr.TheVariants.{Edit, Take, Deliver, Acknowledge, Join, Read, ReadServer}
use Rattle.ot_model.specs.declared.limits.TheConstants.{STEP_LIMIT}
use Rattle.ot_model.specs.Table.{Client, State, is_joined, step, IsQuiet}
use Rattle.ot_model.specs.Session.{RunsTo}
use Rattle.ot_model.specs.Sound.{IsSound}
use Rattle.ot_machine.specs.Answers.{IsPerformed}
use Rattle.ot_machine.specs.Readers.{AreOne}
use Rattle.ot_generate.specs.Completed.{Drains, next_of}
use Rattle.ot_generate.specs.Left.{left}
use Rattle.ot_verdict.specs.Pending.{untaken}
use Rattle.ot_verdict.specs.Ending.{ending}

-- an instruction that is no edit
abbrev pub IsNoEdit : Instr → Type 0
IsNoEdit (Edit c op) = ⊥
IsNoEdit (Take c) = Unit {0}
IsNoEdit (Deliver c) = Unit {0}
IsNoEdit (Acknowledge c) = Unit {0}
IsNoEdit (Join c) = Unit {0}
IsNoEdit (Read c) = Unit {0}
IsNoEdit ReadServer = Unit {0}

abbrev pub AreNoEdits : List Instr → Type 0
AreNoEdits [] = Unit {0}
AreNoEdits (i ∷ is) = IsNoEdit i × AreNoEdits is

-- no message is on its way to the server, and none to a client that has joined
abbrev pub HasArrived : State → Type 0
HasArrived s = (c : ℕ) (x : Client) → slice_get s.clients c ≡ Some x → is_joined x.phase ≡ true → (x.message ≡ None) × (drop x.revision s.log ≡ [])

-- all is quiet, and every document is this list: the server's, and that of each client that has joined
abbrev pub AllAre : State → List Tagged → Type 0
AllAre s list = IsQuiet s × (s.server ≡ list) × AreOne s

-- whatever comes but an edit, in whatever order: once everything has arrived, every document is this list
abbrev pub EndsIn : State → List Tagged → Type 0
EndsIn s list = (is : List Instr) (t : State) → AreNoEdits is → RunsTo s is t → HasArrived t → AllAre t list

-- so it is where at most one client has edits that the server has not taken
abbrev pub EveryOrderEnds : Type 0
EveryOrderEnds = (s : State) → IsSound s → length (untaken s) ≤ 1 → EndsIn s (ending s)

-- what `complete` makes is one of these orders
abbrev pub CompletionEnds : Type 0
CompletionEnds = (s t : State) (is : List Instr) → IsSound s → length (untaken s) ≤ 1 → Drains s is t → next_of t ≡ None → AllAre t (ending s)

-- a message arrives: at the server, or at a client
abbrev pub IsArrival : Instr → Type 0
IsArrival (Edit c op) = ⊥
IsArrival (Take c) = Unit {0}
IsArrival (Deliver c) = Unit {0}
IsArrival (Acknowledge c) = Unit {0}
IsArrival (Join c) = ⊥
IsArrival (Read c) = ⊥
IsArrival ReadServer = ⊥

abbrev pub AreArrivals : List Instr → Type 0
AreArrivals [] = Unit {0}
AreArrivals (i ∷ is) = IsArrival i × AreArrivals is

-- no more than `left` arrivals can come, in whatever order
abbrev pub ArrivalsEnd : Type 0
ArrivalsEnd = (s t : State) (is : List Instr) → AreArrivals is → RunsTo s is t → length is + left t ≤ left s

-- what has not arrived can arrive next, unless the machine has performed all of its steps
abbrev pub WhatWaitsCanCome : Type 0
WhatWaitsCanCome =
    (s : State) (c : ℕ) (x : Client) → IsSound s → s.steps < STEP_LIMIT → slice_get s.clients c ≡ Some x → is_joined x.phase ≡ true
    → (x.message ≢ None → IsPerformed (step s (Take c)))
    × (drop x.revision s.log ≢ [] → IsPerformed (step s (Deliver c)) ⊎ IsPerformed (step s (Acknowledge c)))
