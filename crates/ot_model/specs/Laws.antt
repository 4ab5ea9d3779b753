-- The laws of all runs.
use Rattle.std.specs.Prelude.{◌≡◌, ℕ, ◌<◌, ◌≤◌, ◌≢◌, ◌↔◌, List, length, slice_get, Some, None, IsSome, true}
use Rattle.ot_isa.specs.Program.{Program, IsProgram}
use Rattle.ot_isa.specs.declared.elements.Tagged.{Tagged}
use Rattle.ot_isa.specs.declared.instruction.Instr.{Instr}
use Rattle.ot_client.specs.Conditions as conditions
use Rattle.ot_server.specs.History.{History}
use Rattle.ot_server.specs.Faults.{fault_of}
use Rattle.ot_model.specs.Operation.{Operation}
use Rattle.ot_model.specs.Table.{Phase, by_rule, is_joined, Client, State, Place, Entry, Message, opening, begin, run, step, against_pending, IsQuiet}
use Rattle.ot_model.specs.Sound.{IsSound, IsInstr, AreInstrs, IsOutcomeSound}
use Rattle.ot_model.specs.Limits.{IsWithinLimits}
use Rattle.ot_model.specs.Runs.{IsRunnable, done, place_at}
use Rattle.ot_isa.specs.declared.builder.TheConstants.{CLIENT_LIMIT, START_LIMIT}
use Rattle.ot_client.specs.declared.TheConstants.{REVISION_LIMIT}
use Rattle.ot_model.specs.declared.limits.TheConstants.{STEP_LIMIT}

-- each opening within the limits is sound
abbrev pub OpeningSound : Type 0
OpeningSound = (clients present : ℕ) (text : List ℕ) → clients ≤ CLIENT_LIMIT → present ≤ clients → length text ≤ START_LIMIT → IsSound (opening clients present text)

-- each row leads from a sound state to a sound one, and an acknowledgement in Synchronized never comes
abbrev pub StepSound : Type 0
StepSound = (s : State) (i : Instr) → IsSound s → IsInstr i → IsOutcomeSound (step s i)

-- wherever a run goes, the state is sound
abbrev pub RunSound : Type 0
RunSound =
    (clients present : ℕ) (text : List ℕ) (is : List Instr) (q : Place)
    → clients ≤ CLIENT_LIMIT → present ≤ clients → length text ≤ START_LIMIT → AreInstrs is
    → run is (begin clients present text) ≡ Some q → IsSound q.state

-- where a sound state is quiet, each joined client's list is the server's
abbrev pub QuietSame : Type 0
QuietSame =
    (s : State) → IsSound s → IsQuiet s
    → (c : ℕ) (x : Client) → slice_get s.clients c ≡ Some x → is_joined x.phase ≡ true → x.list ≡ s.server

-- wherever a run is quiet, each joined client's list is the server's
abbrev pub Convergence : Type 0
Convergence =
    (clients present : ℕ) (text : List ℕ) (is : List Instr) (q : Place)
    → clients ≤ CLIENT_LIMIT → present ≤ clients → length text ≤ START_LIMIT → AreInstrs is
    → run is (begin clients present text) ≡ Some q → IsQuiet q.state
    → (c : ℕ) (x : Client) → slice_get q.state.clients c ≡ Some x → is_joined x.phase ≡ true → x.list ≡ q.state.server

-- the server as its crate sees it
abbrev pub history_of : State → History Tagged
history_of s = record { document = s.server; log = s.log }

-- the server of a sound state receives each message under way, unless memory runs out
abbrev pub ServerAccepts : Type 0
ServerAccepts =
    (s : State) (c : ℕ) (x : Client) (m : Message)
    → IsSound s → s.steps < STEP_LIMIT → slice_get s.clients c ≡ Some x → x.message ≡ Some m
    → fault_of (history_of s) m.revision m.op ≡ None

-- no length of a sound state passes 1,000,000
abbrev pub LengthsFit : Type 0
LengthsFit = (s : State) → IsSound s → IsWithinLimits s

-- what a delivery of h asks of the client's operations
abbrev pub MayDeliver : Phase → Operation Tagged → Type 0
MayDeliver phase h = by_rule (Unit {0}) (λ p. conditions.MayDeliver p h) phase

-- what an entry of another asks of the client that it is delivered to
pub record IsDeliverable (x : Client) (h : Operation Tagged) : Type 0 where
  pub revision : x.revision < REVISION_LIMIT
  pub operations : MayDeliver x.phase h
  pub base : (against_pending x.phase h).base ≡ length x.list

-- a sound state gives it, for the entry at the head of a joined client's downlink
abbrev pub DeliveriesFit : Type 0
DeliveriesFit =
    (s : State) (c : ℕ) (x : Client) (h : Entry)
    → IsSound s → slice_get s.clients c ≡ Some x → is_joined x.phase ≡ true → slice_get s.log x.revision ≡ Some h → h.maker ≢ c
    → IsDeliverable x h.op

-- a schedule's instructions are performed up to the first that is refused, and not past it
abbrev pub RunsReach : Type 0
RunsReach = (s : Program) (p : ℕ) → p ≤ length s.instrs → (p ≤ done s) ↔ IsSome (place_at s p)

-- every schedule can be run
abbrev pub SchedulesRun : Type 0
SchedulesRun = (s : Program) → IsProgram s → IsRunnable s
