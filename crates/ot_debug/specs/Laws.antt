-- That stops are exact: there is one, and no other.
use Rattle.std.specs.Prelude.{◌≡◌, ℕ}
use Rattle.ot_debug.specs.declared.command.Why.{Why}
use Rattle.ot_debug.specs.Session.{Session, IsSession}
use Rattle.ot_debug.specs.Stops.{IsRunStop, IsStepStop}

-- a run stops at one place, for one reason
abbrev pub RunsStopOnce : Type 0
RunsStopOnce = (x : Session) (from q r : ℕ) (a b : Why) → IsRunStop x from q a → IsRunStop x from r b → (q ≡ r) × (a ≡ b)

-- and so does a number of steps
abbrev pub StepsStopOnce : Type 0
StepsStopOnce = (x : Session) (from n q r : ℕ) (a b : Why) → IsStepStop x from n q a → IsStepStop x from n r b → (q ≡ r) × (a ≡ b)

-- from where a session stands a run has a stop
abbrev pub RunsStop : Type 0
RunsStop = (x : Session) → IsSession x → (q : ℕ) × (reason : Why) × IsRunStop x x.position q reason

-- and so has each number of steps
abbrev pub StepsStop : Type 0
StepsStop = (x : Session) (n : ℕ) → IsSession x → (q : ℕ) × (reason : Why) × IsStepStop x x.position n q reason
