-- What each command answers, and what it leaves.
use Rattle.std.specs.Prelude.{◌≡◌, ℕ, ◌-◌, ◌<◌, ◌≤◌, [], ◌∷◌, ◌++◌, Bool, true, false, length, slice_set}
use Rattle.ot_machine.specs.Readers.{IsShownState}
use Rattle.ot_debug.specs.declared.command.Watched.{Watched}
use Rattle.ot_debug.specs.declared.command.Why.{Why}
use Rattle.ot_debug.specs.declared.command.Why.TheVariants as why
use Rattle.ot_debug.specs.declared.command.Command.{Command}
use Rattle.ot_debug.specs.declared.command.Command.TheVariants as command
use Rattle.ot_debug.specs.declared.command.Reply.{Reply}
use Rattle.ot_debug.specs.declared.command.Reply.TheVariants as reply
use Rattle.ot_debug.specs.Session.{Session, IsBreak, IsOfClients}
use Rattle.ot_debug.specs.Stops.{IsRunStop, IsStepStop}

-- a session that has moved, or not: schedule, breaks and watches are as before
pub record Keeps (x y : Session) : Type 0 where
  pub schedule : y.schedule ≡ x.schedule
  pub breaks : y.breaks ≡ x.breaks
  pub watches : y.watches ≡ x.watches

-- a break set or removed
abbrev pub with_break : Session → ℕ → Bool → Session
with_break x q set = record x { breaks = slice_set x.breaks q set }

abbrev pub with_watch : Session → Watched → Session
with_watch x watch = record x { watches = x.watches ++ watch ∷ [] }

abbrev pub without_watches : Session → Session
without_watches x = record x { watches = [] }

-- it has moved to a stop; or if memory runs out, it stands somewhere from its old place on, and not past any stop
abbrev pub MovesForth : (Session → ℕ → Why → Type 0) → Session → Reply → Session → Type 0
MovesForth IsStop x (reply.Stopped at reason) y = Keeps x y × (y.position ≡ at) × IsStop x at reason
MovesForth IsStop x reply.Memory y = Keeps x y × (x.position ≤ y.position) × ((q : ℕ) (reason : Why) → IsStop x q reason → y.position ≤ q)
MovesForth IsStop x other y = ⊥

-- it has moved n instructions back, or to the opening; or if memory runs out, it stands between
abbrev pub MovesBack : ℕ → Session → Reply → Session → Type 0
MovesBack n x (reply.Stopped at reason) y = Keeps x y × (y.position ≡ at) × (at ≡ x.position - n) × (reason ≡ why.Count)
MovesBack n x reply.Memory y = Keeps x y × (x.position - n ≤ y.position) × (y.position ≤ x.position)
MovesBack n x other y = ⊥

-- a break is set at any place of the schedule, its end too
abbrev pub SetsBreak : ℕ → Session → Reply → Session → Type 0
SetsBreak n x reply.Done y = (n ≤ length x.schedule.instrs) × (y ≡ with_break x n true)
SetsBreak n x reply.NoSuchPlace y = (length x.schedule.instrs < n) × (y ≡ x)
SetsBreak n x other y = ⊥

-- a break is removed where there is one
abbrev pub ClearsBreak : ℕ → Session → Reply → Session → Type 0
ClearsBreak n x reply.Done y = IsBreak x n × (y ≡ with_break x n false)
ClearsBreak n x reply.NoSuchPlace y = (¬ IsBreak x n) × (y ≡ x)
ClearsBreak n x other y = ⊥

-- a watch is added whose client is there
abbrev pub AddsWatch : Watched → Session → Reply → Session → Type 0
AddsWatch watch x reply.Done y = IsOfClients x.schedule.clients watch × (y ≡ with_watch x watch)
AddsWatch watch x reply.NoSuchClient y = (¬ IsOfClients x.schedule.clients watch) × (y ≡ x)
AddsWatch watch x reply.Memory y = IsOfClients x.schedule.clients watch × (y ≡ x)
AddsWatch watch x other y = ⊥

-- the watches are gone
abbrev pub RemovesWatches : Session → Reply → Session → Type 0
RemovesWatches x answer y = (answer ≡ reply.Done) × (y ≡ without_watches x)

-- the place is given
abbrev pub TellsPlace : Session → Reply → Session → Type 0
TellsPlace x answer y = (answer ≡ reply.Place x.position) × (y ≡ x)

-- the state is shown
abbrev pub ShowsState : Session → Reply → Session → Type 0
ShowsState x (reply.Shown view) y = IsShownState x.place.state view × (y ≡ x)
ShowsState x reply.Memory y = y ≡ x
ShowsState x other y = ⊥

-- the command given to one session is answered so, and leaves the other session
abbrev pub Answers : Session → Command → Reply → Session → Type 0
Answers x command.Run answer y = MovesForth (λ s q reason. IsRunStop s s.position q reason) x answer y
Answers x (command.Step n) answer y = MovesForth (λ s q reason. IsStepStop s s.position n q reason) x answer y
Answers x (command.Back n) answer y = MovesBack n x answer y
Answers x (command.Break n) answer y = SetsBreak n x answer y
Answers x (command.Clear n) answer y = ClearsBreak n x answer y
Answers x (command.Watch watch) answer y = AddsWatch watch x answer y
Answers x command.Unwatch answer y = RemovesWatches x answer y
Answers x command.Position answer y = TellsPlace x answer y
Answers x command.Show answer y = ShowsState x answer y
