-- A run that is being traced: what of its trace is made, and what an instruction adds.
use Rattle.std.specs.Prelude.{◌≡◌, ℕ, ◌+◌, ◌<◌, ◌≤◌, ◌⊎◌, List, ◌++◌, length, map, drop, Option, true, false}
use Rattle.std.specs.List.{All}
use Rattle.ot_isa.specs.Program.{Program}
use Rattle.ot_isa.specs.declared.instruction.Instr.{Instr}
use Rattle.ot_model.specs.declared.shown.Refusal.{Refusal}
use Rattle.ot_model.specs.declared.shown.Shown.{Shown}
use Rattle.ot_machine.specs.declared.state.Phase as name
use Rattle.ot_machine.specs.declared.state.Phase.TheVariants as phase
use Rattle.ot_model.specs.Table.{State, Outcome, Performed, Refused, NoRow, step}
use Rattle.ot_model.specs.Events as events
use Rattle.ot_model.specs.Runs.{opening_of, IsStateAt}
use Rattle.ot_machine.specs.Answers.{IsRefusal}
use Rattle.ot_machine.specs.Ended.{IsEnding}
use Rattle.ot_model.specs.Sound.{IsSound}
use Rattle.ot_model.specs.Trace.{EventView}
use Rattle.ot_judge.specs.Making.{entries, is_full}
use Rattle.ot_judge.specs.Views.{views}
use Rattle.ot_check.specs.declared.ledger.Ledger.{Ledger}
use Rattle.ot_check.specs.declared.traced.Followed.{Followed}
use Rattle.ot_check.specs.declared.traced.Followed.TheVariants.{Whole, Full}
use Rattle.ot_check.specs.declared.tracing.Tracer.{Tracer}
use Rattle.ot_check.specs.Rows.{Counts, no_counts, made_by, waiting_of, counts_after, acting, event_at, events_by}

-- the program's counts as lists
abbrev pub counts_of : Ledger → Counts
counts_of held = record { made = held.made.items; buffered = held.buffered.items; rows = map (λ row. row.items) held.rows.items }

-- how many edits wait in the buffer after one more, where n did
abbrev pub waiting_after : name.Phase → ℕ → ℕ
waiting_after phase.NotJoined n = 0
waiting_after phase.Synchronized n = 0
waiting_after phase.AwaitingConfirm n = 1
waiting_after phase.AwaitingWithBuffer n = n + 1

-- the table does not perform the instruction
abbrev pub IsStuck : Outcome → Type 0
IsStuck (Performed s shown) = ⊥
IsStuck (Refused r) = Unit {0}
IsStuck NoRow = Unit {0}

-- it performs it, and this is the state after it
abbrev pub LeadsTo : Outcome → State → Type 0
LeadsTo outcome t = (shown : Option Shown) × (outcome ≡ Performed t shown)

-- counts of as many clients and log entries as the state has, which is sound, and no more edits than steps
pub record FitsState (s : State) (l : Counts) : Type 0 where
  pub sound : IsSound s
  pub made : length l.made ≡ length s.clients
  pub buffered : length l.buffered ≡ length s.clients
  pub rows : length l.rows ≡ length s.log + 1
  pub wide : All (λ row. length row ≡ length s.clients + 1) l.rows
  pub few : (c : ℕ) → made_by l c ≤ s.steps
  pub waiting : (c : ℕ) → waiting_of l c ≤ s.steps

-- the events keep within the limits, and so many entries stand in their lists
pub record IsWithin (events : List EventView) (count : ℕ) : Type 0 where
  pub count_is : count ≡ entries events
  pub few_events : length events ≤ 4000
  pub few_entries : count ≤ 4000000

-- the events pass a limit
abbrev pub PassLimits : List EventView → Type 0
PassLimits events = (4000 < length events) ⊎ (4000000 < entries events)

-- its events as lists
abbrev pub events_of : Tracer → List EventView
events_of t = views t.events.items

-- the instruction is performed, counted, and its event, if it has one, is behind those before it, within the limits
pub record Follows (old new : Tracer) (i : Instr) : Type 0 where
  pub performed : LeadsTo (step old.machine i) new.machine
  pub counted : counts_of new.ledger ≡ counts_after (counts_of old.ledger) i (acting old.machine i)
  pub noted : events_of new ≡ events_of old ++ event_at old.machine (counts_of old.ledger) i
  pub within : IsWithin (events_of new) new.entries

-- the instruction is performed, which leads to this state, and with its event a limit is passed
pub record Overflows (old : Tracer) (i : Instr) (state : State) : Type 0 where
  pub performed : LeadsTo (step old.machine i) state
  pub past : PassLimits (events_of old ++ event_at old.machine (counts_of old.ledger) i)

-- the table refuses the instruction for this reason, and nothing is performed or noted
pub record Stays (old new : Tracer) (i : Instr) (r : Refusal) : Type 0 where
  pub refused : IsRefusal (step old.machine i) r
  pub stuck : IsStuck (step old.machine i)
  pub machine : new.machine ≡ old.machine
  pub events : new.events ≡ old.events

-- the first instructions of the schedule are performed, and these are their events
pub record IsTracedTo (s : Program) (place : ℕ) (t : Tracer) : Type 0 where
  pub clients : length t.machine.clients ≡ s.clients
  pub fits : FitsState t.machine (counts_of t.ledger)
  pub within : IsWithin (events_of t) t.entries
  pub rest : events_of t ++ events_by t.machine (counts_of t.ledger) (drop place s.instrs) ≡ events_by (opening_of s) (no_counts s.clients) s.instrs

-- the run ended there, and these are all events of its trace, within the limits; or they pass a limit, and the run came so far
abbrev pub IsFollowed : Program → Followed → Type 0
IsFollowed s (Whole t stopped) =
    IsEnding s (record { machine = t.machine; stopped = stopped }) × (events_of t ≡ (events.trace_of s).events) × (is_full (events.trace_of s) ≡ false)
IsFollowed s (Full machine place) = (place ≤ length s.instrs) × IsStateAt s place machine × (is_full (events.trace_of s) ≡ true)
