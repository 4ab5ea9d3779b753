-- A session of the debugger: a schedule, where its run stands, and where it is to stop.
use Rattle.std.specs.Prelude.{◌≡◌, ℕ, suc, ◌<◌, ◌≤◌, List, [], Bool, true, false, length, replicate, slice_get, Some}
use Rattle.std.specs.List.{All}
use Rattle.ot_isa.specs.Program.{Program, IsProgram}
use Rattle.ot_model.specs.Table.{Place, begin}
use Rattle.ot_model.specs.Runs.{done, place_at}
use Rattle.ot_debug.specs.declared.command.Watched.{Watched}
use Rattle.ot_debug.specs.declared.command.Watched.TheVariants as watched

-- the schedule; how many of its instructions are performed; the state and the lists shown then; for each place, from 0 to the
-- schedule's length, whether there is a break; the watches in the order of setting
pub record Session : Type 0 where
  pub schedule : Program
  pub position : ℕ
  pub place : Place
  pub breaks : List Bool
  pub watches : List Watched

-- the watch names a client that is there
abbrev pub IsOfClients : ℕ → Watched → Type 0
IsOfClients clients (watched.Doc c) = c < clients
IsOfClients clients (watched.State c) = c < clients
IsOfClients clients watched.ServerRevision = Unit {0}

-- there is a break at the place
abbrev pub IsBreak : Session → ℕ → Type 0
IsBreak x q = slice_get x.breaks q ≡ Some true

-- the type invariant of debuggers: the limits of schedules; the place is the run's after as many instructions
pub record IsSession (x : Session) : Type 0 where
  pub limits : IsProgram x.schedule
  pub at : place_at x.schedule x.position ≡ Some x.place
  pub reached : x.position ≤ done x.schedule
  pub within : x.position ≤ length x.schedule.instrs
  pub breaks : length x.breaks ≡ suc (length x.schedule.instrs)
  pub watches : All (IsOfClients x.schedule.clients) x.watches

-- the session as it begins: at the opening, without breaks and watches
abbrev pub started : Program → Session
started s =
    record {
      schedule = s;
      position = 0;
      place = begin s.clients s.present s.start;
      breaks = replicate (suc (length s.instrs)) false;
      watches = [];
    }
