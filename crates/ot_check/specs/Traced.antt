-- The trace of a schedule, if it is not too large to be judged.
use Rattle.std.specs.Prelude.{Option, Some, None, if◌then◌else◌}
use Rattle.ot_isa.specs.Program.{Program}
use Rattle.ot_model.specs.Events.{trace_of}
use Rattle.ot_model.specs.Trace.{TraceView}
use Rattle.ot_judge.specs.Making.{is_full}

-- none where it has too many events or entries
abbrev pub trace_within : Program → Option TraceView
trace_within s = if is_full (trace_of s) then None else Some (trace_of s)
