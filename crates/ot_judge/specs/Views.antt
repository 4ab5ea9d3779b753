-- The code's events and traces as lists.
use Rattle.std.specs.Prelude.{ℕ, List, map}
use Rattle.ot_isa.specs.declared.elements.Tag.{Tag}
use Rattle.ot_judge.specs.declared.trace.Event.{Event}
use Rattle.ot_model.specs.Trace.{EventView, TraceView}

abbrev pub event_view : Event → EventView
event_view x = record { replica = x.replica; edit = x.edit; seen = x.seen.items; inserted = x.inserted.items; deleted = x.deleted.items; list = x.list.items }

abbrev pub views : List Event → List EventView
views events = map event_view events

abbrev pub trace_view : ℕ → List Tag → List Event → TraceView
trace_view replicas start events = record { replicas = replicas; start = start; events = views events }
