-- The fields that the code reads from a JSON value, and lists that the check counts without reading them out.
use Rattle.std.specs.Prelude.{ℕ, Bool, ◌&&◌, ◌||◌, ◌==◌, Option, length, nat_lt, option_map}
use Rattle.serde_json.specs.Data.{Items}
use Rattle.serde_json.specs.View.{items_view}
use Rattle.ot_judge.specs.declared.layout.Fields.{Fields}
use Rattle.ot_judge.specs.declared.layout.Layout.{Layout}
use Rattle.ot_judge.specs.Making.{entries}
use Rattle.ot_json.specs.Fields.{all_of}
use Rattle.ot_judge.specs.Reading.{EventData, TraceData, event_of}

abbrev pub fields_view : Fields → EventData
fields_view x = record { replica = x.replica; edit = x.edit; seen = items_view x.seen.now; inserted = items_view x.inserted.now; deleted = items_view x.deleted.now; list = items_view x.list.now }

abbrev pub layout_view : Layout → TraceData
layout_view x = record { replicas = x.replicas; start = items_view x.start.now; events = items_view x.events.now }

-- whether the fields fit an event, before any of their items is read
abbrev pub is_fitting : ℕ → Fields → Bool
is_fitting replicas x =
    nat_lt x.replica replicas && (length x.seen.now == replicas)
    && (x.edit || ((length x.inserted.now == 0) && (length x.deleted.now == 0)))

-- how many list entries the events have
abbrev pub entries_of : ℕ → Items → Option ℕ
entries_of replicas ds = option_map entries (all_of (event_of replicas) ds)
