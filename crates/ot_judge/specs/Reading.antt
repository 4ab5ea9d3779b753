-- What trace a JSON text is.
use Rattle.std.specs.Prelude.{ℕ, Bool, true, false, List, Option, Some, None, Result, Err, codes, nat_lt, nat_le, if◌then◌else◌, option_map, option_and_then}
use Rattle.std.specs.Str.{bytes_eq}
use Rattle.serde_json.specs.Data.{Data, Items, no_items, item}
use Rattle.serde_json.specs.Find.{get, as_array, as_number, as_str, as_u64}
use Rattle.serde_json.specs.Read.{read}
use Rattle.ot_json.specs.Fields.{all_of, items_at, items_or_none, keep_if, number_at}
use Rattle.ot_isa.specs.declared.elements.Tag.{Tag}
use Rattle.ot_model.specs.declared.trace.Placed.{Placed}
use Rattle.ot_judge.specs.declared.fault.TraceFault.{TraceFault}
use Rattle.ot_judge.specs.declared.fault.TraceFault.TheVariants.{NotJson, BadShape}
use Rattle.ot_model.specs.Trace.{EventView, TraceView}
use Rattle.ot_judge.specs.Making.{is_event, trace_from}

-- ---- numbers and tags

-- a whole number from 0 to `most`
abbrev pub number_at_most : ℕ → Data → Option ℕ
number_at_most most d = keep_if (λ n. nat_le n most) (option_and_then as_u64 (as_number d))

abbrev pub count_of : Data → Option ℕ
count_of d = number_at_most 4294967295 d

abbrev pub tag_with : Data → Data → Option Tag
tag_with origin serial =
    option_and_then (λ o. option_map (λ s. record { origin = o; serial = s }) (number_at_most 4294967295 serial)) (number_at_most 65535 origin)

abbrev pub tag_from : Items → Option Tag
tag_from no_items = None
tag_from (item o no_items) = None
tag_from (item o (item s no_items)) = tag_with o s
tag_from (item o (item s (item x xs))) = None

-- a tag is the array `[origin, serial]`
abbrev pub tag_of : Data → Option Tag
tag_of d = option_and_then tag_from (as_array d)

abbrev pub placed_with : Data → Data → Data → Option Placed
placed_with origin serial place =
    option_and_then (λ t. option_map (λ p. record { tag = t; place = p }) (number_at_most 4294967295 place)) (tag_with origin serial)

abbrev pub placed_from : Items → Option Placed
placed_from no_items = None
placed_from (item o no_items) = None
placed_from (item o (item s no_items)) = None
placed_from (item o (item s (item p no_items))) = placed_with o s p
placed_from (item o (item s (item p (item x xs)))) = None

-- an inserted element is the array `[origin, serial, place]`
abbrev pub placed_of : Data → Option Placed
placed_of d = option_and_then placed_from (as_array d)

-- ---- events

-- whether the word is that of an edit
abbrev pub kind_from : List ℕ → Option Bool
kind_from word = if bytes_eq word (codes "edit") then Some true else (if bytes_eq word (codes "read") then Some false else None)

abbrev pub kind_of : Data → Option Bool
kind_of d = option_and_then kind_from (option_and_then as_str (get (codes "kind") d))

-- the fields of an event, with the items of its arrays as they are
pub record EventData : Type 0 where
  pub replica : ℕ
  pub edit : Bool
  pub seen : Items
  pub inserted : Items
  pub deleted : Items
  pub list : Items

abbrev pub event_data : Data → Option EventData
event_data d =
    option_and_then (λ replica.
    option_and_then (λ edit.
    option_and_then (λ seen.
    option_and_then (λ inserted.
    option_and_then (λ deleted.
    option_map (λ list. record { replica = replica; edit = edit; seen = seen; inserted = inserted; deleted = deleted; list = list })
    (items_at (codes "list") d))
    (items_or_none (get (codes "delete") d)))
    (items_or_none (get (codes "insert") d)))
    (items_at (codes "seen") d))
    (kind_of d))
    (number_at (codes "replica") d)

abbrev pub event_from : EventData → Option EventView
event_from x =
    option_and_then (λ seen.
    option_and_then (λ inserted.
    option_and_then (λ deleted.
    option_map (λ list. record { replica = x.replica; edit = x.edit; seen = seen; inserted = inserted; deleted = deleted; list = list })
    (all_of tag_of x.list))
    (all_of tag_of x.deleted))
    (all_of placed_of x.inserted))
    (all_of count_of x.seen)

-- the event that a value is, among so many replicas
abbrev pub event_of : ℕ → Data → Option EventView
event_of replicas d = keep_if (is_event replicas) (option_and_then event_from (event_data d))

-- ---- traces

pub record TraceData : Type 0 where
  pub replicas : ℕ
  pub start : Items
  pub events : Items

abbrev pub is_replicas : ℕ → Bool
is_replicas n = if nat_lt 0 n then nat_lt n 66 else false

abbrev pub trace_data : Data → Option TraceData
trace_data d =
    option_and_then (λ replicas.
    option_and_then (λ start.
    option_map (λ events. record { replicas = replicas; start = start; events = events })
    (items_at (codes "events") d))
    (items_at (codes "start") d))
    (keep_if is_replicas (number_at (codes "replicas") d))

abbrev pub shape_from : TraceData → Option TraceView
shape_from x =
    option_and_then (λ start.
    option_map (λ events. record { replicas = x.replicas; start = start; events = events })
    (all_of (event_of x.replicas) x.events))
    (all_of tag_of x.start)

-- the parts of a trace that a value spells
abbrev pub shape_of : Data → Option TraceView
shape_of d = option_and_then shape_from (trace_data d)

abbrev pub trace_of_shape : Option TraceView → Result TraceView TraceFault
trace_of_shape None = Err BadShape
trace_of_shape (Some t) = trace_from t

abbrev pub trace_of_json : Option Data → Result TraceView TraceFault
trace_of_json None = Err NotJson
trace_of_json (Some d) = trace_of_shape (shape_of d)

-- the trace that a text is, or its fault
abbrev pub trace_of_text : List ℕ → Result TraceView TraceFault
trace_of_text text = trace_of_json (read text)
