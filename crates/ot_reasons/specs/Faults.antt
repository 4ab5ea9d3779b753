-- The first place of a value that keeps it from being a trace, and what is wanted there: in the order in which the value is read.
use Rattle.std.specs.Prelude.{ℕ, ◌+◌, ◌-◌, ◌==◌, ◌||◌, Bool, Option, Some, None, codes, is_some, nat_lt, if◌then◌else◌}
use Rattle.serde_json.specs.Data.{Data, Items, no_items, item}
use Rattle.serde_json.specs.Find.{as_array, as_object, get}
use Rattle.ot_json.specs.Fields.{items_at, items_or_none, keep_if, number_at}
use Rattle.ot_judge.specs.Reading.{EventData, TraceData, event_data, is_replicas, kind_of, number_at_most, trace_data}
use Rattle.ot_reasons.specs.declared.place.Fault.{Fault}
use Rattle.ot_reasons.specs.declared.place.Field.TheVariants as field
use Rattle.ot_reasons.specs.declared.place.Place.{Place}
use Rattle.ot_reasons.specs.declared.place.Wanted.{Wanted}
use Rattle.ot_reasons.specs.declared.place.Wanted.TheVariants as wanted
use Rattle.ot_reasons.specs.Places.{event_place, here, in_field, in_item, in_part}

abbrev pub wants : Place → Wanted → Option Fault
wants p w = Some (record { place = p; wanted = w })

-- a fault where a test is not met
abbrev pub unless : Bool → Place → Wanted → Option Fault
unless met p w = if met then None else wants p w

-- the first of two
abbrev pub or_else : Option Fault → Option Fault → Option Fault
or_else None later = later
or_else (Some fault) later = Some fault

-- ---- items

-- the first of the items' faults, the first item having this number
abbrev pub each_fault : (ℕ → Data → Option Fault) → ℕ → Items → Option Fault
each_fault f k no_items = None
each_fault f k (item d ds) = or_else (f k d) (each_fault f (k + 1) ds)

abbrev pub count_items : Items → ℕ
count_items no_items = 0
count_items (item d ds) = count_items ds + 1

-- ---- numbers and tags

abbrev pub number_fault : ℕ → Place → Data → Option Fault
number_fault most p d = unless (is_some (number_at_most most d)) p (wanted.Number most)

abbrev pub count_fault : Place → Data → Option Fault
count_fault p d = number_fault 4294967295 p d

abbrev pub numbers_fault : Place → Data → Data → Option Fault
numbers_fault p origin serial = or_else (number_fault 65535 (in_part p 0) origin) (number_fault 4294967295 (in_part p 1) serial)

abbrev pub triple_fault : Place → Data → Data → Data → Option Fault
triple_fault p origin serial place = or_else (numbers_fault p origin serial) (number_fault 4294967295 (in_part p 2) place)

abbrev pub tag_parts : Place → Items → Option Fault
tag_parts p no_items = wants p wanted.Tag
tag_parts p (item o no_items) = wants p wanted.Tag
tag_parts p (item o (item s no_items)) = numbers_fault p o s
tag_parts p (item o (item s (item x xs))) = wants p wanted.Tag

abbrev pub placed_parts : Place → Items → Option Fault
placed_parts p no_items = wants p wanted.Placed
placed_parts p (item o no_items) = wants p wanted.Placed
placed_parts p (item o (item s no_items)) = wants p wanted.Placed
placed_parts p (item o (item s (item x no_items))) = triple_fault p o s x
placed_parts p (item o (item s (item x (item y ys)))) = wants p wanted.Placed

-- the faults of an array's parts, or that none stands there
abbrev pub of_array : Option Fault → (Items → Option Fault) → Option Items → Option Fault
of_array missing inside None = missing
of_array missing inside (Some ds) = inside ds

abbrev pub tag_fault : Place → Data → Option Fault
tag_fault p d = of_array (wants p wanted.Tag) (tag_parts p) (as_array d)

abbrev pub placed_fault : Place → Data → Option Fault
placed_fault p d = of_array (wants p wanted.Placed) (placed_parts p) (as_array d)

-- items at a place
abbrev pub tags_fault : Place → Items → Option Fault
tags_fault p ds = each_fault (λ k. tag_fault (in_item p k)) 0 ds

abbrev pub all_placed_fault : Place → Items → Option Fault
all_placed_fault p ds = each_fault (λ k. placed_fault (in_item p k)) 0 ds

abbrev pub counts_fault : Place → Items → Option Fault
counts_fault p ds = each_fault (λ k. count_fault (in_item p k)) 0 ds

-- ---- events: the keys, whether they fit the trace, the items

abbrev pub keys_fault : ℕ → Place → Data → Option Fault
keys_fault replicas p d =
    or_else (unless (is_some (number_at (codes "replica") d)) (in_field p field.Replica) (wanted.Number (replicas - 1)))
    (or_else (unless (is_some (kind_of d)) (in_field p field.Kind) wanted.Kind)
    (or_else (unless (is_some (items_at (codes "seen") d)) (in_field p field.Seen) (wanted.Counts replicas))
    (or_else (unless (is_some (items_or_none (get (codes "insert") d))) (in_field p field.Insert) wanted.Array)
    (or_else (unless (is_some (items_or_none (get (codes "delete") d))) (in_field p field.Delete) wanted.Array)
    (unless (is_some (items_at (codes "list") d)) (in_field p field.List) wanted.Array)))))

abbrev pub fields_fault : ℕ → Place → Data → Option Fault
fields_fault replicas p d = or_else (unless (is_some (as_object d)) p wanted.Object) (keys_fault replicas p d)

-- a read changes nothing
abbrev pub read_fault : Bool → Items → Place → Option Fault
read_fault edit ds p = unless (edit || (count_items ds == 0)) p wanted.Nothing

abbrev pub fit_fault : ℕ → Place → EventData → Option Fault
fit_fault replicas p x =
    or_else (unless (nat_lt x.replica replicas) (in_field p field.Replica) (wanted.Number (replicas - 1)))
    (or_else (unless (count_items x.seen == replicas) (in_field p field.Seen) (wanted.Counts replicas))
    (or_else (read_fault x.edit x.inserted (in_field p field.Insert)) (read_fault x.edit x.deleted (in_field p field.Delete))))

abbrev pub items_fault : Place → EventData → Option Fault
items_fault p x =
    or_else (counts_fault (in_field p field.Seen) x.seen)
    (or_else (all_placed_fault (in_field p field.Insert) x.inserted)
    (or_else (tags_fault (in_field p field.Delete) x.deleted) (tags_fault (in_field p field.List) x.list)))

abbrev pub of_event : Option Fault → (EventData → Option Fault) → Option EventData → Option Fault
of_event missing inside None = missing
of_event missing inside (Some x) = inside x

abbrev pub event_fault : ℕ → Place → Data → Option Fault
event_fault replicas p d =
    of_event (fields_fault replicas p d) (λ x. or_else (fit_fault replicas p x) (items_fault p x)) (event_data d)

abbrev pub events_fault : ℕ → Items → Option Fault
events_fault replicas ds = each_fault (λ k. event_fault replicas (event_place k)) 0 ds

-- ---- traces: the keys, the tags of `start`, the events

abbrev pub parts_fault : Data → Option Fault
parts_fault d =
    or_else (unless (is_some (keep_if is_replicas (number_at (codes "replicas") d))) (in_field here field.Replicas) (wanted.Positive 65))
    (or_else (unless (is_some (items_at (codes "start") d)) (in_field here field.Start) wanted.Array)
    (unless (is_some (items_at (codes "events") d)) (in_field here field.Events) wanted.Array))

abbrev pub layout_fault : Data → Option Fault
layout_fault d = or_else (unless (is_some (as_object d)) here wanted.Object) (parts_fault d)

abbrev pub of_trace : Option Fault → (TraceData → Option Fault) → Option TraceData → Option Fault
of_trace missing inside None = missing
of_trace missing inside (Some x) = inside x

-- the first fault of a value as a trace
abbrev pub trace_fault : Data → Option Fault
trace_fault d =
    of_trace (layout_fault d) (λ x. or_else (tags_fault (in_field here field.Start) x.start) (events_fault x.replicas x.events)) (trace_data d)
