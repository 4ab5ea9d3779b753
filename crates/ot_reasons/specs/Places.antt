-- Where a value stands in the JSON of a trace or a plan, and what stands there.
use Rattle.std.specs.Prelude.{ℕ, List, Option, Some, None, codes, option_and_then}
use Rattle.serde_json.specs.Data.{Data}
use Rattle.serde_json.specs.Find.{at, get}
use Rattle.ot_reasons.specs.declared.place.Field.{Field}
use Rattle.ot_reasons.specs.declared.place.Field.TheVariants as field
use Rattle.ot_reasons.specs.declared.place.Place.{Place}

-- the whole value, and an event of it
abbrev pub here : Place
here = record { event = None; field = None; item = None; part = None; key = None }

abbrev pub event_place : ℕ → Place
event_place event = record { event = Some event; field = None; item = None; part = None; key = None }

-- under a key there, an item of what is there, a part of the item, and under a key of the part
abbrev pub in_field : Place → Field → Place
in_field p f = record { event = p.event; field = Some f; item = p.item; part = p.part; key = p.key }

abbrev pub in_item : Place → ℕ → Place
in_item p k = record { event = p.event; field = p.field; item = Some k; part = p.part; key = p.key }

abbrev pub in_part : Place → ℕ → Place
in_part p k = record { event = p.event; field = p.field; item = p.item; part = Some k; key = p.key }

abbrev pub in_key : Place → Field → Place
in_key p f = record { event = p.event; field = p.field; item = p.item; part = p.part; key = Some f }

-- what a client of a plan types
abbrev pub row_place : ℕ → Place
row_place row = in_item (in_field here field.Typing) row

abbrev pub key_of : Field → List ℕ
key_of field.Replicas = codes "replicas"
key_of field.Start = codes "start"
key_of field.Events = codes "events"
key_of field.Replica = codes "replica"
key_of field.Kind = codes "kind"
key_of field.Seen = codes "seen"
key_of field.Insert = codes "insert"
key_of field.Delete = codes "delete"
key_of field.List = codes "list"
key_of field.Clients = codes "clients"
key_of field.Workers = codes "workers"
key_of field.Present = codes "present"
key_of field.Typing = codes "typing"
key_of field.At = codes "at"

-- one step of a path; where it goes into nothing, the value itself
abbrev pub event_if : Option ℕ → Data → Option Data
event_if None d = Some d
event_if (Some event) d = option_and_then (at event) (get (codes "events") d)

abbrev pub field_if : Option Field → Data → Option Data
field_if None d = Some d
field_if (Some f) d = get (key_of f) d

abbrev pub item_if : Option ℕ → Data → Option Data
item_if None d = Some d
item_if (Some k) d = at k d

-- what stands at a place
abbrev pub found_at : Place → Data → Option Data
found_at p d =
    option_and_then (field_if p.key) (option_and_then (item_if p.part) (option_and_then (item_if p.item) (option_and_then (field_if p.field) (event_if p.event d))))
