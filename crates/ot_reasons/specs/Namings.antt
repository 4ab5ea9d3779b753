-- The first two places of a trace's value that name a tag: of the start, and then of what the events insert.
use Rattle.std.specs.Prelude.{ℕ, ◌+◌, Bool, false, Option, Some, None, codes, if◌then◌else◌, option_map}
use Rattle.serde_json.specs.Data.{Data, Items, no_items, item}
use Rattle.serde_json.specs.Find.{get}
use Rattle.ot_isa.specs.declared.elements.Tag.{Tag}
use Rattle.ot_json.specs.Fields.{items_at, items_or_none}
use Rattle.ot_judge.specs.Reading.{placed_of, tag_of}
use Rattle.ot_model.specs.declared.trace.Placed.{Placed}
use Rattle.ot_model.specs.Trace.{same_tag}
use Rattle.ot_reasons.specs.declared.namings.Namings.{Namings}
use Rattle.ot_reasons.specs.declared.place.Field.TheVariants as field
use Rattle.ot_reasons.specs.declared.place.Place.{Place}
use Rattle.ot_reasons.specs.Places.{event_place, here, in_field, in_item}

abbrev pub is_named : Tag → Option Tag → Bool
is_named a None = false
is_named a (Some b) = same_tag a b

-- one place more, if there were fewer than two
abbrev pub with_second : Option Place → Place → Option Place
with_second None p = Some p
with_second (Some q) p = Some q

abbrev pub with_place : Place → Option Place → Option Place → Namings
with_place p None second = record { first = Some p; second = second }
with_place p (Some q) second = record { first = Some q; second = with_second second p }

abbrev pub note : Bool → Place → Namings → Namings
note here p found = if here then with_place p found.first found.second else found

-- what each item notes, in order, the first having this number
abbrev pub note_each : {A : Type 0} → (ℕ → Data → A → A) → ℕ → Items → A → A
note_each f k no_items found = found
note_each f k (item d ds) found = note_each f (k + 1) ds (f k d found)

abbrev pub note_tag : Tag → Place → ℕ → Data → Namings → Namings
note_tag a p k d found = note (is_named a (tag_of d)) (in_item p k) found

abbrev pub note_placed : Tag → Place → ℕ → Data → Namings → Namings
note_placed a p k d found = note (is_named a (option_map (λ (x : Placed). x.tag) (placed_of d))) (in_item p k) found

abbrev pub note_all : {A : Type 0} → (Items → A → A) → Option Items → A → A
note_all f None found = found
note_all f (Some ds) found = f ds found

abbrev pub note_event : Tag → ℕ → Data → Namings → Namings
note_event a k d found = note_all (note_each (note_placed a (in_field (event_place k) field.Insert)) 0) (items_or_none (get (codes "insert") d)) found

abbrev pub nowhere : Namings
nowhere = record { first = None; second = None }

abbrev pub in_start : Tag → Data → Namings
in_start a d = note_all (note_each (note_tag a (in_field here field.Start)) 0) (items_at (codes "start") d) nowhere

abbrev pub namings_of : Tag → Data → Namings
namings_of a d = note_all (note_each (note_event a) 0) (items_at (codes "events") d) (in_start a d)
