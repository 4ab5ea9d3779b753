-- The words for a fault of a value, and for why a value is no trace.
use Rattle.std.specs.Prelude.{◌≡◌, ◌⊎◌, ℕ, List, [], ◌++◌, length, nat_lt, Option, Some, None, false, codes, decimal, if◌then◌else◌}
use Rattle.serde_json.specs.Data.{Data, Items, null, boolean, number, string, array, object}
use Rattle.serde_json.specs.Read.{read}
use Rattle.serde_json.specs.Written.{compact_text, has_float, IsInOrder}
use Rattle.ot_isa.specs.declared.elements.Tag.{Tag}
use Rattle.ot_judge.specs.declared.fault.TraceFault.{TraceFault}
use Rattle.ot_judge.specs.declared.fault.TraceFault.TheVariants as kind
use Rattle.ot_json.specs.Fields.{items_at}
use Rattle.ot_reasons.specs.declared.namings.Namings.{Namings}
use Rattle.ot_reasons.specs.declared.place.Fault.{Fault}
use Rattle.ot_reasons.specs.declared.place.Field.{Field}
use Rattle.ot_reasons.specs.declared.place.Place.{Place}
use Rattle.ot_reasons.specs.declared.place.Wanted.{Wanted}
use Rattle.ot_reasons.specs.declared.place.Wanted.TheVariants as wanted
use Rattle.ot_reasons.specs.Faults.{count_items, trace_fault}
use Rattle.ot_reasons.specs.Namings.{namings_of}
use Rattle.ot_reasons.specs.Places.{found_at, key_of}

-- origin:serial
abbrev pub tag_text : Tag → List ℕ
tag_text a = decimal a.origin ++ (codes ":" ++ decimal a.serial)

-- ---- places: `event 3, insert[2][1]`, `typing[1][3], insert`

abbrev pub index_text : Option ℕ → List ℕ
index_text None = []
index_text (Some k) = codes "[" ++ (decimal k ++ codes "]")

abbrev pub key_text : Option Field → List ℕ
key_text None = []
key_text (Some f) = codes ", " ++ key_of f

-- a key, with what the path goes into under it
abbrev pub field_text : Field → Place → List ℕ
field_text f p = key_of f ++ (index_text p.item ++ (index_text p.part ++ key_text p.key))

abbrev pub path_text : List ℕ → Option ℕ → Option Field → Place → List ℕ
path_text whole None None p = whole
path_text whole None (Some f) p = field_text f p
path_text whole (Some event) None p = codes "event " ++ decimal event
path_text whole (Some event) (Some f) p = codes "event " ++ (decimal event ++ (codes ", " ++ field_text f p))

-- `whole` is what the whole value is called
abbrev pub place_text : List ℕ → Place → List ℕ
place_text whole p = path_text whole p.event p.field p

abbrev pub trace_place : Place → List ℕ
trace_place p = place_text (codes "the trace") p

-- ---- what is wanted, and what stands there

abbrev pub wanted_text : Wanted → List ℕ
wanted_text wanted.Object = codes "an object"
wanted_text (wanted.Positive most) = codes "a number from 1 to " ++ decimal most
wanted_text (wanted.Number most) = codes "a number from 0 to " ++ decimal most
wanted_text wanted.Array = codes "an array"
wanted_text wanted.Tag = codes "an array [origin, serial]"
wanted_text wanted.Placed = codes "an array [origin, serial, place]"
wanted_text wanted.Kind = codes "\"edit\" or \"read\""
wanted_text (wanted.Counts replicas) = codes "an array of " ++ (decimal replicas ++ codes ", a count for each replica")
wanted_text wanted.Nothing = codes "nothing, since a read inserts and deletes nothing"
wanted_text wanted.Text = codes "a text"
wanted_text wanted.StartText = codes "a text of at most 40000 characters"
wanted_text (wanted.Lists clients) = codes "an array of " ++ (decimal clients ++ codes ", a list of actions for each client")
wanted_text wanted.Insertions = codes "actions that insert at most 15000 characters together"
wanted_text wanted.Actions = codes "at most 1000 actions"

-- compact JSON; which digits a float has is not said
abbrev pub IsJson : Data → List ℕ → Type 0
IsJson d text = IsInOrder text d × (has_float d ≡ false → text ≡ compact_text d)

-- what a value whose JSON is long is called
abbrev pub size_text : Data → List ℕ → List ℕ
size_text null json = json
size_text (boolean b) json = json
size_text (number n) json = json
size_text (string s) json = codes "a text of " ++ (decimal (length s) ++ codes " bytes")
size_text (array ds) json = codes "an array of " ++ decimal (count_items ds)
size_text (object ms) json = codes "an object"

-- JSON of at most 60 bytes is shown whole
abbrev pub short_text : Data → List ℕ → List ℕ
short_text d json = if nat_lt 60 (length json) then size_text d json else json

abbrev pub IsFoundText : Option Data → List ℕ → Type 0
IsFoundText None text = text ≡ codes "nothing"
IsFoundText (Some d) text = (json : List ℕ) × IsJson d json × (text ≡ short_text d json)

-- ---- faults

abbrev pub fault_text : List ℕ → Fault → List ℕ → List ℕ
fault_text whole f found = codes "  " ++ (place_text whole f.place ++ (codes ": found " ++ (found ++ (codes "; wanted " ++ (wanted_text f.wanted ++ codes "\n")))))

-- the line of a fault of a value's shape
abbrev pub IsFaultText : List ℕ → Data → Fault → List ℕ → Type 0
IsFaultText whole d f text = (found : List ℕ) × IsFoundText (found_at f.place d) found × (text ≡ fault_text whole f found)

-- too many events, or too many tags in their lists
abbrev pub event_count : Option Items → ℕ
event_count None = 0
event_count (Some ds) = count_items ds

abbrev pub full_text : ℕ → List ℕ
full_text n =
    if nat_lt 4000 n then codes "  events: found an array of " ++ (decimal n ++ codes "; wanted at most 4000 events\n")
    else codes "  the lists of all events together: found more than 4000000 tags; wanted at most 4000000\n"

abbrev pub twice_text : Tag → Option Place → Option Place → List ℕ
twice_text a None second = []
twice_text a (Some p) None = []
twice_text a (Some p) (Some q) =
    codes "  the tag " ++ (tag_text a ++ (codes " stands at " ++ (trace_place p ++ (codes " and at " ++ (trace_place q ++ codes "; the start and the insertions name each tag once\n")))))

abbrev pub namings_text : Tag → Namings → List ℕ
namings_text a n = twice_text a n.first n.second

-- the words for a value that is refused with this fault
abbrev pub IsValueReason : Data → TraceFault → List ℕ → Type 0
IsValueReason d kind.NotJson text = text ≡ []
IsValueReason d kind.BadShape text = (f : Fault) × (trace_fault d ≡ Some f) × IsFaultText (codes "the trace") d f text
IsValueReason d kind.TraceFull text = text ≡ full_text (event_count (items_at (codes "events") d))
IsValueReason d (kind.TagTwice a) text = text ≡ namings_text a (namings_of a d)
IsValueReason d kind.Memory text = text ≡ []

-- the words for a text that is refused with this fault; of a text that is no JSON nothing is said of them
abbrev pub IsReason : List ℕ → TraceFault → List ℕ → Type 0
IsReason text fault words = (read text ≡ None) ⊎ ((d : Data) × (read text ≡ Some d) × IsValueReason d fault words)
