-- From parts to a trace: what is refused, and why.
use Rattle.std.specs.Prelude.{ℕ, Bool, false, true, List, [], ◌∷◌, ◌++◌, ◌≡◌, ◌==◌, ◌&&◌, ◌||◌, Option, Some, None, Result, Ok, Err, nat_lt, length, sum_by, if◌then◌else◌}
use Rattle.std.specs.List.{flat_map, list_all}
use Rattle.ot_isa.specs.declared.elements.Tag.{Tag}
use Rattle.ot_judge.specs.declared.fault.TraceFault.{TraceFault}
use Rattle.ot_judge.specs.declared.fault.TraceFault.TheVariants.{BadShape, TraceFull, TagTwice}
use Rattle.ot_model.specs.Trace.{contains, EventView, TraceView, inserted_tags}

-- whether an event fits the number of replicas, and changes nothing if it is a read
abbrev pub is_event : ℕ → EventView → Bool
is_event replicas x =
    nat_lt x.replica replicas && (length x.seen == replicas)
    && (x.edit || ((length x.inserted == 0) && (length x.deleted == 0)))

-- whether there are 1 to 65 replicas and each event fits
abbrev pub has_shape : TraceView → Bool
has_shape t = nat_lt 0 t.replicas && nat_lt t.replicas 66 && list_all (is_event t.replicas) t.events

-- how many tags stand in the lists of the events
abbrev pub entries : List EventView → ℕ
entries events = sum_by (λ (x : EventView). length x.list) events

-- whether the trace passes the limits
abbrev pub is_full : TraceView → Bool
is_full t = nat_lt 4000 (length t.events) || nat_lt 4000000 (entries t.events)

-- the start's tags and then those that the events insert, by event
abbrev pub named_tags : TraceView → List Tag
named_tags t = t.start ++ flat_map inserted_tags t.events

-- the first of the tags that is among those before it
abbrev pub first_again : List Tag → List Tag → Option Tag
first_again before [] = None
first_again before (a ∷ tags) = if contains before a then Some a else first_again (before ++ a ∷ []) tags

abbrev pub named_again : TraceView → Option Tag
named_again t = first_again [] (named_tags t)

abbrev pub unless_again : TraceView → Option Tag → Result TraceView TraceFault
unless_again t None = Ok t
unless_again t (Some a) = Err (TagTwice a)

-- the trace that the parts are, or the first reason why they are none
abbrev pub trace_from : TraceView → Result TraceView TraceFault
trace_from t = if has_shape t then (if is_full t then Err TraceFull else unless_again t (named_again t)) else Err BadShape

-- parts that fit together and keep within the limits
pub record IsSized (t : TraceView) : Type 0 where
  pub shape : has_shape t ≡ true
  pub room : is_full t ≡ false
