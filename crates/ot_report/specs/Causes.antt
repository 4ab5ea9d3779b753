-- Why an event does not see what it has to: the first cause, in the order of `SeesRightly`.
use Rattle.std.specs.Prelude.{⊤, ℕ, ◌<◌, Bool, List, Option, Some, None, ◌==◌, nat_lt, length, if◌then◌else◌}
use Rattle.ot_model.specs.Trace.{EventView, event_at}
use Rattle.ot_model.specs.Visibility.{edits_before, follows, seen_of}
use Rattle.ot_report.specs.declared.causes.Cause.{Cause}
use Rattle.ot_report.specs.declared.causes.Cause.TheVariants.{Own, Past, Lacks}
use Rattle.ot_report.specs.Searches.{first_below, number_if}

-- the event that the cause names stands before the one at e
abbrev pub NamesBefore : ℕ → Cause → Type 0
NamesBefore e (Lacks d r) = d < e
NamesBefore e cause = ⊤

-- whether the event sees exactly the edits of its own replica that stand before it
abbrev pub sees_own : List EventView → ℕ → Bool
sees_own events e = seen_of (event_at events e) (event_at events e).replica == edits_before events e (event_at events e).replica

-- the least replica of which the event sees more edits than stand before it
abbrev pub passed_at : List EventView → ℕ → ℕ → Option ℕ
passed_at events e r = number_if (nat_lt (edits_before events e r) (seen_of (event_at events e) r)) r

abbrev pub first_passed : List EventView → ℕ → Option ℕ
first_passed events e = first_below (length (event_at events e).seen) (passed_at events e)

-- the least replica of which y sees more edits than x
abbrev pub more_at : EventView → EventView → ℕ → Option ℕ
more_at y x r = number_if (nat_lt (seen_of x r) (seen_of y r)) r

abbrev pub first_lacked : EventView → EventView → Option ℕ
first_lacked y x = first_below (length y.seen) (more_at y x)

abbrev pub lacking : Bool → ℕ → Option ℕ → Option Cause
lacking follows d None = None
lacking follows d (Some r) = if follows then Some (Lacks d r) else None

-- what the event at e lacks of what the one at d sees, if it follows that one
abbrev pub lacked_at : List EventView → ℕ → ℕ → Option Cause
lacked_at events e d = lacking (follows events e d) d (first_lacked (event_at events d) (event_at events e))

abbrev pub past_or : Option ℕ → Option Cause → Option Cause
past_or None later = later
past_or (Some r) later = Some (Past r)

abbrev pub cause_of : List EventView → ℕ → Option Cause
cause_of events e = if sees_own events e then past_or (first_passed events e) (first_below e (lacked_at events e)) else Some Own
