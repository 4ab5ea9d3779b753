-- The words of a verdict: a line for each event that it names.
use Rattle.std.specs.Prelude.{ℕ, Bool, List, [], ◌++◌, ◌==◌, Option, Some, None, codes, decimal, length, slice_get, if◌then◌else◌}
use Rattle.ot_isa.specs.declared.elements.Tag.{Tag}
use Rattle.ot_judge.specs.declared.verdict.Verdict.{Verdict}
use Rattle.ot_judge.specs.declared.verdict.Verdict.TheVariants.{Holds, BadVisibility, Doubled, Missing, Extra, WrongPlace, Reversed}
use Rattle.ot_model.specs.declared.trace.Placed.{Placed}
use Rattle.ot_model.specs.Trace.{EventView, TraceView, contains, event_at}
use Rattle.ot_model.specs.Visibility.{edits_before, seen_of}
use Rattle.ot_report.specs.Verdicts.{tag_text}
use Rattle.ot_report.specs.declared.causes.Cause.{Cause}
use Rattle.ot_report.specs.declared.causes.Cause.TheVariants.{Own, Past, Lacks}
use Rattle.ot_report.specs.Causes.{cause_of}
use Rattle.ot_report.specs.Finds.{deleter, inserter, misplaced, place_of, second_place}

-- ---- events: `  event 4 is a read of replica 1`

abbrev pub kind_text : Bool → List ℕ
kind_text edit = if edit then codes "an edit" else codes "a read"

abbrev pub event_text : ℕ → EventView → List ℕ
event_text e x = codes "  event " ++ (decimal e ++ (codes " is " ++ (kind_text x.edit ++ (codes " of replica " ++ decimal x.replica))))

-- an event, and what is said of it
abbrev pub event_line : ℕ → EventView → List ℕ → List ℕ
event_line e x said = event_text e x ++ (codes "; " ++ (said ++ codes "\n"))

-- ---- what an event sees

-- `edits of replica 1 that stand before it: 2; that it sees: 3`
abbrev pub counts_text : ℕ → List ℕ → ℕ → ℕ → List ℕ
counts_text replica which wanted seen =
    codes "edits of replica " ++ (decimal replica ++ (which ++ (codes ": " ++ (decimal wanted ++ (codes "; that it sees: " ++ decimal seen)))))

-- why x has to see what y sees
abbrev pub link_text : EventView → EventView → List ℕ
link_text y x = if y.replica == x.replica then codes "an earlier event of replica " ++ decimal x.replica else codes "an edit that it sees"

abbrev pub seer_text : ℕ → EventView → EventView → List ℕ
seer_text d y x = codes " that event " ++ (decimal d ++ (codes ", " ++ (link_text y x ++ codes ", sees")))

-- the edits of x's own replica, x being the event at e
abbrev pub own_text : List EventView → ℕ → EventView → List ℕ
own_text events e x = counts_text x.replica (codes ", its own, that stand before it") (edits_before events e x.replica) (seen_of x x.replica)

abbrev pub cause_text : List EventView → ℕ → Option Cause → List ℕ
cause_text events e None = codes "it sees what it has to"
cause_text events e (Some Own) = own_text events e (event_at events e)
cause_text events e (Some (Past r)) = counts_text r (codes " that stand before it") (edits_before events e r) (seen_of (event_at events e) r)
cause_text events e (Some (Lacks d r)) =
    counts_text r (seer_text d (event_at events d) (event_at events e)) (seen_of (event_at events d) r) (seen_of (event_at events e) r)

abbrev pub bad_visibility_text : List EventView → ℕ → List ℕ
bad_visibility_text events e = event_line e (event_at events e) (cause_text events e (cause_of events e))

-- ---- what its list has: `0:0 at 3`, `no 0:0`

abbrev pub at_text : Tag → Option ℕ → List ℕ
at_text a None = codes "no " ++ tag_text a
at_text a (Some i) = tag_text a ++ (codes " at " ++ decimal i)

abbrev pub again_text : Option ℕ → List ℕ
again_text None = []
again_text (Some i) = codes " and at " ++ decimal i

abbrev pub doubled_text : ℕ → EventView → Tag → List ℕ
doubled_text e x a = event_line e x (codes "its list has " ++ (at_text a (place_of a x.list) ++ again_text (second_place a x.list)))

-- ---- who has inserted or deleted an element

abbrev pub inserter_text : Option ℕ → List ℕ
inserter_text None = codes ", which is not in the start and which no event that it knows inserted"
inserter_text (Some d) = codes ", which event " ++ (decimal d ++ codes " inserted")

abbrev pub origin_text : List Tag → List EventView → ℕ → Tag → List ℕ
origin_text start events e a = if contains start a then codes ", which the start has" else inserter_text (inserter events e a)

abbrev pub deleter_text : Option ℕ → List ℕ → List ℕ
deleter_text None otherwise = otherwise
deleter_text (Some d) otherwise = codes ", which event " ++ (decimal d ++ codes " deleted")

abbrev pub history_text : List Tag → List EventView → ℕ → Tag → List ℕ
history_text start events e a = origin_text start events e a ++ deleter_text (deleter events e a) (codes "; no event that it knows deleted it")

abbrev pub missing_text : List Tag → List EventView → ℕ → Tag → List ℕ
missing_text start events e a =
    event_line e (event_at events e) (codes "its list has " ++ (at_text a (place_of a (event_at events e).list) ++ history_text start events e a))

abbrev pub extra_text : List Tag → List EventView → ℕ → Tag → List ℕ
extra_text start events e a =
    event_line e (event_at events e) (codes "its list has " ++ (at_text a (place_of a (event_at events e).list) ++ deleter_text (deleter events e a) (origin_text start events e a)))

-- ---- where an inserted element stands

abbrev pub standing_text : List Tag → Option Tag → List ℕ
standing_text list None = codes "past the end of its list, whose length is " ++ decimal (length list)
standing_text list (Some b) = codes "where its list has " ++ tag_text b

-- an element that its list does not have was deleted
abbrev pub absent_text : Option ℕ → Option ℕ → List ℕ
absent_text None d = deleter_text d []
absent_text (Some i) d = []

abbrev pub placed_text : List EventView → ℕ → Placed → List ℕ
placed_text events e p =
    codes "it inserts " ++ (tag_text p.tag ++ (codes " at " ++ (decimal p.place ++ (codes ", " ++ (standing_text (event_at events e).list (slice_get (event_at events e).list p.place)
    ++ (codes "; its list has " ++ (at_text p.tag (place_of p.tag (event_at events e).list) ++ absent_text (place_of p.tag (event_at events e).list) (deleter events e p.tag))))))))

abbrev pub misplaced_text : List EventView → ℕ → Option Placed → List ℕ
misplaced_text events e None = codes "what it inserts stands at its place"
misplaced_text events e (Some p) = placed_text events e p

abbrev pub wrong_place_text : List EventView → ℕ → List ℕ
wrong_place_text events e = event_line e (event_at events e) (misplaced_text events e (misplaced (event_at events e)))

-- ---- two elements in both orders

abbrev pub order_text : ℕ → EventView → Tag → Tag → List ℕ
order_text e x a b = event_line e x (codes "its list has " ++ (at_text a (place_of a x.list) ++ (codes " and " ++ at_text b (place_of b x.list))))

abbrev pub order_at : List EventView → ℕ → Tag → Tag → List ℕ
order_at events e a b = order_text e (event_at events e) a b

abbrev pub reversed_text : List EventView → ℕ → ℕ → Tag → Tag → List ℕ
reversed_text events d e a b = order_at events d a b ++ order_at events e b a

-- ---- verdicts

abbrev pub holds_text : TraceView → List ℕ
holds_text t = codes "  events: " ++ (decimal (length t.events) ++ (codes "; replicas: " ++ (decimal t.replicas ++ codes "; no two lists order two elements differently\n")))

abbrev pub verdict_words : TraceView → Verdict → List ℕ
verdict_words t Holds = holds_text t
verdict_words t (BadVisibility e) = bad_visibility_text t.events e
verdict_words t (Doubled e a) = doubled_text e (event_at t.events e) a
verdict_words t (Missing e a) = missing_text t.start t.events e a
verdict_words t (Extra e a) = extra_text t.start t.events e a
verdict_words t (WrongPlace e a) = wrong_place_text t.events e
verdict_words t (Reversed d e a b) = reversed_text t.events d e a b
