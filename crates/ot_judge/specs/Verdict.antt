-- What the judge answers: the first fault of a trace, or that it has the weak list property.
use Rattle.std.specs.Prelude.{ℕ, List, ◌≡◌, ◌<◌, Some, None, length}
use Rattle.ot_isa.specs.declared.elements.Tag.{Tag}
use Rattle.ot_judge.specs.declared.verdict.Verdict.{Verdict}
use Rattle.ot_judge.specs.declared.verdict.Verdict.TheVariants.{Holds, BadVisibility, Doubled, Missing, Extra, WrongPlace, Reversed}
use Rattle.ot_model.specs.Trace.{EventView, TraceView, event_at}
use Rattle.ot_model.specs.Visibility.{SeesRightly}
use Rattle.ot_model.specs.WeakList.{EventHolds, IsReversed, WeakListProperty, lists, required}
use Rattle.ot_judge.specs.Contents.{first_doubled, first_outside, first_misplaced}

-- the first fault of one event
abbrev pub IsFault : List Tag → List EventView → ℕ → Verdict → Type 0
IsFault start events e (BadVisibility n) = (n ≡ e) × ¬ SeesRightly events e
IsFault start events e (Doubled n a) = (n ≡ e) × SeesRightly events e × (first_doubled (event_at events e).list ≡ Some a)
IsFault start events e (Missing n a) =
    (n ≡ e) × SeesRightly events e × (first_doubled (event_at events e).list ≡ None)
    × (first_outside (event_at events e).list (required start events e) ≡ Some a)
IsFault start events e (Extra n a) =
    (n ≡ e) × SeesRightly events e × (first_doubled (event_at events e).list ≡ None)
    × (first_outside (event_at events e).list (required start events e) ≡ None)
    × (first_outside (required start events e) (event_at events e).list ≡ Some a)
IsFault start events e (WrongPlace n a) =
    (n ≡ e) × SeesRightly events e × (first_doubled (event_at events e).list ≡ None)
    × (first_outside (event_at events e).list (required start events e) ≡ None)
    × (first_outside (required start events e) (event_at events e).list ≡ None)
    × (first_misplaced (event_at events e) ≡ Some a)
IsFault start events e _ = ⊥

-- the verdict is the first fault of the event at e, before which all events hold
pub record IsFirstFault (t : TraceView) (e : ℕ) (v : Verdict) : Type 0 where
  pub within : e < length t.events
  pub earlier : (d : ℕ) → d < e → EventHolds t.start t.events d
  pub fault : IsFault t.start t.events e v

-- the verdict of a trace: the first fault of the least event that has one, else a reversed pair, else that the property holds
abbrev pub IsVerdict : TraceView → Verdict → Type 0
IsVerdict t Holds = WeakListProperty t
IsVerdict t (BadVisibility e) = IsFirstFault t e (BadVisibility e)
IsVerdict t (Doubled e a) = IsFirstFault t e (Doubled e a)
IsVerdict t (Missing e a) = IsFirstFault t e (Missing e a)
IsVerdict t (Extra e a) = IsFirstFault t e (Extra e a)
IsVerdict t (WrongPlace e a) = IsFirstFault t e (WrongPlace e a)
IsVerdict t (Reversed d e a b) = ((k : ℕ) → k < length t.events → EventHolds t.start t.events k) × IsReversed (lists t.events) d e a b
