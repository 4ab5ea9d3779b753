-- An event after the last one of its replica: what it sees and knows beyond that one, and what its list must hold.
use Rattle.std.specs.Prelude.{ℕ, Bool, true, false, List, [], Option, Some, None, ◌≡◌, ◌≢◌, ◌<◌, ◌≤◌, ◌+◌, ◌&&◌, ◌⊎◌, not, if◌then◌else◌, length, All}
use Rattle.std.specs.List.{Contains, flat_map}
use Rattle.ot_isa.specs.declared.elements.Tag.{Tag}
use Rattle.ot_model.specs.Trace.{EventView, contains, event_at, occurrences}
use Rattle.ot_model.specs.Visibility.{edits_before, is_edit_of, seen_of}
use Rattle.ot_model.specs.WeakList.{EventHolds, from_known, knows}

-- p is the last event of the replica before e
pub record IsLast (events : List EventView) (e replica p : ℕ) : Type 0 where
  pub before : p < e
  pub same : (event_at events p).replica ≡ replica
  pub last : (d : ℕ) → p < d → d < e → (event_at events d).replica ≢ replica

-- the last event of the replica before e, or that there is none
abbrev pub IsLastOf : List EventView → ℕ → ℕ → Option ℕ → Type 0
IsLastOf events e replica None = (d : ℕ) → d < e → (event_at events d).replica ≢ replica
IsLastOf events e replica (Some p) = IsLast events e replica p

-- d is the edit of the replica that n of its edits stand before
pub record IsEdit (events : List EventView) (replica n d : ℕ) : Type 0 where
  pub within : d < length events
  pub edit : is_edit_of replica (event_at events d) ≡ true
  pub number : edits_before events d replica ≡ n

-- the event at e sees no less than the one at d
abbrev pub SeesAsMuch : List EventView → ℕ → ℕ → Type 0
SeesAsMuch events e d = (r : ℕ) → seen_of (event_at events d) r ≤ seen_of (event_at events e) r

-- d is the last edit of the replica that the event at e counts, and e sees no less
pub record Backs (events : List EventView) (e replica d : ℕ) : Type 0 where
  pub before : d < e
  pub edit : is_edit_of replica (event_at events d) ≡ true
  pub number : edits_before events d replica + 1 ≡ seen_of (event_at events e) replica
  pub closed : SeesAsMuch events e d

-- the event at e counts no edit of the replica, or the last one backs it
abbrev pub IsBacked : List EventView → ℕ → ℕ → Type 0
IsBacked events e replica = (seen_of (event_at events e) replica ≡ 0) ⊎ ((d : ℕ) × Backs events e replica d)

-- what the last event knew; nothing where there is none
abbrev pub knew : List EventView → Option ℕ → ℕ → Bool
knew events None d = false
knew events (Some p) d = knows events p d

-- the event at e knows the one at d
pub record IsKnown (events : List EventView) (e d : ℕ) : Type 0 where
  pub within : d < length events
  pub known : knows events e d ≡ true

-- events that e knows: all but those that the last one knew
pub record AreNews (events : List EventView) (e : ℕ) (last : Option ℕ) (news : List ℕ) : Type 0 where
  pub known : All (IsKnown events e) news
  pub rest : (d : ℕ) → d < length events → knows events e d ≡ true → (knew events last d ≡ true) ⊎ Contains news d

-- the events appended are known to e, and they are all edits of the replica with numbers below n but for what the last one knew
pub record Adds (events : List EventView) (e : ℕ) (last : Option ℕ) (replica n : ℕ) (old new : List ℕ) : Type 0 where
  pub known : All (IsKnown events e) old → All (IsKnown events e) new
  pub kept : (d : ℕ) → Contains old d → Contains new d
  pub rest : (d : ℕ) → d < length events → is_edit_of replica (event_at events d) ≡ true → edits_before events d replica < n → (knew events last d ≡ true) ⊎ Contains new d

-- what these events give
abbrev pub given : List EventView → (EventView → List Tag) → List ℕ → List Tag
given events part news = flat_map (λ d. part (event_at events d)) news

-- what the events that the last one knew give
abbrev pub given_before : List EventView → (EventView → List Tag) → Option ℕ → List Tag
given_before events part None = []
given_before events part (Some p) = from_known events p part

-- the replica's list before the event
abbrev pub list_before : List Tag → List EventView → Option ℕ → List Tag
list_before start events None = start
list_before start events (Some p) = (event_at events p).list

-- whether a tag stands in a list, and at most once
pub record StandsOnce (list : List Tag) (q : Tag) (here : Bool) : Type 0 where
  pub same : here ≡ contains list q
  pub few : occurrences q list ≤ 1

-- a list holds each required tag once, and no other
abbrev pub HoldsExactly : List Tag → (Tag → Bool) → Type 0
HoldsExactly list wanted = (q : Tag) → occurrences q list ≡ (if wanted q then 1 else 0)

-- what is required was there, and the rest is left
pub record IsTaken (old new wanted : Tag → Bool) : Type 0 where
  pub left : (q : Tag) → new q ≡ (old q && not (wanted q))
  pub had : (q : Tag) → wanted q ≡ true → old q ≡ true

-- a read changes nothing
pub record ReadsOnly (x : EventView) : Type 0 where
  pub inserts : x.edit ≡ false → x.inserted ≡ []
  pub deletes : x.edit ≡ false → x.deleted ≡ []

-- each event before e holds
abbrev pub HoldBefore : List Tag → List EventView → ℕ → Type 0
HoldBefore start events e = (d : ℕ) → d < e → EventHolds start events d

-- the event at e holds if each before it does
abbrev pub HoldsAfter : List Tag → List EventView → ℕ → Type 0
HoldsAfter start events e = HoldBefore start events e → EventHolds start events e
