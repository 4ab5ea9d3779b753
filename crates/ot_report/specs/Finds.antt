-- Where elements stand, and which events insert and delete them.
use Rattle.std.specs.Prelude.{ℕ, Bool, List, Option, Some, None, ◌+◌, ◌&&◌, not, drop, find, length}
use Rattle.std.specs.List.{list_any, position}
use Rattle.std.specs.Option.{option_map}
use Rattle.ot_isa.specs.declared.elements.Tag.{Tag}
use Rattle.ot_judge.specs.Contents.{stands_at_place}
use Rattle.ot_model.specs.declared.trace.Placed.{Placed}
use Rattle.ot_model.specs.Trace.{EventView, contains, event_at, same_tag}
use Rattle.ot_model.specs.WeakList.{knows}
use Rattle.ot_report.specs.Searches.{first_below, number_if}

-- the first place of a tag in a list, and the first one behind that
abbrev pub place_of : Tag → List Tag → Option ℕ
place_of a list = position (same_tag a) list

abbrev pub place_behind : Tag → List Tag → Option ℕ → Option ℕ
place_behind a list None = None
place_behind a list (Some i) = option_map (λ k. k + (i + 1)) (place_of a (drop (i + 1) list))

abbrev pub second_place : Tag → List Tag → Option ℕ
second_place a list = place_behind a list (place_of a list)

-- the first event that the one at e knows and that inserts the tag
abbrev pub inserts : Tag → EventView → Bool
inserts a x = list_any (λ (p : Placed). same_tag a p.tag) x.inserted

abbrev pub inserter_at : List EventView → ℕ → Tag → ℕ → Option ℕ
inserter_at events e a d = number_if (inserts a (event_at events d) && knows events e d) d

abbrev pub inserter : List EventView → ℕ → Tag → Option ℕ
inserter events e a = first_below (length events) (inserter_at events e a)

-- the first event that the one at e knows and that deletes the tag
abbrev pub deleter_at : List EventView → ℕ → Tag → ℕ → Option ℕ
deleter_at events e a d = number_if (contains (event_at events d).deleted a && knows events e d) d

abbrev pub deleter : List EventView → ℕ → Tag → Option ℕ
deleter events e a = first_below (length events) (deleter_at events e a)

-- the first inserted element that does not stand at its place
abbrev pub misplaced : EventView → Option Placed
misplaced x = find (λ p. not (stands_at_place x.list p)) x.inserted
