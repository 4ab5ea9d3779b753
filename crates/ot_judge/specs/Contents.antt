-- What is wrong with a list: the first tags that stand twice, are of another list alone, or stand elsewhere.
use Rattle.std.specs.Prelude.{Bool, List, Option, not, nat_lt, find, slice_get, false}
use Rattle.std.specs.Option.{option_map, option_map_or}
use Rattle.ot_isa.specs.declared.elements.Tag.{Tag}
use Rattle.ot_model.specs.declared.trace.Placed.{Placed}
use Rattle.ot_model.specs.Trace.{EventView, contains, occurrences, same_tag}

-- the first tag that stands in a list twice
abbrev pub first_doubled : List Tag → Option Tag
first_doubled list = find (λ a. nat_lt 1 (occurrences a list)) list

-- the first of these tags that is not among those
abbrev pub first_outside : List Tag → List Tag → Option Tag
first_outside those these = find (λ a. not (contains those a)) these

abbrev pub stands_at_place : List Tag → Placed → Bool
stands_at_place list p = option_map_or (same_tag p.tag) (slice_get list p.place) false

-- the first inserted element that does not stand at its place
abbrev pub first_misplaced : EventView → Option Tag
first_misplaced x = option_map (λ (p : Placed). p.tag) (find (λ p. not (stands_at_place x.list p)) x.inserted)
