-- One operation and then another, as one.
use Rattle.std.specs.Prelude.{List, Option, Some}
use Rattle.std.specs.List.{filter_map, slice_get}
use Rattle.ot_operation.specs.Operation.{Item, Old, New, Operation}

-- what an item of a later image stands for in an earlier one
abbrev pub item_in : {A : Type 0} → List (Item A) → Item A → Option (Item A)
item_in earlier (Old j) = slice_get earlier j
item_in earlier (New x) = Some (New x)

-- first a, then b: each Old j of b's image is item j of a's
unfoldable pub compose : {A : Type 0} → Operation A → Operation A → Operation A
compose a b = record { base = a.base; image = filter_map (item_in a.image) b.image }
