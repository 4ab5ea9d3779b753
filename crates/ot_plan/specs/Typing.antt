-- What a user types, and the edit that it is.
use Rattle.std.specs.Prelude.{ℕ, ◌-◌, List, length, map, min, sum_by, Vec, vec_items}
use Rattle.std.specs.declared.alloc.Global.{Global}
use Rattle.ot_operation.specs.Operation.{Operation, empty, with_retain, with_insert, with_delete}
use Rattle.ot_plan.specs.declared.typing.Typing.{Typing}

-- an action: a place, how many elements are deleted from there on, and what is inserted
pub record Action : Type 0 where
  pub at : ℕ
  pub delete : ℕ
  pub insert : List ℕ

abbrev pub action_view : Typing → Action
action_view t = record { at = t.at; delete = t.delete; insert = t.insert.items }

-- where it happens in a list of so many elements, and how many of them are deleted
abbrev pub place_in : Action → ℕ → ℕ
place_in a length = min a.at length

abbrev pub gone_in : Action → ℕ → ℕ
gone_in a length = min a.delete (length - place_in a length)

-- the edit on a list of so many elements: retain up to the place, insert, delete, retain the rest
abbrev pub edit_of : Action → ℕ → Operation ℕ
edit_of a length =
    with_retain (with_delete (with_insert (with_retain empty (place_in a length)) a.insert) (gone_in a length))
    (length - place_in a length - gone_in a length)

-- how many elements a user's actions insert together
abbrev pub inserted : List Action → ℕ
inserted actions = sum_by (λ (a : Action). length a.insert) actions

-- the code's lists of actions: one user's, and each user's
abbrev pub row_view : Vec Typing Global → List Action
row_view row = map action_view (vec_items row)

abbrev pub typing_view : List (Vec Typing Global) → List (List Action)
typing_view rows = map row_view rows
