-- The definition of reading never speaks of memory.
use Rattle.std.proofs.Common.{◌≡◌, ◌+◌, ℕ, Bool, true, false, Option, None, Some, Result, Ok, Err, if◌then◌else◌}
use Rattle.serde_json.specs.Data.{Data, null, boolean, number, string, array, object, Items, no_items, item}
use Rattle.ot_operation.specs.Operation.{Operation, empty}
use Rattle.ot_operation.specs.Run.{Run}
use Rattle.ot_json.specs.Reading.{run_of_data, with_run, with_component, is_too_long, and_then, built, operation_of_data, operation_of_json}
use Rattle.ot_json.specs.declared.fault.OpFault.{OpFault}
use Rattle.ot_json.specs.declared.fault.OpFault.TheVariants.{NotJson, NotArray, BadComponent, TooLong, Memory}

abbrev IsOther : {A : Type 0} → Result A OpFault → Type 0
IsOther (Ok x) = Unit {0}
IsOther (Err NotJson) = Unit {0}
IsOther (Err NotArray) = Unit {0}
IsOther (Err (BadComponent i)) = Unit {0}
IsOther (Err TooLong) = Unit {0}
IsOther (Err Memory) = ⊥

one_other : (i : ℕ) (op : Operation ℕ) (r : Option (Run ℕ)) → IsOther (with_component i op r)
one_other i op None = tt
one_other i op (Some r) = by (is_too_long (with_run op r))
  where
    by : (long : Bool) → IsOther (if long then Err TooLong else Ok (with_run op r))
    by true = tt
    by false = tt

then_other : (answer : Result (Operation ℕ) OpFault) (next : Operation ℕ → Result (Operation ℕ) OpFault) → IsOther answer → ((op : Operation ℕ) → IsOther (next op)) → IsOther (and_then answer next)
then_other (Ok op) next h g = g op
then_other (Err NotJson) next h g = tt
then_other (Err NotArray) next h g = tt
then_other (Err (BadComponent i)) next h g = tt
then_other (Err TooLong) next h g = tt
then_other (Err Memory) next h g = absurd h

all_other : (i : ℕ) (op : Operation ℕ) (ds : Items) → IsOther (built i op ds)
all_other i op no_items = tt
all_other i op (item d ds) = then_other (with_component i op (run_of_data d)) (λ next. built (i + 1) next ds) (one_other i op (run_of_data d)) (λ next. all_other (i + 1) next ds)

data_other : (d : Data) → IsOther (operation_of_data d)
data_other null = tt
data_other (boolean b) = tt
data_other (number n) = tt
data_other (string s) = tt
data_other (array ds) = all_other 0 empty ds
data_other (object ms) = tt

json_other : (d : Option Data) → IsOther (operation_of_json d)
json_other None = tt
json_other (Some d) = data_other d

-- out of memory is no fault of a text
pub never_memory : (d : Option Data) → operation_of_json d ≡ Err Memory → ⊥
never_memory d e = by (operation_of_json d) e (json_other d)
  where
    by : (r : Result (Operation ℕ) OpFault) → r ≡ Err Memory → IsOther r → ⊥
    by (Ok x) e h = cc
    by (Err NotJson) e h = cc
    by (Err NotArray) e h = cc
    by (Err (BadComponent i)) e h = cc
    by (Err TooLong) e h = cc
    by (Err Memory) e h = h
