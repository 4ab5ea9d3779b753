-- What operation a JSON text is: an array of components, which the builder takes from left to right.
use Rattle.std.specs.Prelude.{ℕ, zero, suc, ◌+◌, pos, negsuc, Bool, Option, Some, None, Result, Ok, Err, List, length, max, nat_lt, if◌then◌else◌}
use Rattle.std.specs.Str.{chars}
use Rattle.serde_json.specs.Data.{Num, unsigned, negative, float, Data, null, boolean, number, string, array, object, Items, no_items, item}
use Rattle.serde_json.specs.Read.{read}
use Rattle.ot_operation.specs.Operation.{Operation, empty, with_retain, with_insert, with_delete}
use Rattle.ot_operation.specs.Run.{Run, Keep, Add, Skip}
use Rattle.ot_json.specs.declared.fault.OpFault.{OpFault}
use Rattle.ot_json.specs.declared.fault.OpFault.TheVariants.{NotJson, NotArray, BadComponent, TooLong}
use Rattle.ot_operation.specs.declared.TheConstants.{LIMIT}

-- the component that a number is: above 0 a retain, below 0 a delete
abbrev pub run_of_number : Num → Option (Run ℕ)
run_of_number (unsigned zero) = None
run_of_number (unsigned (suc n)) = Some (Keep (suc n))
run_of_number (negative (pos n)) = None
run_of_number (negative (negsuc n)) = Some (Skip (suc n))
run_of_number (float x) = None

-- the component that a JSON value is, if it is one; a string is an insert
abbrev pub run_of_data : Data → Option (Run ℕ)
run_of_data null = None
run_of_data (boolean b) = None
run_of_data (number n) = run_of_number n
run_of_data (string s) = Some (Add (chars s))
run_of_data (array ds) = None
run_of_data (object ms) = None

-- the builder's call for a component
abbrev pub with_run : Operation ℕ → Run ℕ → Operation ℕ
with_run op (Keep n) = with_retain op n
with_run op (Add s) = with_insert op s
with_run op (Skip n) = with_delete op n

-- the base or the image passes the limit of 1,000,000
abbrev pub is_too_long : Operation ℕ → Bool
is_too_long op = nat_lt LIMIT (max op.base (length op.image))

-- the operation with component `i` added
abbrev pub with_component : ℕ → Operation ℕ → Option (Run ℕ) → Result (Operation ℕ) OpFault
with_component i op None = Err (BadComponent i)
with_component i op (Some r) = if is_too_long (with_run op r) then Err TooLong else Ok (with_run op r)

-- go on with what was given, or keep the fault
abbrev pub and_then : {A B E : Type 0} → Result A E → (A → Result B E) → Result B E
and_then (Ok x) f = f x
and_then (Err e) f = Err e

-- the operation with the components from `i` on added, or the first fault
abbrev pub built : ℕ → Operation ℕ → Items → Result (Operation ℕ) OpFault
built i op no_items = Ok op
built i op (item d ds) = and_then (with_component i op (run_of_data d)) (λ next. built (i + 1) next ds)

abbrev pub operation_of_data : Data → Result (Operation ℕ) OpFault
operation_of_data null = Err NotArray
operation_of_data (boolean b) = Err NotArray
operation_of_data (number n) = Err NotArray
operation_of_data (string s) = Err NotArray
operation_of_data (array ds) = built 0 empty ds
operation_of_data (object ms) = Err NotArray

abbrev pub operation_of_json : Option Data → Result (Operation ℕ) OpFault
operation_of_json None = Err NotJson
operation_of_json (Some d) = operation_of_data d

-- the operation that a text is, or its fault
abbrev pub operation_of_text : List ℕ → Result (Operation ℕ) OpFault
operation_of_text text = operation_of_json (read text)
