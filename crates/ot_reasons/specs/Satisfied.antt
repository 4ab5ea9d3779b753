-- Whether what stands at a place is what is wanted there.
use Rattle.std.specs.Prelude.{ℕ, ◌&&◌, ◌==◌, Bool, false, List, length, Option, Some, None, is_some, nat_le, nat_lt, option_and_then}
use Rattle.std.specs.Str.{chars}
use Rattle.serde_json.specs.Data.{Data, Items}
use Rattle.serde_json.specs.Find.{as_array, as_number, as_object, as_str, as_u64}
use Rattle.ot_isa.specs.declared.builder.TheConstants.{START_LIMIT}
use Rattle.ot_json.specs.Fields.{keep_if}
use Rattle.ot_judge.specs.Reading.{kind_from, number_at_most}
use Rattle.ot_plan.specs.Reading.{is_few, is_short, row_of}
use Rattle.ot_reasons.specs.declared.place.Wanted.{Wanted}
use Rattle.ot_reasons.specs.declared.place.Wanted.TheVariants as wanted
use Rattle.ot_reasons.specs.Faults.{count_items}

abbrev pub has_count : ℕ → Option Items → Bool
has_count n None = false
has_count n (Some ds) = count_items ds == n

-- an array of so many
abbrev pub is_array_of : ℕ → Data → Bool
is_array_of n d = has_count n (as_array d)

abbrev pub is_positive : ℕ → ℕ → Bool
is_positive most n = nat_lt 0 n && nat_le n most

abbrev pub is_start : List ℕ → Bool
is_start text = nat_le (length (chars text)) START_LIMIT

-- a value is what is wanted; of an array, its items are not looked at
abbrev pub satisfies : Wanted → Data → Bool
satisfies wanted.Object d = is_some (as_object d)
satisfies (wanted.Positive most) d = is_some (keep_if (is_positive most) (option_and_then as_u64 (as_number d)))
satisfies (wanted.Number most) d = is_some (number_at_most most d)
satisfies wanted.Array d = is_some (as_array d)
satisfies wanted.Tag d = is_array_of 2 d
satisfies wanted.Placed d = is_array_of 3 d
satisfies wanted.Kind d = is_some (option_and_then kind_from (as_str d))
satisfies (wanted.Counts replicas) d = is_array_of replicas d
satisfies wanted.Nothing d = is_array_of 0 d
satisfies wanted.Text d = is_some (as_str d)
satisfies wanted.StartText d = is_some (keep_if is_start (as_str d))
satisfies (wanted.Lists clients) d = is_array_of clients d
satisfies wanted.Insertions d = is_some (keep_if is_short (row_of d))
satisfies wanted.Actions d = is_some (keep_if is_few (row_of d))

-- something stands there, and it is what is wanted
abbrev pub is_met : Wanted → Option Data → Bool
is_met w None = false
is_met w (Some d) = satisfies w d
