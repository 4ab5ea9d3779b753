-- The first place of a value that keeps it from being a plan, and what is wanted there: first of what its shape lacks, then of its numbers, of lengths, and of
-- how many actions there are; each in the order in which the value is read.
use Rattle.std.specs.Prelude.{ℕ, ◌&&◌, length, Option, Some, None, Result, Ok, Err, codes, is_some, nat_le, nat_lt, option_and_then}
use Rattle.serde_json.specs.Data.{Data, Items}
use Rattle.serde_json.specs.Find.{as_array, as_object, get}
use Rattle.ot_json.specs.Fields.{items_at, number_at, number_or, text_or_empty}
use Rattle.ot_isa.specs.declared.builder.TheConstants.{CLIENT_LIMIT, START_LIMIT}
use Rattle.ot_operation.specs.declared.TheConstants.{LIMIT}
use Rattle.ot_plan.specs.Typing.{Action}
use Rattle.ot_plan.specs.Plan.{PlanView}
use Rattle.ot_plan.specs.Reading.{PlanData, action_of, are_clients, has_lists, is_few, is_short, plan_data, row_of}
use Rattle.ot_plan.specs.declared.fault.PlanFault.{PlanFault}
use Rattle.ot_plan.specs.declared.fault.PlanFault.TheVariants as plan
use Rattle.ot_reasons.specs.declared.place.Fault.{Fault}
use Rattle.ot_reasons.specs.declared.place.Field.TheVariants as field
use Rattle.ot_reasons.specs.declared.place.Place.{Place}
use Rattle.ot_reasons.specs.declared.place.Wanted.TheVariants as wanted
use Rattle.ot_reasons.specs.declared.plan_faults.PlanRefusal.{PlanRefusal}
use Rattle.ot_reasons.specs.Faults.{count_items, each_fault, of_array, or_else, unless, wants}
use Rattle.ot_reasons.specs.Places.{here, in_field, in_key, in_part, row_place}

-- ---- actions

abbrev pub action_keys : Place → Data → Option Fault
action_keys p d =
    or_else (unless (is_some (number_at (codes "at") d)) (in_key p field.At) (wanted.Number LIMIT))
    (or_else (unless (is_some (number_or 0 (get (codes "delete") d))) (in_key p field.Delete) (wanted.Number LIMIT))
    (unless (is_some (text_or_empty (get (codes "insert") d))) (in_key p field.Insert) wanted.Text))

abbrev pub action_shape : Place → Data → Option Fault
action_shape p d = or_else (unless (is_some (as_object d)) p wanted.Object) (action_keys p d)

abbrev pub action_numbers : Place → Action → Option Fault
action_numbers p a =
    or_else (unless (nat_le a.at LIMIT) (in_key p field.At) (wanted.Number LIMIT)) (unless (nat_le a.delete LIMIT) (in_key p field.Delete) (wanted.Number LIMIT))

-- the fault of this kind of a value as an action
abbrev pub action_fault : PlanFault → Place → Data → Option Fault
action_fault plan.BadShape p d = action_shape p d
action_fault plan.BadNumber p d = option_and_then (action_numbers p) (action_of d)
action_fault _ p d = None

abbrev pub actions_fault : PlanFault → Place → Items → Option Fault
actions_fault kind p ds = each_fault (λ i. action_fault kind (in_part p i)) 0 ds

-- ---- what a client's user types

-- the first fault of this kind of a value as the actions of a client
abbrev pub row_fault : PlanFault → Place → Data → Option Fault
row_fault plan.BadShape p d = of_array (wants p wanted.Array) (actions_fault plan.BadShape p) (as_array d)
row_fault plan.BadNumber p d = of_array None (actions_fault plan.BadNumber p) (as_array d)
row_fault plan.TooLong p d = option_and_then (λ actions. unless (is_short actions) p wanted.Insertions) (row_of d)
row_fault plan.TooMany p d = option_and_then (λ actions. unless (is_few actions) p wanted.Actions) (row_of d)
row_fault _ p d = None

abbrev pub rows_fault : PlanFault → Items → Option Fault
rows_fault kind ds = each_fault (λ i. row_fault kind (row_place i)) 0 ds

-- ---- the keys of a plan

abbrev pub other_keys : ℕ → Data → Option Fault
other_keys clients d =
    or_else (unless (is_some (number_at (codes "workers") d)) (in_field here field.Workers) (wanted.Positive 8))
    (or_else (unless (is_some (number_or clients (get (codes "present") d))) (in_field here field.Present) (wanted.Number clients))
    (or_else (unless (is_some (text_or_empty (get (codes "start") d))) (in_field here field.Start) wanted.StartText)
    (unless (is_some (items_at (codes "typing") d)) (in_field here field.Typing) wanted.Array)))

abbrev pub of_number : Option Fault → (ℕ → Option Fault) → Option ℕ → Option Fault
of_number missing inside None = missing
of_number missing inside (Some n) = inside n

abbrev pub plan_keys : Data → Option Fault
plan_keys d =
    of_number (wants (in_field here field.Clients) (wanted.Positive CLIENT_LIMIT)) (λ clients. other_keys clients d) (number_at (codes "clients") d)

abbrev pub plan_layout : Data → Option Fault
plan_layout d = or_else (unless (is_some (as_object d)) here wanted.Object) (plan_keys d)

-- ---- the first fault of each kind

-- the actions, and that there is one list of them for each client
abbrev pub shape_fault_in : PlanData → Option Fault
shape_fault_in x =
    or_else (rows_fault plan.BadShape x.typing) (unless (has_lists x.clients (count_items x.typing)) (in_field here field.Typing) (wanted.Lists x.clients))

-- the numbers that stand in a plan once each
abbrev pub own_numbers : PlanData → Option Fault
own_numbers x =
    or_else (unless (are_clients x.clients) (in_field here field.Clients) (wanted.Positive CLIENT_LIMIT))
    (or_else (unless (nat_lt 0 x.workers && nat_le x.workers 8) (in_field here field.Workers) (wanted.Positive 8))
    (unless (nat_le x.present x.clients) (in_field here field.Present) (wanted.Number x.clients)))

abbrev pub number_fault_in : PlanData → Option Fault
number_fault_in x = or_else (own_numbers x) (rows_fault plan.BadNumber x.typing)

-- the start text, and what each client inserts
abbrev pub length_fault_in : PlanData → Option Fault
length_fault_in x = or_else (unless (nat_le (length x.start) START_LIMIT) (in_field here field.Start) wanted.StartText) (rows_fault plan.TooLong x.typing)

-- ---- plans

abbrev pub refuses : PlanFault → Fault → Option PlanRefusal
refuses kind fault = Some (record { kind = kind; fault = fault })

-- the first of the faults of these kinds
abbrev pub first_kind : Option Fault → Option Fault → Option Fault → Option Fault → Option PlanRefusal
first_kind (Some f) number long many = refuses plan.BadShape f
first_kind None (Some f) long many = refuses plan.BadNumber f
first_kind None None (Some f) many = refuses plan.TooLong f
first_kind None None None (Some f) = refuses plan.TooMany f
first_kind None None None None = None

abbrev pub fault_of_data : PlanData → Option PlanRefusal
fault_of_data x = first_kind (shape_fault_in x) (number_fault_in x) (length_fault_in x) (rows_fault plan.TooMany x.typing)

abbrev pub of_plan : Option PlanRefusal → (PlanData → Option PlanRefusal) → Option PlanData → Option PlanRefusal
of_plan missing inside None = missing
of_plan missing inside (Some x) = inside x

-- the first fault of a value as a plan
abbrev pub plan_fault : Data → Option PlanRefusal
plan_fault d = of_plan (first_kind (plan_layout d) None None None) fault_of_data (plan_data d)

-- the kind of a refusal, if there is one, and the fault of an answer, if it is one
abbrev pub kind_in : Option PlanRefusal → Option PlanFault
kind_in None = None
kind_in (Some r) = Some r.kind

abbrev pub fault_in : Result PlanView PlanFault → Option PlanFault
fault_in (Ok p) = None
fault_in (Err e) = Some e
