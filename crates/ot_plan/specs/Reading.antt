-- What plan a JSON text is, or its first fault.
use Rattle.std.specs.Prelude.{ℕ, Bool, List, length, Option, Some, None, Result, Ok, Err, codes, not, ◌&&◌, ◌||◌, ◌==◌, nat_le, nat_lt, if◌then◌else◌, option_map, option_and_then}
use Rattle.std.specs.List.{list_all}
use Rattle.std.specs.Str.{is_utf8}
use Rattle.serde_json.specs.Data.{Data, Items}
use Rattle.serde_json.specs.Find.{get, as_array}
use Rattle.serde_json.specs.Read.{read}
use Rattle.ot_json.specs.Fields.{all_of, items_at, number_at, number_or, text_or_empty}
use Rattle.ot_plan.specs.Typing.{Action, inserted}
use Rattle.ot_plan.specs.declared.fault.PlanFault.{PlanFault}
use Rattle.ot_plan.specs.declared.fault.PlanFault.TheVariants.{NotJson, BadShape, BadNumber, TooLong, TooMany}
use Rattle.ot_plan.specs.Plan.{PlanView}
use Rattle.ot_isa.specs.declared.builder.TheConstants.{CLIENT_LIMIT, START_LIMIT}
use Rattle.ot_isa.specs.declared.tagging.TheConstants.{INSERTED_LIMIT}
use Rattle.ot_operation.specs.declared.TheConstants.{LIMIT}

-- ---- the shape, with numbers of any size

-- an action is an object with `at`; `delete` may be missing, and is then 0, and `insert`, which is then empty
abbrev pub action_of : Data → Option Action
action_of d =
    option_and_then (λ at.
    option_and_then (λ delete.
    option_map (λ insert. record { at = at; delete = delete; insert = insert })
    (text_or_empty (get (codes "insert") d)))
    (number_or 0 (get (codes "delete") d)))
    (number_at (codes "at") d)

-- what a client's user types is an array of actions
abbrev pub row_of : Data → Option (List Action)
row_of d = option_and_then (all_of action_of) (as_array d)

-- the fields of a plan, with the items of `typing` as they are
pub record PlanData : Type 0 where
  pub clients : ℕ
  pub workers : ℕ
  pub present : ℕ
  pub start : List ℕ
  pub typing : Items

-- all clients are present where `present` is missing
abbrev pub plan_data : Data → Option PlanData
plan_data d =
    option_and_then (λ clients.
    option_and_then (λ workers.
    option_and_then (λ present.
    option_and_then (λ start.
    option_map (λ typing. record { clients = clients; workers = workers; present = present; start = start; typing = typing })
    (items_at (codes "typing") d))
    (text_or_empty (get (codes "start") d)))
    (number_or clients (get (codes "present") d)))
    (number_at (codes "workers") d))
    (number_at (codes "clients") d)

abbrev pub with_typing : PlanData → List (List Action) → PlanView
with_typing x typing = record { clients = x.clients; workers = x.workers; present = x.present; start = x.start; typing = typing }

abbrev pub shape_from : PlanData → Option PlanView
shape_from x = option_map (with_typing x) (all_of row_of x.typing)

abbrev pub shape_of : Data → Option PlanView
shape_of d = option_and_then shape_from (plan_data d)

-- ---- the limits

abbrev pub are_clients : ℕ → Bool
are_clients n = nat_lt 0 n && nat_le n CLIENT_LIMIT

-- there is one list of actions for each client; where the number of clients is itself out of range, that is the fault
abbrev pub has_lists : ℕ → ℕ → Bool
has_lists clients lists = not (are_clients clients) || (lists == clients)

-- the numbers that stand in a plan once each
abbrev pub has_numbers : ℕ → ℕ → ℕ → Bool
has_numbers clients workers present = are_clients clients && nat_lt 0 workers && nat_le workers 8 && nat_le present clients

abbrev pub is_action : Action → Bool
is_action a = nat_le a.at LIMIT && nat_le a.delete LIMIT

abbrev pub is_short : List Action → Bool
is_short actions = nat_le (inserted actions) INSERTED_LIMIT

abbrev pub is_few : List Action → Bool
is_few actions = nat_le (length actions) 1000

abbrev pub is_in_range : PlanView → Bool
is_in_range p = has_numbers p.clients p.workers p.present && list_all (list_all is_action) p.typing

-- the start text, and each client's insertions together
abbrev pub fits : PlanView → Bool
fits p = nat_le (length p.start) START_LIMIT && list_all is_short p.typing

-- the first fault of a plan of right shape: of the number of lists, of the numbers' ranges, of lengths, of the number of actions
abbrev pub first_fault : Bool → Bool → Bool → Bool → Option PlanFault
first_fault lists range short few =
    if not lists then Some BadShape
    else if not range then Some BadNumber
    else if not short then Some TooLong
    else if not few then Some TooMany
    else None

abbrev pub fault_of : PlanView → Option PlanFault
fault_of p = first_fault (has_lists p.clients (length p.typing)) (is_in_range p) (fits p) (list_all is_few p.typing)

abbrev pub unless_fault : PlanView → Option PlanFault → Result PlanView PlanFault
unless_fault p None = Ok p
unless_fault p (Some e) = Err e

-- the plan of this shape, or its first fault
abbrev pub plan_from : PlanView → Result PlanView PlanFault
plan_from p = unless_fault p (fault_of p)

abbrev pub plan_of_shape : Option PlanView → Result PlanView PlanFault
plan_of_shape None = Err BadShape
plan_of_shape (Some p) = plan_from p

abbrev pub plan_of_json : Option Data → Result PlanView PlanFault
plan_of_json None = Err NotJson
plan_of_json (Some d) = plan_of_shape (shape_of d)

-- the plan that a text is, or its fault
abbrev pub plan_of_text : List ℕ → Result PlanView PlanFault
plan_of_text text = plan_of_json (read text)

-- the plan that bytes are, or why they are none; bytes that are no text are no JSON
abbrev pub plan_of_bytes : List ℕ → Result PlanView PlanFault
plan_of_bytes bytes = if is_utf8 bytes then plan_of_text bytes else Err NotJson
