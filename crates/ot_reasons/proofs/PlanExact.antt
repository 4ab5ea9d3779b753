-- A value has a first fault as a plan exactly where no plan is read from it, and of the kind of the reading's fault.
use Rattle.std.proofs.Common.{◌≡◌, ℕ, ◌+◌, ◌-◌, ◌^◌, ◌≤◌, ◌*◌, List, [], ◌∷◌, length, min, ap, sym, ◌∙◌, refl, arith, Bool, true, false, ◌&&◌}
use Rattle.std.specs.Prelude.{Option, Some, None, Err, is_some, is_none, option_map, option_and_then, nat_le, nat_lt, codes, All}
use Rattle.std.specs.List.{list_all}
use Rattle.std.proofs.lemmas.Bool.{both_ways}
use Rattle.std.proofs.lemmas.List.Elements.{All-head, All-tail}
use Rattle.std.proofs.lemmas.List.Sums.{sum_by-cons}
use Rattle.serde_json.specs.Data.{Data, Items, no_items, item, null, boolean, number, string, array, object}
use Rattle.serde_json.specs.Find.{as_array, get}
use Rattle.ot_json.specs.Fields.{all_of, items_at, number_at, number_or, text_or_empty}
use Rattle.ot_json.proofs.Lists.{map-some, some-same, then-some}
use Rattle.ot_isa.specs.declared.builder.TheConstants.{CLIENT_LIMIT, START_LIMIT}
use Rattle.ot_operation.specs.declared.TheConstants.{LIMIT}
use Rattle.ot_plan.specs.Typing.{Action}
use Rattle.ot_plan.specs.Plan.{AreActions, IsPlan, PlanView}
use Rattle.ot_plan.specs.Layout.{row_survey}
use Rattle.ot_plan.specs.Reading.{PlanData, action_of, are_clients, first_fault, fits, has_lists, has_numbers, is_action, is_few, is_in_range, is_short, plan_data, plan_of_shape, row_of, shape_from, shape_of, unless_fault, with_typing}
use Rattle.ot_plan.specs.declared.fault.PlanFault.{PlanFault}
use Rattle.ot_plan.specs.declared.fault.PlanFault.TheVariants as plan
use Rattle.ot_plan.specs.declared.survey.Survey.{Survey}
use Rattle.ot_reasons.specs.declared.place.Fault.{Fault}
use Rattle.ot_reasons.specs.declared.place.Field.TheVariants as field
use Rattle.ot_reasons.specs.declared.place.Place.{Place}
use Rattle.ot_reasons.specs.declared.place.Wanted.TheVariants as wanted
use Rattle.ot_reasons.specs.declared.plan_faults.PlanRefusal.{PlanRefusal}
use Rattle.ot_reasons.specs.Places.{here, in_field, in_key, in_part, row_place}
use Rattle.ot_reasons.specs.Faults.{count_items, each_fault, of_array, or_else, unless, wants}
use Rattle.ot_reasons.specs.PlanFaults.{action_fault, action_numbers, action_shape, actions_fault, fault_in, fault_of_data, first_kind, kind_in, length_fault_in, number_fault_in, of_number, of_plan, own_numbers, plan_fault, plan_layout, row_fault, rows_fault, shape_fault_in}
use Rattle.ot_reasons.specs.PlanWords.{action_count}
use Rattle.ot_reasons.proofs.Exact.{all-one, free-two, free-unless}

-- ---- items

each-free : {A : Type 0} (f : ℕ → Data → Option Fault) (g : Data → Option A) (k : ℕ) (ds : Items) → ((i : ℕ) (d : Data) → is_none (f i d) ≡ is_some (g d)) → is_none (each_fault f k ds) ≡ is_some (all_of g ds)
each-free f g k no_items each = refl
each-free f g k (item d ds) each =
    free-two (f k d) (each_fault f (k + 1) ds) (is_some (g d)) (is_some (all_of g ds)) (each k d) (each-free f g (k + 1) ds each)
    ∙ sym (all-one (g d) (all_of g ds))

-- items that each are something, and a test of what they are
each-held : {A : Type 0} (f : ℕ → Data → Option Fault) (g : Data → Option A) (p : A → Bool) (k : ℕ) (ds : Items) (xs : List A)
    → ((i : ℕ) (d : Data) (x : A) → g d ≡ Some x → is_none (f i d) ≡ p x) → all_of g ds ≡ Some xs → is_none (each_fault f k ds) ≡ list_all p xs
each-held f g p k no_items xs each h = ap (list_all p) (some-same [] xs h)
each-held f g p k (item d ds) xs each h =
    let first = then-some (λ x. option_map (λ ys. x ∷ ys) (all_of g ds)) (g d) xs h in
    let rest = map-some (λ ys. first.0 ∷ ys) (all_of g ds) xs first.2 in
    free-two (f k d) (each_fault f (k + 1) ds) (p first.0) (list_all p rest.0) (each k d first.0 first.1) (each-held f g p (k + 1) ds rest.0 each rest.1)
    ∙ ap (list_all p) rest.2

all-length : {A : Type 0} (f : Data → Option A) (ds : Items) (xs : List A) → all_of f ds ≡ Some xs → count_items ds ≡ length xs
all-length f no_items xs h = ap (λ ys. length ys) (some-same [] xs h)
all-length f (item d ds) xs h =
    let first = then-some (λ x. option_map (λ ys. x ∷ ys) (all_of f ds)) (f d) xs h in
    let rest = map-some (λ ys. first.0 ∷ ys) (all_of f ds) xs first.2 in
    omega (arith, all-length f ds rest.0 rest.1, ap (λ ys. length ys) rest.2)

-- ---- actions

action-chain : (p : Place) (A D : Option ℕ) (T : Option (List ℕ))
    → is_none (or_else (unless (is_some A) (in_key p field.At) (wanted.Number LIMIT))
    (or_else (unless (is_some D) (in_key p field.Delete) (wanted.Number LIMIT)) (unless (is_some T) (in_key p field.Insert) wanted.Text)))
    ≡ is_some (option_and_then (λ at. option_and_then (λ delete. option_map (λ insert. let a : Action = record { at = at; delete = delete; insert = insert } in a) T) D) A)
action-chain p None D T = refl
action-chain p (Some a) None T = refl
action-chain p (Some a) (Some d) None = refl
action-chain p (Some a) (Some d) (Some t) = refl

action-free : (p : Place) (d : Data) → is_none (action_shape p d) ≡ is_some (action_of d)
action-free p null = refl
action-free p (boolean b) = refl
action-free p (number n) = refl
action-free p (string s) = refl
action-free p (array ds) = refl
action-free p (object ms) =
    action-chain p (number_at (codes "at") (object ms)) (number_or 0 (get (codes "delete") (object ms))) (text_or_empty (get (codes "insert") (object ms)))

action-held : (p : Place) (d : Data) (a : Action) → action_of d ≡ Some a → is_none (action_fault plan.BadNumber p d) ≡ is_action a
action-held p d a h =
    ap (λ o. is_none (option_and_then (action_numbers p) o)) h
    ∙ free-two (unless (nat_le a.at LIMIT) (in_key p field.At) (wanted.Number LIMIT)) (unless (nat_le a.delete LIMIT) (in_key p field.Delete) (wanted.Number LIMIT)) (nat_le a.at LIMIT) (nat_le a.delete LIMIT)
    (free-unless (nat_le a.at LIMIT) (in_key p field.At) (wanted.Number LIMIT)) (free-unless (nat_le a.delete LIMIT) (in_key p field.Delete) (wanted.Number LIMIT))

-- ---- the actions of a client

row-free : (p : Place) (d : Data) → is_none (row_fault plan.BadShape p d) ≡ is_some (row_of d)
row-free p d = go (as_array d) where
  go : (o : Option Items) → is_none (of_array (wants p wanted.Array) (actions_fault plan.BadShape p) o) ≡ is_some (option_and_then (all_of action_of) o)
  go None = refl
  go (Some ds) = each-free (λ i. action_fault plan.BadShape (in_part p i)) action_of 0 ds (λ i d. action-free (in_part p i) d)

row-in_range : (p : Place) (d : Data) (row : List Action) → row_of d ≡ Some row → is_none (row_fault plan.BadNumber p d) ≡ list_all is_action row
row-in_range p d row h =
    let items = then-some (all_of action_of) (as_array d) row h in
    ap (λ o. is_none (of_array None (actions_fault plan.BadNumber p) o)) items.1
    ∙ each-held (λ i. action_fault plan.BadNumber (in_part p i)) action_of is_action 0 items.0 row (λ i d a g. action-held (in_part p i) d a g) items.2

row-short : (p : Place) (d : Data) (row : List Action) → row_of d ≡ Some row → is_none (row_fault plan.TooLong p d) ≡ is_short row
row-short p d row h = ap (λ o. is_none (option_and_then (λ actions. unless (is_short actions) p wanted.Insertions) o)) h ∙ free-unless (is_short row) p wanted.Insertions

row-few : (p : Place) (d : Data) (row : List Action) → row_of d ≡ Some row → is_none (row_fault plan.TooMany p d) ≡ is_few row
row-few p d row h = ap (λ o. is_none (option_and_then (λ actions. unless (is_few actions) p wanted.Actions) o)) h ∙ free-unless (is_few row) p wanted.Actions

-- what a survey of a client's actions says
pub surveyed-short : (o : Option (List Action)) (s : Survey) (p : Place) → Some s ≡ option_map row_survey o
    → unless s.short p wanted.Insertions ≡ option_and_then (λ actions. unless (is_short actions) p wanted.Insertions) o
surveyed-short None s p h = absurd (let clash = h in cc)
surveyed-short (Some row) s p h = ap (λ (t : Survey). unless t.short p wanted.Insertions) (some-same s (row_survey row) h)

pub surveyed-few : (o : Option (List Action)) (s : Survey) (p : Place) → Some s ≡ option_map row_survey o
    → unless s.few p wanted.Actions ≡ option_and_then (λ actions. unless (is_few actions) p wanted.Actions) o
surveyed-few None s p h = absurd (let clash = h in cc)
surveyed-few (Some row) s p h = ap (λ (t : Survey). unless t.few p wanted.Actions) (some-same s (row_survey row) h)

pub unsurveyed : (o : Option (List Action)) (f : List Action → Option Fault) → None ≡ option_map row_survey o → None ≡ option_and_then f o
unsurveyed None f h = refl
unsurveyed (Some row) f h = absurd (let clash = h in cc)

-- ---- the keys of a plan

keys-chain : (c w : ℕ) (P : Option ℕ) (S : Option (List ℕ)) (T : Option Items)
    → is_none (or_else (unless (is_some P) (in_field here field.Present) (wanted.Number c))
    (or_else (unless (is_some S) (in_field here field.Start) wanted.StartText) (unless (is_some T) (in_field here field.Typing) wanted.Array)))
    ≡ is_some (option_and_then (λ present. option_and_then (λ start. option_map (λ typing. let x : PlanData = record { clients = c; workers = w; present = present; start = start; typing = typing } in x) T) S) P)
keys-chain c w None S T = refl
keys-chain c w (Some p) None T = refl
keys-chain c w (Some p) (Some s) None = refl
keys-chain c w (Some p) (Some s) (Some t) = refl

plan-chain : (C W : Option ℕ) (P : ℕ → Option ℕ) (S : Option (List ℕ)) (T : Option Items)
    → is_none (of_number (wants (in_field here field.Clients) (wanted.Positive CLIENT_LIMIT)) (λ clients.
    or_else (unless (is_some W) (in_field here field.Workers) (wanted.Positive 8))
    (or_else (unless (is_some (P clients)) (in_field here field.Present) (wanted.Number clients))
    (or_else (unless (is_some S) (in_field here field.Start) wanted.StartText) (unless (is_some T) (in_field here field.Typing) wanted.Array)))) C)
    ≡ is_some (option_and_then (λ clients. option_and_then (λ workers. option_and_then (λ present. option_and_then (λ start.
    option_map (λ typing. let x : PlanData = record { clients = clients; workers = workers; present = present; start = start; typing = typing } in x) T) S) (P clients)) W) C)
plan-chain None W P S T = refl
plan-chain (Some c) None P S T = refl
plan-chain (Some c) (Some w) P S T = keys-chain c w (P c) S T

layout-free : (d : Data) → is_none (plan_layout d) ≡ is_some (plan_data d)
layout-free null = refl
layout-free (boolean b) = refl
layout-free (number n) = refl
layout-free (string s) = refl
layout-free (array ds) = refl
layout-free (object ms) =
    plan-chain (number_at (codes "clients") (object ms)) (number_at (codes "workers") (object ms)) (λ clients. number_or clients (get (codes "present") (object ms)))
    (text_or_empty (get (codes "start") (object ms))) (items_at (codes "typing") (object ms))

-- ---- the fields of a plan, with the actions that they are

four : (a b c d : Bool) → (a && ((b && c) && d)) ≡ (((a && b) && c) && d)
four false b c d = refl
four true b c d = refl

numbers-free : (x : PlanData) → is_none (own_numbers x) ≡ has_numbers x.clients x.workers x.present
numbers-free x =
    let workers : Bool = nat_lt 0 x.workers && nat_le x.workers 8 in
    let present : Bool = nat_le x.present x.clients in
    let f1 : Option Fault = unless (are_clients x.clients) (in_field here field.Clients) (wanted.Positive CLIENT_LIMIT) in
    let f2 : Option Fault = unless workers (in_field here field.Workers) (wanted.Positive 8) in
    let f3 : Option Fault = unless present (in_field here field.Present) (wanted.Number x.clients) in
    free-two f1 (or_else f2 f3) (are_clients x.clients) (workers && present) (free-unless (are_clients x.clients) (in_field here field.Clients) (wanted.Positive CLIENT_LIMIT))
    (free-two f2 f3 workers present (free-unless workers (in_field here field.Workers) (wanted.Positive 8)) (free-unless present (in_field here field.Present) (wanted.Number x.clients)))
    ∙ four (are_clients x.clients) (nat_lt 0 x.workers) (nat_le x.workers 8) present

shape-free : (x : PlanData) (rows : List (List Action)) → all_of row_of x.typing ≡ Some rows → is_none (shape_fault_in x) ≡ has_lists x.clients (length rows)
shape-free x rows h =
    free-two (rows_fault plan.BadShape x.typing) (unless (has_lists x.clients (count_items x.typing)) (in_field here field.Typing) (wanted.Lists x.clients)) true (has_lists x.clients (length rows))
    (each-free (λ i. row_fault plan.BadShape (row_place i)) row_of 0 x.typing (λ i d. row-free (row_place i) d) ∙ ap (λ o. is_some o) h)
    (free-unless (has_lists x.clients (count_items x.typing)) (in_field here field.Typing) (wanted.Lists x.clients) ∙ ap (has_lists x.clients) (all-length row_of x.typing rows h))

number-free : (x : PlanData) (rows : List (List Action)) → all_of row_of x.typing ≡ Some rows → is_none (number_fault_in x) ≡ is_in_range (with_typing x rows)
number-free x rows h =
    free-two (own_numbers x) (rows_fault plan.BadNumber x.typing) (has_numbers x.clients x.workers x.present) (list_all (list_all is_action) rows) (numbers-free x)
    (each-held (λ i. row_fault plan.BadNumber (row_place i)) row_of (list_all is_action) 0 x.typing rows (λ i d row g. row-in_range (row_place i) d row g) h)

length-free : (x : PlanData) (rows : List (List Action)) → all_of row_of x.typing ≡ Some rows → is_none (length_fault_in x) ≡ fits (with_typing x rows)
length-free x rows h =
    free-two (unless (nat_le (length x.start) START_LIMIT) (in_field here field.Start) wanted.StartText) (rows_fault plan.TooLong x.typing) (nat_le (length x.start) START_LIMIT) (list_all is_short rows)
    (free-unless (nat_le (length x.start) START_LIMIT) (in_field here field.Start) wanted.StartText)
    (each-held (λ i. row_fault plan.TooLong (row_place i)) row_of is_short 0 x.typing rows (λ i d row g. row-short (row_place i) d row g) h)

many-free : (x : PlanData) (rows : List (List Action)) → all_of row_of x.typing ≡ Some rows → is_none (rows_fault plan.TooMany x.typing) ≡ list_all is_few rows
many-free x rows h = each-held (λ i. row_fault plan.TooMany (row_place i)) row_of is_few 0 x.typing rows (λ i d row g. row-few (row_place i) d row g) h

-- ---- kinds

-- a fault of shape comes first
shape-first : (a b c e : Option Fault) → is_none a ≡ false → kind_in (first_kind a b c e) ≡ Some plan.BadShape
shape-first None b c e h = absurd (both_ways true h refl)
shape-first (Some f) b c e h = refl

kinds : (a b c e : Option Fault) (p : PlanView)
    → kind_in (first_kind a b c e) ≡ fault_in (unless_fault p (first_fault (is_none a) (is_none b) (is_none c) (is_none e)))
kinds (Some f) b c e p = refl
kinds None (Some f) c e p = refl
kinds None None (Some f) e p = refl
kinds None None None (Some f) p = refl
kinds None None None None p = refl

same-faults : (a b c e a' b' c' e' : Bool) (p : PlanView) → a ≡ a' → b ≡ b' → c ≡ c' → e ≡ e'
    → fault_in (unless_fault p (first_fault a b c e)) ≡ fault_in (unless_fault p (first_fault a' b' c' e'))
same-faults a b c e a' b' c' e' p q r s t = rw (q, r, s, t) refl

data-exact : (x : PlanData) → kind_in (fault_of_data x) ≡ fault_in (plan_of_shape (shape_from x))
data-exact x = go (all_of row_of x.typing) refl where
  go : (o : Option (List (List Action))) → all_of row_of x.typing ≡ o → kind_in (fault_of_data x) ≡ fault_in (plan_of_shape (option_map (with_typing x) o))
  go None h =
      let rows : is_none (rows_fault plan.BadShape x.typing) ≡ false = each-free (λ i. row_fault plan.BadShape (row_place i)) row_of 0 x.typing (λ i d. row-free (row_place i) d) ∙ ap (λ o. is_some o) h in
      let lists : Option Fault = unless (has_lists x.clients (count_items x.typing)) (in_field here field.Typing) (wanted.Lists x.clients) in
      shape-first (shape_fault_in x) (number_fault_in x) (length_fault_in x) (rows_fault plan.TooMany x.typing)
      (free-two (rows_fault plan.BadShape x.typing) lists false (is_none lists) rows refl)
  go (Some rows) h =
      kinds (shape_fault_in x) (number_fault_in x) (length_fault_in x) (rows_fault plan.TooMany x.typing) (with_typing x rows)
      ∙ same-faults (is_none (shape_fault_in x)) (is_none (number_fault_in x)) (is_none (length_fault_in x)) (is_none (rows_fault plan.TooMany x.typing))
      (has_lists x.clients (length rows)) (is_in_range (with_typing x rows)) (fits (with_typing x rows)) (list_all is_few rows) (with_typing x rows)
      (shape-free x rows h) (number-free x rows h) (length-free x rows h) (many-free x rows h)

-- the kind of the first fault is the fault of the reading
pub exact : (d : Data) → kind_in (plan_fault d) ≡ fault_in (plan_of_shape (shape_of d))
exact d = go (plan_data d) refl where
  go : (o : Option PlanData) → plan_data d ≡ o → kind_in (of_plan (first_kind (plan_layout d) None None None) fault_of_data o) ≡ fault_in (plan_of_shape (option_and_then shape_from o))
  go None h = shape-first (plan_layout d) None None None (layout-free d ∙ ap (λ o. is_some o) h)
  go (Some x) h = data-exact x

-- a value that is refused has a first fault, of that kind
pub none-refused : (d : Data) (e : PlanFault) → None ≡ plan_fault d → plan_of_shape (shape_of d) ≡ Err e → ⊥
none-refused d e none bad =
    let clash : None ≡ Some e = ap kind_in none ∙ exact d ∙ ap fault_in bad in cc

pub kind-refused : (d : Data) (r : PlanRefusal) (e : PlanFault) → Some r ≡ plan_fault d → plan_of_shape (shape_of d) ≡ Err e → r.kind ≡ e
kind-refused d r e some bad = some-same r.kind e (ap kind_in some ∙ exact d ∙ ap fault_in bad)

-- ---- how many actions a plan has

few-each : (rows : List (List Action)) → All AreActions rows → action_count rows ≤ 1000 * length rows
few-each [] all = omega arith
few-each (row ∷ rows) all =
    let first = All-head AreActions row rows all in
    let rest = few-each rows (All-tail AreActions row rows all) in
    omega (arith, sum_by-cons (λ (r : List Action). length r) row rows, first.few, rest)

pub few-actions : (p : PlanView) → IsPlan p → action_count p.typing ≡ min (action_count p.typing) (2 ^ 64 - 1)
few-actions p good = omega (arith, few-each p.typing good.typing_fits, good.one_each, good.clients_to)
