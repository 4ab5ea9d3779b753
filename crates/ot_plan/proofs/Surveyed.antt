-- Surveys of actions, and what they say of the plan.
use Rattle.std.proofs.Common.{◌≡◌, ℕ, zero, suc, ◌+◌, ◌-◌, ◌^◌, ◌≤◌, List, [], ◌∷◌, length, drop, map, ap, sym, ◌∙◌, arith, Bool, true, false, min, ◌&&◌, nat_le, refl, inl, inr, cond, subst}
use Rattle.std.specs.Prelude.{sum_by, Option, Some, None, Result, Ok, Err, option_map, option_and_then, nat_lt, not, ◌||◌, ◌==◌, All}
use Rattle.std.specs.Option.{IsSomeAnd}
use Rattle.std.specs.List.{list_all}
use Rattle.std.specs.Str.{chars}
use Rattle.std.proofs.lemmas.Bool.{cases_Bool, and_parts, leb-true, le-leb, ltb-true, eqb-true, both_ways}
use Rattle.std.proofs.lemmas.List.{drop_all}
use Rattle.std.proofs.lemmas.List.Elements.{All-nil, All-cons}
use Rattle.serde_json.specs.Data.{Data, Items, no_items, item}
use Rattle.serde_json.specs.Find.{as_array}
use Rattle.serde_json.specs.View.{view, items_view}
use Rattle.serde_json.specs.declared.value.Value.{Value}
use Rattle.ot_json.specs.Fields.{all_of, keep_if}
use Rattle.ot_json.proofs.Lists.{some-same, then-some, map-some, all_of-length}
use Rattle.ot_plan.specs.Typing.{Action}
use Rattle.ot_plan.specs.declared.fault.PlanFault.{PlanFault}
use Rattle.ot_plan.specs.declared.layout.Layout.{Layout}
use Rattle.ot_plan.specs.declared.survey.Survey.{Survey}
use Rattle.ot_plan.specs.Typing.{inserted}
use Rattle.ot_plan.specs.Plan.{PlanView, IsAction, AreActions, IsPlan}
use Rattle.ot_plan.specs.Reading.{action_of, row_of, is_action, is_short, is_few, PlanData, plan_data, with_typing, shape_from, shape_of, are_clients, has_lists, has_numbers, is_in_range, fits, first_fault, fault_of, unless_fault, plan_of_shape}
use Rattle.ot_plan.specs.Layout.{layout_view, row_survey, rows_survey, action_in_range, row_in_range}

-- what is counted of actions, beside what was before: whether all are in range, and how many characters they insert, up to a word
abbrev pub counted : Bool → ℕ → List Action → Bool × ℕ
counted in_range n row = (in_range && list_all is_action row, min (n + inserted row) (2 ^ 64 - 1))

and-true : (b : Bool) → (b && true) ≡ b
and-true true = refl
and-true false = refl

-- a number below the limit is the one that was counted
same-test : (a b : ℕ) → (a ≤ 15000 → b ≤ 15000) → (b ≤ 15000 → a ≤ 15000) → nat_le a 15000 ≡ nat_le b 15000
same-test a b f g = elim (cases_Bool (nat_le a 15000)) [
  | inl low ↦ low ∙ sym (le-leb b 15000 (f (leb-true a 15000 low)))
  | inr high ↦ elim (cases_Bool (nat_le b 15000)) [
    | inl low ↦ absurd (both_ways (nat_le a 15000) high (le-leb a 15000 (g (leb-true b 15000 low))))
    | inr also ↦ high ∙ sym also
  ]
]

-- one client's actions, all of them counted
pub row-counted :
    (vs : List Value) (i n : ℕ) (range : Bool) → length vs ≤ i → n ≤ 2 ^ 64 - 1
    → option_map (counted range n) (all_of action_of (items_view (drop i vs))) ≡ option_map (counted true 0) (all_of action_of (items_view vs))
    → Some (record { in_range = range; short = nat_le n 15000; few = nat_le (length vs) 1000 }) ≡ option_map row_survey (all_of action_of (items_view vs))
row-counted vs i n range end small left =
    let none : drop i vs ≡ [] = drop_all i vs end in
    let here : Some (range && true, min (n + 0) (2 ^ 64 - 1)) ≡ option_map (counted true 0) (all_of action_of (items_view vs)) =
    ap (λ (ws : List Value). option_map (counted range n) (all_of action_of (items_view ws))) (sym none) ∙ left in
    let found = map-some (counted true 0) (all_of action_of (items_view vs)) (range && true, min (n + 0) (2 ^ 64 - 1)) (sym here) in
    let row : List Action = found.0 in
    let ranges : list_all is_action row ≡ range = ap (λ (p : Bool × ℕ). p.0) found.2 ∙ and-true range in
    let count : min (0 + inserted row) (2 ^ 64 - 1) ≡ min (n + 0) (2 ^ 64 - 1) = ap (λ (p : Bool × ℕ). p.1) found.2 in
    let long : length row ≡ length vs = all_of-length action_of vs row found.1 in
    let test : nat_le (inserted row) 15000 ≡ nat_le n 15000 = same-test (inserted row) n (λ h. omega (arith, h, count, small)) (λ h. omega (arith, h, count, small)) in
    sym (ap (option_map row_survey) found.1 ∙ rw (ranges, test, long) refl)

-- what a survey says of the plan
pub record IsSeen (x : Layout) (r : Option PlanFault) : Type 0 where
  pub plan : PlanView
  pub is : shape_from (layout_view x) ≡ Some plan
  pub fault : fault_of plan ≡ r

abbrev pub told : Layout → Survey → Option PlanFault
told x s = first_fault (has_lists x.clients (length x.typing.now)) (has_numbers x.clients x.workers x.present && s.in_range) (nat_le (length (chars x.start.now)) 40000 && s.short) s.few

pub seen : (x : Layout) (s : Survey) (r : Option PlanFault) → Some s ≡ option_map rows_survey (all_of row_of (items_view x.typing.now)) → r ≡ told x s → IsSeen x r
seen x s r surveyed is =
    let found = map-some rows_survey (all_of row_of (items_view x.typing.now)) s (sym surveyed) in
    let long : length found.0 ≡ length x.typing.now = all_of-length row_of x.typing.now found.0 found.1 in
    record {
      plan = with_typing (layout_view x) found.0;
      is = ap (option_map (with_typing (layout_view x))) found.1;
      fault =
          ap (λ (n : ℕ). first_fault (has_lists x.clients n) (has_numbers x.clients x.workers x.present && (rows_survey found.0).in_range) (nat_le (length (chars x.start.now)) 40000 && (rows_survey found.0).short) (rows_survey found.0).few) long
          ∙ ap (told x) found.2 ∙ sym is;
    }

pub seen-fault : (d : Data) (x : Layout) (e : PlanFault) → Some (layout_view x) ≡ plan_data d → IsSeen x (Some e) → plan_of_shape (shape_of d) ≡ Err e
seen-fault d x e fields s =
    ap (λ o. plan_of_shape (option_and_then shape_from o)) (sym fields) ∙ ap plan_of_shape s.is ∙ ap (unless_fault s.plan) s.fault

pub seen-none : (x : Layout) → IsSeen x None → IsSomeAnd (shape_from (layout_view x)) (λ p. fault_of p ≡ None)
seen-none x s = rw s.is s.fault

-- ---- plans without a fault

no-fault : (l r s f : Bool) → first_fault l r s f ≡ None → (l ≡ true) × (r ≡ true) × (s ≡ true) × (f ≡ true)
no-fault false r s f h = absurd (let clash = h in cc)
no-fault true false s f h = absurd (let clash = h in cc)
no-fault true true false f h = absurd (let clash = h in cc)
no-fault true true true false h = absurd (let clash = h in cc)
no-fault true true true true h = (refl, refl, refl, refl)

all-from : {A : Type 0} (p : A → Bool) (P : A → Type 0) → ((x : A) → p x ≡ true → P x) → (xs : List A) → list_all p xs ≡ true → All P xs
all-from p P tells [] h = All-nil P
all-from p P tells (x ∷ xs) h = let parts = and_parts (p x) (list_all p xs) h in All-cons P x xs (tells x parts.0) (all-from p P tells xs parts.1)

action-is : (a : Action) → is_action a ≡ true → IsAction a
action-is a h = let parts = and_parts (nat_le a.at 1000000) (nat_le a.delete 1000000) h in record { at = leb-true _ _ parts.0; delete = leb-true _ _ parts.1 }

rows-are : (rows : List (List Action)) → list_all (list_all is_action) rows ≡ true → list_all is_short rows ≡ true → list_all is_few rows ≡ true → All AreActions rows
rows-are [] a b c = All-nil AreActions
rows-are (row ∷ rows) a b c =
    let range = and_parts (list_all is_action row) (list_all (list_all is_action) rows) a in
    let short = and_parts (is_short row) (list_all is_short rows) b in
    let few = and_parts (is_few row) (list_all is_few rows) c in
    All-cons AreActions row rows (record { few = leb-true _ _ few.0; short = leb-true _ _ short.0; each = all-from is_action IsAction action-is row range.0 }) (rows-are rows range.1 short.1 few.1)

pub record IsGood (p : PlanView) : Type 0 where
  pub plan : IsPlan p
  pub range : list_all (list_all is_action) p.typing ≡ true

one_each : (clients lists : ℕ) → are_clients clients ≡ true → has_lists clients lists ≡ true → lists ≡ clients
one_each clients lists ok h = eqb-true lists clients (sym (ap (λ (b : Bool). not b || (lists == clients)) ok) ∙ h)

pub good : (p : PlanView) → fault_of p ≡ None → IsGood p
good p h =
    let four = no-fault (has_lists p.clients (length p.typing)) (is_in_range p) (fits p) (list_all is_few p.typing) h in
    let range = and_parts (has_numbers p.clients p.workers p.present) (list_all (list_all is_action) p.typing) four.1 in
    let one = and_parts (are_clients p.clients && nat_lt 0 p.workers && nat_le p.workers 8) (nat_le p.present p.clients) range.0 in
    let two = and_parts (are_clients p.clients && nat_lt 0 p.workers) (nat_le p.workers 8) one.0 in
    let three = and_parts (are_clients p.clients) (nat_lt 0 p.workers) two.0 in
    let clients = and_parts (nat_lt 0 p.clients) (nat_le p.clients 64) three.0 in
    let lengths = and_parts (nat_le (length p.start) 40000) (list_all is_short p.typing) four.2 in
    record {
      plan = record {
        clients_from = ltb-true 0 p.clients clients.0;
        clients_to = leb-true p.clients 64 clients.1;
        workers_from = ltb-true 0 p.workers three.1;
        workers_to = leb-true p.workers 8 two.1;
        present_to = leb-true p.present p.clients one.1;
        start_fits = leb-true (length p.start) 40000 lengths.0;
        one_each = one_each p.clients (length p.typing) three.0 four.0;
        typing_fits = rows-are p.typing range.1 lengths.1 four.3;
      };
      range = range.1;
    }

-- ---- actions in range are read again

again :
    {A : Type 0} (f g : Data → Option A) (p : A → Bool) → ((d : Data) (x : A) → f d ≡ Some x → p x ≡ true → g d ≡ Some x)
    → (ds : Items) (xs : List A) → all_of f ds ≡ Some xs → list_all p xs ≡ true → all_of g ds ≡ Some xs
again f g p same no_items xs h all = h
again f g p same (item d ds) xs h all =
    let first = then-some (λ x. option_map (λ ys. x ∷ ys) (all_of f ds)) (f d) xs h in
    let rest = map-some (λ ys. first.0 ∷ ys) (all_of f ds) xs first.2 in
    let parts = and_parts (p first.0) (list_all p rest.0) (ap (list_all p) rest.2 ∙ all) in
    ap (option_and_then (λ x. option_map (λ ys. x ∷ ys) (all_of g ds))) (same d first.0 first.1 parts.0)
    ∙ ap (option_map (λ ys. first.0 ∷ ys)) (again f g p same ds rest.0 rest.1 parts.1)
    ∙ ap (λ ys. Some ys) rest.2

action-again : (d : Data) (a : Action) → action_of d ≡ Some a → is_action a ≡ true → action_in_range d ≡ Some a
action-again d a h ok = ap (keep_if is_action) h ∙ ap (λ (b : Bool). cond b (Some a) None) ok

row-again : (d : Data) (row : List Action) → row_of d ≡ Some row → list_all is_action row ≡ true → row_in_range d ≡ Some row
row-again d row h all =
    let items = then-some (all_of action_of) (as_array d) row h in
    ap (option_and_then (all_of action_in_range)) items.1 ∙ again action_of action_in_range is_action action-again items.0 row items.2 all

pub rows-again : (ds : Items) (rows : List (List Action)) → all_of row_of ds ≡ Some rows → list_all (list_all is_action) rows ≡ true → all_of row_in_range ds ≡ Some rows
rows-again ds rows h all = again row_of row_in_range (list_all is_action) row-again ds rows h all

-- what the reading of a checked layout needs
pub record IsReady (x : Layout) : Type 0 where
  pub plan : PlanView
  pub is : shape_from (layout_view x) ≡ Some plan
  pub good : IsPlan plan
  pub rows : all_of row_in_range (items_view x.typing.now) ≡ Some plan.typing
  pub same : with_typing (layout_view x) plan.typing ≡ plan

ready-from : (x : Layout) (o : Option PlanView) → shape_from (layout_view x) ≡ o → IsSomeAnd o (λ p. fault_of p ≡ None) → IsReady x
ready-from x None is h = absurd h
ready-from x (Some p) is h =
    let rows = map-some (with_typing (layout_view x)) (all_of row_of (items_view x.typing.now)) p is in
    let typing : rows.0 ≡ p.typing = ap (λ (q : PlanView). q.typing) rows.2 in
    let ok = good p h in
    record {
      plan = p;
      is = is;
      good = ok.plan;
      rows = rows-again (items_view x.typing.now) p.typing (rows.1 ∙ ap (λ ys. Some ys) typing) ok.range;
      same = ap (with_typing (layout_view x)) (sym typing) ∙ rows.2;
    }

pub ready : (x : Layout) → IsSomeAnd (shape_from (layout_view x)) (λ p. fault_of p ≡ None) → IsReady x
ready x h = ready-from x (shape_from (layout_view x)) refl h

pub made-is : (x : Layout) (r : IsReady x) (start : List ℕ) (rows : List (List Action)) → start ≡ chars x.start.now → rows ≡ r.plan.typing
    → r.plan ≡ record { clients = x.clients; workers = x.workers; present = x.present; start = start; typing = rows }
made-is x r start rows p q =
    let made : List ℕ → List (List Action) → PlanView = λ s ts. record { clients = x.clients; workers = x.workers; present = x.present; start = s; typing = ts } in
    sym r.same ∙ ap (λ s. made s r.plan.typing) (sym p) ∙ ap (made start) (sym q)
