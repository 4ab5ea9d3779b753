-- The value at the place of a plan's first fault is not what is wanted there.
use Rattle.std.proofs.Common.{◌≡◌, ℕ, List, length, ap, sym, ◌∙◌, cond, refl, Bool, false, ◌&&◌}
use Rattle.std.specs.Prelude.{IfSome, Option, Some, None, is_some, option_and_then, option_map, nat_le, nat_lt, codes}
use Rattle.std.specs.Str.{chars}
use Rattle.std.proofs.lemmas.Bool.{or_parts}
use Rattle.serde_json.specs.Data.{Data, Items}
use Rattle.serde_json.specs.Find.{as_array, as_number, as_object, as_str, as_u64, get}
use Rattle.ot_json.specs.Fields.{items_at, keep_if, number_at, number_or, text_or_empty}
use Rattle.ot_isa.specs.declared.builder.TheConstants.{CLIENT_LIMIT, START_LIMIT}
use Rattle.ot_operation.specs.declared.TheConstants.{LIMIT}
use Rattle.ot_plan.specs.Typing.{Action}
use Rattle.ot_plan.specs.Reading.{PlanData, action_of, are_clients, has_lists, is_few, is_short, plan_data, row_of}
use Rattle.ot_plan.specs.declared.fault.PlanFault.{PlanFault}
use Rattle.ot_plan.specs.declared.fault.PlanFault.TheVariants as plan
use Rattle.ot_reasons.specs.declared.place.Fault.{Fault}
use Rattle.ot_reasons.specs.declared.place.Place.{Place}
use Rattle.ot_reasons.specs.declared.place.Field.TheVariants as field
use Rattle.ot_reasons.specs.declared.place.Wanted.TheVariants as wanted
use Rattle.ot_reasons.specs.declared.plan_faults.PlanRefusal.{PlanRefusal}
use Rattle.ot_reasons.specs.Faults.{count_items, of_array, or_else, unless, wants}
use Rattle.ot_reasons.specs.Places.{found_at, here, in_field, in_key, in_part, row_place}
use Rattle.ot_reasons.specs.PlanFaults.{action_fault, action_keys, action_numbers, action_shape, actions_fault, fault_of_data, first_kind, length_fault_in, number_fault_in, of_number, of_plan, other_keys, own_numbers, plan_fault, plan_keys, plan_layout, row_fault, rows_fault, shape_fault_in}
use Rattle.ot_reasons.specs.Satisfied.{has_count, is_met, is_positive, is_start}
use Rattle.ot_reasons.proofs.Standing.{AtItem, AtPart, HasItems, array-item, at-top, into-key, into-part, item-here, key-here, part-here, top-key}
use Rattle.ot_reasons.proofs.Unmet.{Unmet, has-items, no-array, no-number, nothing-kept, stands, unmet-items, unmet-or, unmet-unless}

-- ---- numbers and texts that may be missing

no-number-or : (most n : ℕ) (o : Option Data) → is_some (number_or n o) ≡ false → is_met (wanted.Number most) o ≡ false
no-number-or most n None e = refl
no-number-or most n (Some x) e = nothing-kept (λ (m : ℕ). nat_le m most) (option_and_then as_u64 (as_number x)) e

no-positive : (most : ℕ) (o : Option Data) → is_some (option_and_then as_u64 (option_and_then as_number o)) ≡ false → is_met (wanted.Positive most) o ≡ false
no-positive most None e = refl
no-positive most (Some x) e = nothing-kept (is_positive most) (option_and_then as_u64 (as_number x)) e

not-mapped : {A B : Type 0} (f : A → B) (o : Option A) → is_some (option_map f o) ≡ false → is_some o ≡ false
not-mapped f None e = refl
not-mapped f (Some x) e = absurd (cc e)

no-text : (o : Option Data) → is_some (text_or_empty o) ≡ false → is_met wanted.Text o ≡ false
no-text None e = refl
no-text (Some x) e = not-mapped chars (as_str x) e

no-start : (o : Option Data) → is_some (text_or_empty o) ≡ false → is_met wanted.StartText o ≡ false
no-start None e = refl
no-start (Some x) e = nothing-kept is_start (as_str x) (not-mapped chars (as_str x) e)

-- a value that does not pass a test
not-kept : {A : Type 0} (f : A → Bool) (o : Option A) (x : A) → o ≡ Some x → f x ≡ false → is_some (keep_if f o) ≡ false
not-kept f o x is e = ap (λ z. is_some (keep_if f z)) is ∙ ap (λ (b : Bool). is_some (cond b (Some x) None)) e

past : (most r : ℕ) (o : Option Data) → option_and_then as_u64 (option_and_then as_number o) ≡ Some r → nat_le r most ≡ false → is_met (wanted.Number most) o ≡ false
past most r None is e = refl
past most r (Some x) is e = not-kept (λ (m : ℕ). nat_le m most) (option_and_then as_u64 (as_number x)) r is e

past-or : (most n r : ℕ) (o : Option Data) → number_or n o ≡ Some r → nat_le r most ≡ false → is_met (wanted.Number most) o ≡ false
past-or most n r None is e = refl
past-or most n r (Some x) is e = not-kept (λ (m : ℕ). nat_le m most) (option_and_then as_u64 (as_number x)) r is e

not-positive : (most r : ℕ) (o : Option Data) → option_and_then as_u64 (option_and_then as_number o) ≡ Some r → is_positive most r ≡ false → is_met (wanted.Positive most) o ≡ false
not-positive most r None is e = refl
not-positive most r (Some x) is e = not-kept (is_positive most) (option_and_then as_u64 (as_number x)) r is e

too-long : (o : Option Data) (text : List ℕ) → text_or_empty o ≡ Some text → nat_le (length text) START_LIMIT ≡ false → is_met wanted.StartText o ≡ false
too-long None text is e = refl
too-long (Some x) text is e = go (as_str x) refl is where
  go : (s : Option (List ℕ)) → as_str x ≡ s → option_map chars s ≡ Some text → is_some (keep_if is_start (as_str x)) ≡ false
  go None found h = absurd (cc h)
  go (Some bytes) found h =
      let same : chars bytes ≡ text = cc h in
      not-kept is_start (as_str x) bytes found (ap (λ (t : List ℕ). nat_le (length t) START_LIMIT) same ∙ e)

-- ---- actions

unmet-action-keys : (d : Data) (p : Place) (x : Data) → AtPart d p x → Unmet d (action_keys p x)
unmet-action-keys d p x h =
    let f3 = unless (is_some (text_or_empty (get (codes "insert") x))) (in_key p field.Insert) wanted.Text in
    let f2 = unless (is_some (number_or 0 (get (codes "delete") x))) (in_key p field.Delete) (wanted.Number LIMIT) in
    let f1 = unless (is_some (number_at (codes "at") x)) (in_key p field.At) (wanted.Number LIMIT) in
    unmet-or d f1 (or_else f2 f3)
    (unmet-unless d _ _ _ (λ e. stands d (in_key p field.At) (get (codes "at") x) (wanted.Number LIMIT) (into-key d p x field.At h) (no-number LIMIT (get (codes "at") x) e)))
    (unmet-or d f2 f3
    (unmet-unless d _ _ _ (λ e. stands d (in_key p field.Delete) (get (codes "delete") x) (wanted.Number LIMIT) (into-key d p x field.Delete h) (no-number-or LIMIT 0 (get (codes "delete") x) e)))
    (unmet-unless d _ _ _ (λ e. stands d (in_key p field.Insert) (get (codes "insert") x) wanted.Text (into-key d p x field.Insert h) (no-text (get (codes "insert") x) e))))

unmet-action-shape : (d : Data) (p : Place) (x : Data) → AtPart d p x → Unmet d (action_shape p x)
unmet-action-shape d p x h =
    unmet-or d (unless (is_some (as_object x)) p wanted.Object) (action_keys p x)
    (unmet-unless d (is_some (as_object x)) p wanted.Object (λ e. stands d p (Some x) wanted.Object (part-here d p x h) e))
    (unmet-action-keys d p x h)

action-chain : (A D : Option ℕ) (I : Option (List ℕ)) (a : Action)
    → option_and_then (λ at. option_and_then (λ delete. option_map (λ insert. let x : Action = record { at = at; delete = delete; insert = insert } in x) I) D) A ≡ Some a
    → (A ≡ Some a.at) × (D ≡ Some a.delete)
action-chain None D I a h = absurd (cc h)
action-chain (Some n) None I a h = absurd (cc h)
action-chain (Some n) (Some m) None a h = absurd (cc h)
action-chain (Some n) (Some m) (Some i) a h =
    let made : Action = record { at = n; delete = m; insert = i } in
    let is : made ≡ a = cc h in (ap (λ (w : Action). Some w.at) is, ap (λ (w : Action). Some w.delete) is)

unmet-action-numbers : (d : Data) (p : Place) (x : Data) (a : Action) → AtPart d p x → action_of x ≡ Some a → Unmet d (action_numbers p a)
unmet-action-numbers d p x a h is =
    let both = action-chain (number_at (codes "at") x) (number_or 0 (get (codes "delete") x)) (text_or_empty (get (codes "insert") x)) a is in
    unmet-or d (unless (nat_le a.at LIMIT) (in_key p field.At) (wanted.Number LIMIT)) (unless (nat_le a.delete LIMIT) (in_key p field.Delete) (wanted.Number LIMIT))
    (unmet-unless d _ _ _ (λ e. stands d (in_key p field.At) (get (codes "at") x) (wanted.Number LIMIT) (into-key d p x field.At h) (past LIMIT a.at (get (codes "at") x) both.0 e)))
    (unmet-unless d _ _ _ (λ e. stands d (in_key p field.Delete) (get (codes "delete") x) (wanted.Number LIMIT) (into-key d p x field.Delete h) (past-or LIMIT 0 a.delete (get (codes "delete") x) both.1 e)))

unmet-number-of : (d : Data) (p : Place) (x : Data) → AtPart d p x → Unmet d (action_fault plan.BadNumber p x)
unmet-number-of d p x h = go (action_of x) refl where
  go : (o : Option Action) → action_of x ≡ o → Unmet d (option_and_then (action_numbers p) o)
  go None e = tt
  go (Some a) e = unmet-action-numbers d p x a h e

-- ---- what a client's user types

unmet-row-shape : (d : Data) (p : Place) (x : Data) → AtItem d p x → Unmet d (row_fault plan.BadShape p x)
unmet-row-shape d p x h = go (as_array x) refl where
  go : (o : Option Items) → as_array x ≡ o → Unmet d (of_array (wants p wanted.Array) (actions_fault plan.BadShape p) o)
  go None e = stands d p (Some x) wanted.Array (item-here d p x h) (ap (λ (z : Option Items). is_some z) e)
  go (Some ds) e = unmet-items d (λ i. action_fault plan.BadShape (in_part p i)) ds (λ i z there. unmet-action-shape d (in_part p i) z (into-part d p x z i h (array-item x ds i z e there)))

unmet-row-number : (d : Data) (p : Place) (x : Data) → AtItem d p x → Unmet d (row_fault plan.BadNumber p x)
unmet-row-number d p x h = go (as_array x) refl where
  go : (o : Option Items) → as_array x ≡ o → Unmet d (of_array None (actions_fault plan.BadNumber p) o)
  go None e = tt
  go (Some ds) e = unmet-items d (λ i. action_fault plan.BadNumber (in_part p i)) ds (λ i z there. unmet-number-of d (in_part p i) z (into-part d p x z i h (array-item x ds i z e there)))

unmet-row-long : (d : Data) (p : Place) (x : Data) → AtItem d p x → Unmet d (row_fault plan.TooLong p x)
unmet-row-long d p x h = go (row_of x) refl where
  go : (o : Option (List Action)) → row_of x ≡ o → Unmet d (option_and_then (λ actions. unless (is_short actions) p wanted.Insertions) o)
  go None e = tt
  go (Some actions) e = unmet-unless d (is_short actions) p wanted.Insertions (λ no. stands d p (Some x) wanted.Insertions (item-here d p x h) (not-kept is_short (row_of x) actions e no))

unmet-row-many : (d : Data) (p : Place) (x : Data) → AtItem d p x → Unmet d (row_fault plan.TooMany p x)
unmet-row-many d p x h = go (row_of x) refl where
  go : (o : Option (List Action)) → row_of x ≡ o → Unmet d (option_and_then (λ actions. unless (is_few actions) p wanted.Actions) o)
  go None e = tt
  go (Some actions) e = unmet-unless d (is_few actions) p wanted.Actions (λ no. stands d p (Some x) wanted.Actions (item-here d p x h) (not-kept is_few (row_of x) actions e no))

unmet-rows : (d : Data) (kind : PlanFault) (ds : Items) → HasItems d (in_field here field.Typing) ds → ((p : Place) (x : Data) → AtItem d p x → Unmet d (row_fault kind p x)) → Unmet d (rows_fault kind ds)
unmet-rows d kind ds h each = unmet-items d (λ i. row_fault kind (row_place i)) ds (λ i x e. each (row_place i) x (h.each i x e))

-- ---- the keys of a plan

unmet-other-keys : (d : Data) (n : ℕ) → Unmet d (other_keys n d)
unmet-other-keys d n =
    let f4 = unless (is_some (items_at (codes "typing") d)) (in_field here field.Typing) wanted.Array in
    let f3 = unless (is_some (text_or_empty (get (codes "start") d))) (in_field here field.Start) wanted.StartText in
    let f2 = unless (is_some (number_or n (get (codes "present") d))) (in_field here field.Present) (wanted.Number n) in
    let f1 = unless (is_some (number_at (codes "workers") d)) (in_field here field.Workers) (wanted.Positive 8) in
    unmet-or d f1 (or_else f2 (or_else f3 f4))
    (unmet-unless d _ _ _ (λ e. stands d (in_field here field.Workers) (get (codes "workers") d) (wanted.Positive 8) (key-here d _ _ (top-key d field.Workers)) (no-positive 8 (get (codes "workers") d) e)))
    (unmet-or d f2 (or_else f3 f4)
    (unmet-unless d _ _ _ (λ e. stands d (in_field here field.Present) (get (codes "present") d) (wanted.Number n) (key-here d _ _ (top-key d field.Present)) (no-number-or n n (get (codes "present") d) e)))
    (unmet-or d f3 f4
    (unmet-unless d _ _ _ (λ e. stands d (in_field here field.Start) (get (codes "start") d) wanted.StartText (key-here d _ _ (top-key d field.Start)) (no-start (get (codes "start") d) e)))
    (unmet-unless d _ _ _ (λ e. stands d (in_field here field.Typing) (get (codes "typing") d) wanted.Array (key-here d _ _ (top-key d field.Typing)) (no-array (get (codes "typing") d) e)))))

unmet-plan-keys : (d : Data) → Unmet d (plan_keys d)
unmet-plan-keys d = go (number_at (codes "clients") d) refl where
  go : (o : Option ℕ) → number_at (codes "clients") d ≡ o → Unmet d (of_number (wants (in_field here field.Clients) (wanted.Positive CLIENT_LIMIT)) (λ clients. other_keys clients d) o)
  go None e =
      stands d (in_field here field.Clients) (get (codes "clients") d) (wanted.Positive CLIENT_LIMIT) (key-here d _ _ (top-key d field.Clients))
      (no-positive CLIENT_LIMIT (get (codes "clients") d) (ap (λ (z : Option ℕ). is_some z) e))
  go (Some n) e = unmet-other-keys d n

unmet-plan-layout : (d : Data) → Unmet d (plan_layout d)
unmet-plan-layout d =
    unmet-or d (unless (is_some (as_object d)) here wanted.Object) (plan_keys d)
    (unmet-unless d (is_some (as_object d)) here wanted.Object (λ e. stands d here (Some d) wanted.Object (key-here d here (Some d) (at-top d)) e))
    (unmet-plan-keys d)

-- ---- the fields of a plan

record ArePlanFields (d : Data) (x : PlanData) : Type 0 where
  clients : number_at (codes "clients") d ≡ Some x.clients
  workers : number_at (codes "workers") d ≡ Some x.workers
  present : number_or x.clients (get (codes "present") d) ≡ Some x.present
  start : text_or_empty (get (codes "start") d) ≡ Some x.start
  typing : items_at (codes "typing") d ≡ Some x.typing

plan-chain : (C W : Option ℕ) (P : ℕ → Option ℕ) (S : Option (List ℕ)) (T : Option Items) (x : PlanData)
    → option_and_then (λ clients. option_and_then (λ workers. option_and_then (λ present. option_and_then (λ start.
    option_map (λ typing. let y : PlanData = record { clients = clients; workers = workers; present = present; start = start; typing = typing } in y) T) S) (P clients)) W) C ≡ Some x
    → (C ≡ Some x.clients) × (W ≡ Some x.workers) × (P x.clients ≡ Some x.present) × (S ≡ Some x.start) × (T ≡ Some x.typing)
plan-chain None W P S T x h = absurd (cc h)
plan-chain (Some c) None P S T x h = absurd (cc h)
plan-chain (Some c) (Some w) P S T x h = by (P c) refl S T h
  where
    by : (p : Option ℕ) → P c ≡ p → (S' : Option (List ℕ)) (T' : Option Items)
        → option_and_then (λ present. option_and_then (λ start. option_map (λ typing. let y : PlanData = record { clients = c; workers = w; present = present; start = start; typing = typing } in y) T') S') p ≡ Some x
        → (Some c ≡ Some x.clients) × (Some w ≡ Some x.workers) × (P x.clients ≡ Some x.present) × (S' ≡ Some x.start) × (T' ≡ Some x.typing)
    by None e S' T' h = absurd (cc h)
    by (Some p) e None T' h = absurd (cc h)
    by (Some p) e (Some s) None h = absurd (cc h)
    by (Some p) e (Some s) (Some t) h =
        let made : PlanData = record { clients = c; workers = w; present = p; start = s; typing = t } in
        let is : made ≡ x = cc h in (
          ap (λ (y : PlanData). Some y.clients) is,
          ap (λ (y : PlanData). Some y.workers) is,
          ap (λ (y : PlanData). P y.clients) (sym is) ∙ e ∙ ap (λ (y : PlanData). Some y.present) is,
          ap (λ (y : PlanData). Some y.start) is,
          ap (λ (y : PlanData). Some y.typing) is,
        )

plan-fields : (d : Data) (x : PlanData) → plan_data d ≡ Some x → ArePlanFields d x
plan-fields d x h =
    let all = plan-chain (number_at (codes "clients") d) (number_at (codes "workers") d) (λ (n : ℕ). number_or n (get (codes "present") d)) (text_or_empty (get (codes "start") d)) (items_at (codes "typing") d) x h in
    record { clients = all.0; workers = all.1; present = all.2; start = all.3; typing = all.4 }

typed : (d : Data) (x : PlanData) → ArePlanFields d x → HasItems d (in_field here field.Typing) x.typing
typed d x has = has-items d (in_field here field.Typing) (get (codes "typing") d) x.typing (top-key d field.Typing) has.typing

other-lists : (n : ℕ) (ds : Items) (o : Option Data) → option_and_then as_array o ≡ Some ds → has_lists n (count_items ds) ≡ false → is_met (wanted.Lists n) o ≡ false
other-lists n ds None is e = refl
other-lists n ds (Some x) is e = ap (has_count n) is ∙ (or_parts _ _ e).1

unmet-shape-in : (d : Data) (x : PlanData) → ArePlanFields d x → Unmet d (shape_fault_in x)
unmet-shape-in d x has =
    unmet-or d (rows_fault plan.BadShape x.typing) (unless (has_lists x.clients (count_items x.typing)) (in_field here field.Typing) (wanted.Lists x.clients))
    (unmet-rows d plan.BadShape x.typing (typed d x has) (unmet-row-shape d))
    (unmet-unless d _ _ _ (λ e. stands d (in_field here field.Typing) (get (codes "typing") d) (wanted.Lists x.clients) (key-here d _ _ (top-key d field.Typing)) (other-lists x.clients x.typing (get (codes "typing") d) has.typing e)))

unmet-own : (d : Data) (x : PlanData) → ArePlanFields d x → Unmet d (own_numbers x)
unmet-own d x has =
    let f3 = unless (nat_le x.present x.clients) (in_field here field.Present) (wanted.Number x.clients) in
    let f2 = unless (nat_lt 0 x.workers && nat_le x.workers 8) (in_field here field.Workers) (wanted.Positive 8) in
    let f1 = unless (are_clients x.clients) (in_field here field.Clients) (wanted.Positive CLIENT_LIMIT) in
    unmet-or d f1 (or_else f2 f3)
    (unmet-unless d _ _ _ (λ e. stands d (in_field here field.Clients) (get (codes "clients") d) (wanted.Positive CLIENT_LIMIT) (key-here d _ _ (top-key d field.Clients)) (not-positive CLIENT_LIMIT x.clients (get (codes "clients") d) has.clients e)))
    (unmet-or d f2 f3
    (unmet-unless d _ _ _ (λ e. stands d (in_field here field.Workers) (get (codes "workers") d) (wanted.Positive 8) (key-here d _ _ (top-key d field.Workers)) (not-positive 8 x.workers (get (codes "workers") d) has.workers e)))
    (unmet-unless d _ _ _ (λ e. stands d (in_field here field.Present) (get (codes "present") d) (wanted.Number x.clients) (key-here d _ _ (top-key d field.Present)) (past-or x.clients x.clients x.present (get (codes "present") d) has.present e))))

unmet-numbers-in : (d : Data) (x : PlanData) → ArePlanFields d x → Unmet d (number_fault_in x)
unmet-numbers-in d x has = unmet-or d (own_numbers x) (rows_fault plan.BadNumber x.typing) (unmet-own d x has) (unmet-rows d plan.BadNumber x.typing (typed d x has) (unmet-row-number d))

unmet-length-in : (d : Data) (x : PlanData) → ArePlanFields d x → Unmet d (length_fault_in x)
unmet-length-in d x has =
    unmet-or d (unless (nat_le (length x.start) START_LIMIT) (in_field here field.Start) wanted.StartText) (rows_fault plan.TooLong x.typing)
    (unmet-unless d _ _ _ (λ e. stands d (in_field here field.Start) (get (codes "start") d) wanted.StartText (key-here d _ _ (top-key d field.Start)) (too-long (get (codes "start") d) x.start has.start e)))
    (unmet-rows d plan.TooLong x.typing (typed d x has) (unmet-row-long d))

-- ---- plans

abbrev pub UnmetIn : Data → Option PlanRefusal → Type 0
UnmetIn d o = IfSome o (λ r. is_met r.fault.wanted (found_at r.fault.place d) ≡ false)

unmet-first : (d : Data) (shape number long many : Option Fault) → Unmet d shape → Unmet d number → Unmet d long → Unmet d many → UnmetIn d (first_kind shape number long many)
unmet-first d (Some f) number long many h i j k = h
unmet-first d None (Some f) long many h i j k = i
unmet-first d None None (Some f) many h i j k = j
unmet-first d None None None (Some f) h i j k = k
unmet-first d None None None None h i j k = tt

-- what stands at the place of the first fault is not what is wanted there
pub plan-unmet : (d : Data) → UnmetIn d (plan_fault d)
plan-unmet d = go (plan_data d) refl where
  go : (o : Option PlanData) → plan_data d ≡ o → UnmetIn d (of_plan (first_kind (plan_layout d) None None None) fault_of_data o)
  go None e = unmet-first d (plan_layout d) None None None (unmet-plan-layout d) tt tt tt
  go (Some x) e =
      let has = plan-fields d x e in
      unmet-first d (shape_fault_in x) (number_fault_in x) (length_fault_in x) (rows_fault plan.TooMany x.typing) (unmet-shape-in d x has) (unmet-numbers-in d x has) (unmet-length-in d x has)
      (unmet-rows d plan.TooMany x.typing (typed d x has) (unmet-row-many d))
