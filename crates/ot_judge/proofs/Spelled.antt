-- What the fields of a JSON value say of the trace that it spells.
use Rattle.std.proofs.Common.{◌≡◌, ◌≢◌, ℕ, ◌-◌, ◌^◌, ◌<◌, ◌≤◌, ◌⊎◌, List, [], ◌∷◌, length, ap, sym, ◌∙◌, cond, arith, Bool, true, false, ◌&&◌, ◌||◌, min, refl, inl, inr}
use Rattle.std.specs.Prelude.{Option, Some, None, Err, is_some, option_map, option_and_then, nat_lt, ◌==◌}
use Rattle.std.specs.Option.{IsSomeAnd}
use Rattle.std.specs.List.{list_all}
use Rattle.std.proofs.lemmas.Bool.{cases_Bool, and_from, lt-ltb, le-ltb, both_ways}
use Rattle.serde_json.specs.Data.{Data}
use Rattle.serde_json.specs.View.{view, items_view}
use Rattle.serde_json.specs.declared.value.Value.{Value}
use Rattle.ot_isa.specs.declared.elements.Tag.{Tag}
use Rattle.ot_judge.specs.declared.fault.TraceFault.TheVariants.{BadShape, TraceFull}
use Rattle.ot_judge.specs.declared.layout.Fields.{Fields}
use Rattle.ot_judge.specs.declared.layout.Layout.{Layout}
use Rattle.ot_model.specs.Trace.{EventView, TraceView}
use Rattle.ot_judge.specs.Making.{is_event, has_shape, is_full, entries, unless_again, named_again, IsSized}
use Rattle.ot_json.specs.Fields.{keep_if, all_of}
use Rattle.ot_judge.specs.Reading.{tag_from, tag_of, placed_from, placed_of, count_of, event_from, event_of, event_data, EventData, trace_data, shape_from, shape_of, trace_of_shape, is_replicas}
use Rattle.ot_judge.specs.Layout.{fields_view, layout_view, is_fitting, entries_of}

pub tag_from-none : (vs : List Value) → length vs ≢ 2 → None ≡ tag_from (items_view vs)
tag_from-none [] h = refl
tag_from-none (o ∷ []) h = refl
tag_from-none (o ∷ s ∷ []) h = absurd (h refl)
tag_from-none (o ∷ s ∷ x ∷ xs) h = refl

pub placed_from-none : (vs : List Value) → length vs ≢ 3 → None ≡ placed_from (items_view vs)
placed_from-none [] h = refl
placed_from-none (o ∷ []) h = refl
placed_from-none (o ∷ s ∷ []) h = refl
placed_from-none (o ∷ s ∷ p ∷ []) h = absurd (h refl)
placed_from-none (o ∷ s ∷ p ∷ x ∷ xs) h = refl

-- ---- steps that give something

some-same : {A : Type 0} (a b : A) → Some a ≡ Some b → a ≡ b
some-same a b h = cc

pub then-some : {A B : Type 0} (f : A → Option B) (o : Option A) (y : B) → option_and_then f o ≡ Some y → (x : A) × (o ≡ Some x) × (f x ≡ Some y)
then-some f None y h = absurd (let clash = h in cc)
then-some f (Some x) y h = (x, refl, h)

pub map-some : {A B : Type 0} (f : A → B) (o : Option A) (y : B) → option_map f o ≡ Some y → (x : A) × (o ≡ Some x) × (f x ≡ y)
map-some f None y h = absurd (let clash = h in cc)
map-some f (Some x) y h = (x, refl, some-same (f x) y h)

pub is-some : {A : Type 0} (o : Option A) → is_some o ≡ true → (x : A) × (o ≡ Some x)
is-some None h = absurd (both_ways false refl h)
is-some (Some x) h = (x, refl)

pub kept-some : {A : Type 0} (p : A → Bool) (o : Option A) (y : A) → keep_if p o ≡ Some y → (o ≡ Some y) × (p y ≡ true)
kept-some p None y h = absurd (let clash = h in cc)
kept-some p (Some x) y h = elim (cases_Bool (p x)) [
  | inl met ↦
      let same = some-same x y (sym (ap (λ b. cond b (Some x) None) met) ∙ h) in
      (ap (λ z. Some z) same, ap p (sym same) ∙ met)
  | inr not_met ↦ absurd (let clash = sym (ap (λ b. cond b (Some x) None) not_met) ∙ h in cc)
]

pub all_of-length : {A : Type 0} (f : Data → Option A) (vs : List Value) (xs : List A) → all_of f (items_view vs) ≡ Some xs → length xs ≡ length vs
all_of-length f [] xs h = sym (ap (λ ys. length ys) (some-same [] xs h))
all_of-length f (v ∷ vs) xs h =
    let first = then-some (λ x. option_map (λ ys. x ∷ ys) (all_of f (items_view vs))) (f (view v)) xs h in
    let rest = map-some (λ ys. first.0 ∷ ys) (all_of f (items_view vs)) xs first.2 in
    omega (arith, all_of-length f vs rest.0 rest.1, ap (λ ys. length ys) rest.2)

-- each event that is read passes the test
pub all-events : (replicas : ℕ) (vs : List Value) (xs : List EventView) → all_of (event_of replicas) (items_view vs) ≡ Some xs → list_all (is_event replicas) xs ≡ true
all-events replicas [] xs h = ap (λ ys. list_all (is_event replicas) ys) (sym (some-same [] xs h))
all-events replicas (v ∷ vs) xs h =
    let first = then-some (λ x. option_map (λ ys. x ∷ ys) (all_of (event_of replicas) (items_view vs))) (event_of replicas (view v)) xs h in
    let rest = map-some (λ ys. first.0 ∷ ys) (all_of (event_of replicas) (items_view vs)) xs first.2 in
    let here = kept-some (is_event replicas) (option_and_then event_from (event_data (view v))) first.0 first.1 in
    ap (λ ys. list_all (is_event replicas) ys) (sym rest.2) ∙ and_from _ _ here.1 (all-events replicas vs rest.0 rest.1)

-- ---- events

four-lengths : (a b c : ℕ) (edit : Bool) (replica replicas a' b' c' : ℕ) → a ≡ a' → b ≡ b' → c ≡ c'
    → (nat_lt replica replicas && (a == replicas) && (edit || ((b == 0) && (c == 0)))) ≡ (nat_lt replica replicas && (a' == replicas) && (edit || ((b' == 0) && (c' == 0))))
four-lengths a b c edit replica replicas a' b' c' p q r = rw (p, q, r) refl

-- the event of fields passes the test where the fields do
pub fitting : (replicas : ℕ) (x : Fields) (e : EventView) → event_from (fields_view x) ≡ Some e → (is_event replicas e ≡ is_fitting replicas x) × (length e.list ≡ length x.list.now)
fitting replicas x e h =
    let y : EventData = fields_view x in
    let one = then-some _ (all_of count_of y.seen) e h in
    let two = then-some _ (all_of placed_of y.inserted) e one.2 in
    let three = then-some _ (all_of tag_of y.deleted) e two.2 in
    let four = map-some _ (all_of tag_of y.list) e three.2 in
    let seen = all_of-length count_of x.seen.now one.0 one.1 in
    let inserted = all_of-length placed_of x.inserted.now two.0 two.1 in
    let deleted = all_of-length tag_of x.deleted.now three.0 three.1 in (
      ap (is_event replicas) (sym four.2) ∙ four-lengths (length one.0) (length two.0) (length three.0) x.edit x.replica replicas _ _ _ seen inserted deleted,
      ap (λ (z : EventView). length z.list) (sym four.2) ∙ all_of-length tag_of x.list.now four.0 four.1,
    )

pub event-fit : (replicas : ℕ) (d : Data) (x : Fields) → Some (fields_view x) ≡ event_data d → is_fitting replicas x ≡ true → event_from (fields_view x) ≡ event_of replicas d
event-fit replicas d x is fit =
    go (event_from (fields_view x)) refl ∙ ap (λ o. keep_if (is_event replicas) (option_and_then event_from o)) is where
      go : (o : Option EventView) → o ≡ event_from (fields_view x) → event_from (fields_view x) ≡ keep_if (is_event replicas) (event_from (fields_view x))
      go None h = rw (← h) refl
      go (Some e) h = rw (← h) (sym (ap (λ (b : Bool). cond b (Some e) None) ((fitting replicas x e (sym h)).0 ∙ fit)))

pub event-unfit : (replicas : ℕ) (d : Data) (x : Fields) → Some (fields_view x) ≡ event_data d → is_fitting replicas x ≡ false → None ≡ event_of replicas d
event-unfit replicas d x is unfit =
    go (event_from (fields_view x)) refl ∙ ap (λ o. keep_if (is_event replicas) (option_and_then event_from o)) is where
      go : (o : Option EventView) → o ≡ event_from (fields_view x) → None ≡ keep_if (is_event replicas) (event_from (fields_view x))
      go None h = rw (← h) refl
      go (Some e) h = rw (← h) (sym (ap (λ (b : Bool). cond b (Some e) None) ((fitting replicas x e (sym h)).0 ∙ unfit)))

pub length-unfit : (replicas : ℕ) (d : Data) (x : Fields) → Some (fields_view x) ≡ event_data d → is_fitting replicas x ≡ false → None ≡ option_map (λ (e : EventView). length e.list) (event_of replicas d)
length-unfit replicas d x is unfit = ap (option_map (λ (e : EventView). length e.list)) (event-unfit replicas d x is unfit)

pub length-fit : (replicas : ℕ) (d : Data) (x : Fields) → Some (fields_view x) ≡ event_data d → is_fitting replicas x ≡ true → is_some (event_from (fields_view x)) ≡ true → Some (length x.list.now) ≡ option_map (λ (e : EventView). length e.list) (event_of replicas d)
length-fit replicas d x is fit some =
    let made = is-some (event_from (fields_view x)) some in
    ap (λ n. Some n) (sym (fitting replicas x made.0 made.1).1)
    ∙ ap (option_map (λ (e : EventView). length e.list)) (sym made.1 ∙ event-fit replicas d x is fit)

pub length-unread : (replicas : ℕ) (d : Data) (x : Fields) → Some (fields_view x) ≡ event_data d → is_some (event_from (fields_view x)) ≡ false → None ≡ option_map (λ (e : EventView). length e.list) (event_of replicas d)
length-unread replicas d x is none =
    go (event_from (fields_view x)) none ∙ ap (λ o. option_map (λ (e : EventView). length e.list) (keep_if (is_event replicas) (option_and_then event_from o))) is where
      go : (o : Option EventView) → is_some o ≡ false → None ≡ option_map (λ (e : EventView). length e.list) (keep_if (is_event replicas) o)
      go None h = refl
      go (Some e) h = absurd (both_ways true h refl)

-- ---- traces

-- the parts that fields spell, with how many list entries they have
pub record IsShaped (x : Layout) (n : ℕ) : Type 0 where
  pub trace : TraceView
  pub is : shape_from (layout_view x) ≡ Some trace
  pub shape : has_shape trace ≡ true
  pub long : length trace.events ≡ length x.events.now
  pub size : min (entries trace.events) (2 ^ 64 - 1) ≡ n

replicas-range : (n : ℕ) → is_replicas n ≡ true → (nat_lt 0 n && nat_lt n 66) ≡ true
replicas-range n h = elim (cases_Bool (nat_lt 0 n)) [
  | inl low ↦ and_from _ _ low (sym (ap (λ (b : Bool). cond b (nat_lt n 66) false) low) ∙ h)
  | inr zero ↦ absurd (both_ways false refl (sym (ap (λ (b : Bool). cond b (nat_lt n 66) false) zero) ∙ h))
]

pub shaped : (x : Layout) (n : ℕ) → is_replicas x.replicas ≡ true → is_some (all_of tag_of (items_view x.start.now)) ≡ true → Some n ≡ option_map (λ k. min k (2 ^ 64 - 1)) (entries_of x.replicas (items_view x.events.now)) → IsShaped x n
shaped x n range tags sizes =
    let start = is-some (all_of tag_of (items_view x.start.now)) tags in
    let size = map-some (λ k. min k (2 ^ 64 - 1)) (entries_of x.replicas (items_view x.events.now)) n (sym sizes) in
    let events = map-some entries (all_of (event_of x.replicas) (items_view x.events.now)) size.0 size.1 in
    let made : List Tag → List EventView → TraceView = λ s es. record { replicas = x.replicas; start = s; events = es } in
    record {
      trace = made start.0 events.0;
      is = ap (λ o. option_and_then (λ s. option_map (λ es. made s es) (all_of (event_of x.replicas) (items_view x.events.now))) o) start.1
          ∙ ap (λ o. option_map (λ es. made start.0 es) o) events.1;
      shape = and_from _ _ (replicas-range x.replicas range) (all-events x.replicas x.events.now events.0 events.1);
      long = all_of-length (event_of x.replicas) x.events.now events.0 events.1;
      size = ap (λ k. min k (2 ^ 64 - 1)) events.2 ∙ size.2;
    }

or-left : (a b : Bool) → a ≡ true → (a || b) ≡ true
or-left a b h = ap (λ (x : Bool). x || b) h

or-right : (a b : Bool) → b ≡ true → (a || b) ≡ true
or-right true b h = refl
or-right false b h = h

or-none : (a b : Bool) → a ≡ false → b ≡ false → (a || b) ≡ false
or-none a b p q = rw (p, q) refl

abbrev pub IsPast : ℕ → ℕ → Type 0
IsPast long n = (4000 < long) ⊎ (4000000 < n)

full-past : (t : TraceView) (n : ℕ) → min (entries t.events) (2 ^ 64 - 1) ≡ n → IsPast (length t.events) n → is_full t ≡ true
full-past t n size (inl h) = or-left (nat_lt 4000 (length t.events)) (nat_lt 4000000 (entries t.events)) (lt-ltb 4000 (length t.events) h)
full-past t n size (inr h) = or-right (nat_lt 4000 (length t.events)) (nat_lt 4000000 (entries t.events)) (lt-ltb 4000000 (entries t.events) (omega (arith, h, size)))

-- too many events or entries are a full trace
pub past-limits : (d : Data) (x : Layout) (n : ℕ) → Some (layout_view x) ≡ trace_data d → IsShaped x n → IsPast (length x.events.now) n → trace_of_shape (shape_of d) ≡ Err TraceFull
past-limits d x n is s past =
    let full = full-past s.trace n s.size (along past) in
    let v = unless_again s.trace (named_again s.trace) in
    ap (λ o. trace_of_shape (option_and_then shape_from o)) (sym is) ∙ ap trace_of_shape s.is
    ∙ ap (λ (b : Bool). cond b (cond (is_full s.trace) (Err TraceFull) v) (Err BadShape)) s.shape
    ∙ ap (λ (b : Bool). cond b (Err TraceFull) v) full where
      along : IsPast (length x.events.now) n → IsPast (length s.trace.events) n
      along (inl h) = inl (omega (arith, h, s.long))
      along (inr h) = inr h

pub within-limits : (x : Layout) (n : ℕ) → IsShaped x n → length x.events.now ≤ 4000 → n ≤ 4000000 → IsSomeAnd (shape_from (layout_view x)) IsSized
within-limits x n s few small = rw s.is (record {
  shape = s.shape;
  room = or-none _ _ (le-ltb 4000 (length s.trace.events) (omega (arith, few, s.long))) (le-ltb 4000000 (entries s.trace.events) (omega (arith, small, s.size)));
})
