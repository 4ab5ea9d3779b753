-- A value has a first fault exactly where no trace's parts are read from it.
use Rattle.std.proofs.Common.{◌≡◌, ℕ, ◌+◌, List, [], ◌∷◌, length, ap, sym, ◌∙◌, cond, refl, arith, Bool, true, false, ◌&&◌, ◌||◌, ◌-◌, inl, inr}
use Rattle.std.specs.Prelude.{Option, Some, None, Err, is_some, is_none, option_map, option_and_then, nat_lt, ◌==◌, codes}
use Rattle.std.specs.List.{list_all}
use Rattle.std.proofs.lemmas.Bool.{cases_Bool, and_from, both_ways}
use Rattle.serde_json.specs.Data.{Data, Items, no_items, item}
use Rattle.serde_json.specs.Find.{as_array, as_object, get}
use Rattle.ot_isa.specs.declared.elements.Tag.{Tag}
use Rattle.ot_model.specs.declared.trace.Placed.{Placed}
use Rattle.ot_judge.specs.declared.fault.TraceFault.TheVariants.{BadShape, TraceFull}
use Rattle.ot_judge.specs.Making.{is_event, has_shape, is_full, named_again, trace_from, unless_again}
use Rattle.ot_json.specs.Fields.{all_of, items_at, items_or_none, keep_if, number_at}
use Rattle.ot_judge.specs.Reading.{EventData, TraceData, count_of, event_data, event_from, event_of, is_replicas, kind_of, number_at_most, placed_from, placed_of, shape_from, shape_of, tag_from, tag_of, tag_with, trace_data, trace_of_shape}
use Rattle.ot_judge.proofs.Spelled.{kept-some, map-some, then-some}
use Rattle.ot_model.specs.Trace.{EventView, TraceView}
use Rattle.ot_reasons.specs.declared.place.Fault.{Fault}
use Rattle.ot_reasons.specs.declared.place.Place.{Place}
use Rattle.ot_reasons.specs.declared.place.Wanted.{Wanted}
use Rattle.ot_reasons.specs.declared.place.Field.TheVariants as field
use Rattle.ot_reasons.specs.declared.place.Wanted.TheVariants as wanted
use Rattle.ot_reasons.specs.Places.{event_place, here, in_field, in_item, in_part}
use Rattle.ot_reasons.specs.Faults.{all_placed_fault, count_fault, count_items, counts_fault, each_fault, event_fault, events_fault, fields_fault, fit_fault, items_fault, keys_fault, layout_fault, number_fault, numbers_fault, of_array, of_event, of_trace, or_else, parts_fault, placed_fault, placed_parts, tag_fault, tag_parts, tags_fault, trace_fault, unless, wants}

-- ---- faults in a row

pub free-both : (a b : Option Fault) → is_none (or_else a b) ≡ (is_none a && is_none b)
free-both None b = refl
free-both (Some f) b = refl

pub free-unless : (met : Bool) (p : Place) (w : Wanted) → is_none (unless met p w) ≡ met
free-unless true p w = refl
free-unless false p w = refl

pub both : (a b a' b' : Bool) → a ≡ a' → b ≡ b' → (a && b) ≡ (a' && b')
both a b a' b' p q = rw (p, q) refl

-- two checks in a row
pub free-two : (a b : Option Fault) (a' b' : Bool) → is_none a ≡ a' → is_none b ≡ b' → is_none (or_else a b) ≡ (a' && b')
free-two a b a' b' p q = free-both a b ∙ both (is_none a) (is_none b) a' b' p q

-- ---- items

pub all-one : {A : Type 0} (o : Option A) (os : Option (List A)) → is_some (option_and_then (λ x. option_map (λ xs. x ∷ xs) os) o) ≡ (is_some o && is_some os)
all-one None os = refl
all-one (Some x) None = refl
all-one (Some x) (Some xs) = refl

pub each-free : {A : Type 0} (f : ℕ → Data → Option Fault) (g : Data → Option A) (k : ℕ) (ds : Items) → ((i : ℕ) (d : Data) → is_none (f i d) ≡ is_some (g d)) → is_none (each_fault f k ds) ≡ is_some (all_of g ds)
each-free f g k no_items each = refl
each-free f g k (item d ds) each =
    free-two (f k d) (each_fault f (k + 1) ds) (is_some (g d)) (is_some (all_of g ds)) (each k d) (each-free f g (k + 1) ds each)
    ∙ sym (all-one (g d) (all_of g ds))

pub some-same : {A : Type 0} (a b : A) → Some a ≡ Some b → a ≡ b
some-same a b h = cc

pub all-length : {A : Type 0} (f : Data → Option A) (ds : Items) (xs : List A) → all_of f ds ≡ Some xs → length xs ≡ count_items ds
all-length f no_items xs h = sym (ap (λ ys. length ys) (some-same [] xs h))
all-length f (item d ds) xs h =
    let first = then-some (λ x. option_map (λ ys. x ∷ ys) (all_of f ds)) (f d) xs h in
    let rest = map-some (λ ys. first.0 ∷ ys) (all_of f ds) xs first.2 in
    omega (arith, all-length f ds rest.0 rest.1, ap (λ ys. length ys) rest.2)

-- ---- numbers and tags

number-free : (most : ℕ) (p : Place) (d : Data) → is_none (number_fault most p d) ≡ is_some (number_at_most most d)
number-free most p d = free-unless (is_some (number_at_most most d)) p (wanted.Number most)

two-some : {A B C : Type 0} (f : A → B → C) (a : Option A) (b : Option B) → is_some (option_and_then (λ x. option_map (λ y. f x y) b) a) ≡ (is_some a && is_some b)
two-some f None b = refl
two-some f (Some x) None = refl
two-some f (Some x) (Some y) = refl

numbers-free : (p : Place) (o s : Data) → is_none (numbers_fault p o s) ≡ (is_some (number_at_most 65535 o) && is_some (number_at_most 4294967295 s))
numbers-free p o s =
    free-two (number_fault 65535 (in_part p 0) o) (number_fault 4294967295 (in_part p 1) s) (is_some (number_at_most 65535 o)) (is_some (number_at_most 4294967295 s))
    (number-free 65535 (in_part p 0) o) (number-free 4294967295 (in_part p 1) s)

parts-free : (p : Place) (ds : Items) → is_none (tag_parts p ds) ≡ is_some (tag_from ds)
parts-free p no_items = refl
parts-free p (item o no_items) = refl
parts-free p (item o (item s no_items)) =
    numbers-free p o s ∙ sym (two-some (λ (a b : ℕ). let t : Tag = record { origin = a; serial = b } in t) (number_at_most 65535 o) (number_at_most 4294967295 s))
parts-free p (item o (item s (item x xs))) = refl

pub tag-free : (p : Place) (d : Data) → is_none (tag_fault p d) ≡ is_some (tag_of d)
tag-free p d = go (as_array d) where
  go : (o : Option Items) → is_none (of_array (wants p wanted.Tag) (tag_parts p) o) ≡ is_some (option_and_then tag_from o)
  go None = refl
  go (Some ds) = parts-free p ds

triples-free : (p : Place) (ds : Items) → is_none (placed_parts p ds) ≡ is_some (placed_from ds)
triples-free p no_items = refl
triples-free p (item o no_items) = refl
triples-free p (item o (item s no_items)) = refl
triples-free p (item o (item s (item x no_items))) =
    free-two (numbers_fault p o s) (number_fault 4294967295 (in_part p 2) x) (is_some (tag_with o s)) (is_some (number_at_most 4294967295 x))
    (numbers-free p o s ∙ sym (two-some (λ (a b : ℕ). let t : Tag = record { origin = a; serial = b } in t) (number_at_most 65535 o) (number_at_most 4294967295 s)))
    (number-free 4294967295 (in_part p 2) x)
    ∙ sym (two-some (λ (t : Tag) (n : ℕ). let r : Placed = record { tag = t; place = n } in r) (tag_with o s) (number_at_most 4294967295 x))
triples-free p (item o (item s (item x (item y ys)))) = refl

pub placed-free : (p : Place) (d : Data) → is_none (placed_fault p d) ≡ is_some (placed_of d)
placed-free p d = go (as_array d) where
  go : (o : Option Items) → is_none (of_array (wants p wanted.Placed) (placed_parts p) o) ≡ is_some (option_and_then placed_from o)
  go None = refl
  go (Some ds) = triples-free p ds

-- ---- events

and-false : (b : Bool) → (b && false) ≡ false
and-false true = refl
and-false false = refl

keys-chain : (n : ℕ) (p : Place) (R : Option ℕ) (K : Option Bool) (S I D L : Option Items)
    → is_none (or_else (unless (is_some R) (in_field p field.Replica) (wanted.Number (n - 1)))
    (or_else (unless (is_some K) (in_field p field.Kind) wanted.Kind)
    (or_else (unless (is_some S) (in_field p field.Seen) (wanted.Counts n))
    (or_else (unless (is_some I) (in_field p field.Insert) wanted.Array)
    (or_else (unless (is_some D) (in_field p field.Delete) wanted.Array)
    (unless (is_some L) (in_field p field.List) wanted.Array))))))
    ≡ is_some (option_and_then (λ replica. option_and_then (λ edit. option_and_then (λ seen. option_and_then (λ inserted. option_and_then (λ deleted.
    option_map (λ list. let x : EventData = record { replica = replica; edit = edit; seen = seen; inserted = inserted; deleted = deleted; list = list } in x) L) D) I) S) K) R)
keys-chain n p None K S I D L = refl
keys-chain n p (Some r) None S I D L = refl
keys-chain n p (Some r) (Some k) None I D L = refl
keys-chain n p (Some r) (Some k) (Some s) None D L = refl
keys-chain n p (Some r) (Some k) (Some s) (Some i) None L = refl
keys-chain n p (Some r) (Some k) (Some s) (Some i) (Some d) None = refl
keys-chain n p (Some r) (Some k) (Some s) (Some i) (Some d) (Some l) = refl

keys-free : (n : ℕ) (p : Place) (d : Data) → is_none (keys_fault n p d) ≡ is_some (event_data d)
keys-free n p d =
    keys-chain n p (number_at (codes "replica") d) (kind_of d) (items_at (codes "seen") d) (items_or_none (get (codes "insert") d)) (items_or_none (get (codes "delete") d)) (items_at (codes "list") d)

-- whether the fields fit
abbrev fits : ℕ → EventData → Bool
fits n x = nat_lt x.replica n && (count_items x.seen == n) && (x.edit || ((count_items x.inserted == 0) && (count_items x.deleted == 0)))

shuffled : (a b e i d : Bool) → (a && (b && ((e || i) && (e || d)))) ≡ ((a && b) && (e || (i && d)))
shuffled false b e i d = refl
shuffled true false e i d = refl
shuffled true true true i d = refl
shuffled true true false i d = refl

fit-free : (n : ℕ) (p : Place) (x : EventData) → is_none (fit_fault n p x) ≡ fits n x
fit-free n p x =
    let a : Bool = nat_lt x.replica n in
    let b : Bool = count_items x.seen == n in
    let i : Bool = count_items x.inserted == 0 in
    let d : Bool = count_items x.deleted == 0 in
    let f1 : Option Fault = unless a (in_field p field.Replica) (wanted.Number (n - 1)) in
    let f2 : Option Fault = unless b (in_field p field.Seen) (wanted.Counts n) in
    let f3 : Option Fault = unless (x.edit || i) (in_field p field.Insert) wanted.Nothing in
    let f4 : Option Fault = unless (x.edit || d) (in_field p field.Delete) wanted.Nothing in
    free-two f1 (or_else f2 (or_else f3 f4)) a (b && ((x.edit || i) && (x.edit || d))) (free-unless a (in_field p field.Replica) (wanted.Number (n - 1)))
    (free-two f2 (or_else f3 f4) b ((x.edit || i) && (x.edit || d)) (free-unless b (in_field p field.Seen) (wanted.Counts n))
    (free-two f3 f4 (x.edit || i) (x.edit || d) (free-unless (x.edit || i) (in_field p field.Insert) wanted.Nothing) (free-unless (x.edit || d) (in_field p field.Delete) wanted.Nothing)))
    ∙ shuffled a b x.edit i d

four-some : (replica : ℕ) (edit : Bool) (o1 : Option (List ℕ)) (o2 : Option (List Placed)) (o3 o4 : Option (List Tag))
    → is_some (option_and_then (λ seen. option_and_then (λ inserted. option_and_then (λ deleted.
    option_map (λ list. let e : EventView = record { replica = replica; edit = edit; seen = seen; inserted = inserted; deleted = deleted; list = list } in e) o4) o3) o2) o1)
    ≡ (is_some o1 && (is_some o2 && (is_some o3 && is_some o4)))
four-some replica edit None o2 o3 o4 = refl
four-some replica edit (Some a) None o3 o4 = refl
four-some replica edit (Some a) (Some b) None o4 = refl
four-some replica edit (Some a) (Some b) (Some c) None = refl
four-some replica edit (Some a) (Some b) (Some c) (Some d) = refl

tags-free : (p : Place) (ds : Items) → is_none (tags_fault p ds) ≡ is_some (all_of tag_of ds)
tags-free p ds = each-free (λ k. tag_fault (in_item p k)) tag_of 0 ds (λ k d. tag-free (in_item p k) d)

all-placed-free : (p : Place) (ds : Items) → is_none (all_placed_fault p ds) ≡ is_some (all_of placed_of ds)
all-placed-free p ds = each-free (λ k. placed_fault (in_item p k)) placed_of 0 ds (λ k d. placed-free (in_item p k) d)

counts-free : (p : Place) (ds : Items) → is_none (counts_fault p ds) ≡ is_some (all_of count_of ds)
counts-free p ds = each-free (λ k. count_fault (in_item p k)) count_of 0 ds (λ k d. number-free 4294967295 (in_item p k) d)

items-free : (p : Place) (x : EventData) → is_none (items_fault p x) ≡ is_some (event_from x)
items-free p x =
    let f1 : Option Fault = counts_fault (in_field p field.Seen) x.seen in
    let f2 : Option Fault = all_placed_fault (in_field p field.Insert) x.inserted in
    let f3 : Option Fault = tags_fault (in_field p field.Delete) x.deleted in
    let f4 : Option Fault = tags_fault (in_field p field.List) x.list in
    let b1 : Bool = is_some (all_of count_of x.seen) in
    let b2 : Bool = is_some (all_of placed_of x.inserted) in
    let b3 : Bool = is_some (all_of tag_of x.deleted) in
    let b4 : Bool = is_some (all_of tag_of x.list) in
    free-two f1 (or_else f2 (or_else f3 f4)) b1 (b2 && (b3 && b4)) (counts-free (in_field p field.Seen) x.seen)
    (free-two f2 (or_else f3 f4) b2 (b3 && b4) (all-placed-free (in_field p field.Insert) x.inserted)
    (free-two f3 f4 b3 b4 (tags-free (in_field p field.Delete) x.deleted) (tags-free (in_field p field.List) x.list)))
    ∙ sym (four-some x.replica x.edit (all_of count_of x.seen) (all_of placed_of x.inserted) (all_of tag_of x.deleted) (all_of tag_of x.list))

four-lengths : (a b c : ℕ) (edit : Bool) (replica replicas a' b' c' : ℕ) → a ≡ a' → b ≡ b' → c ≡ c'
    → (nat_lt replica replicas && (a == replicas) && (edit || ((b == 0) && (c == 0)))) ≡ (nat_lt replica replicas && (a' == replicas) && (edit || ((b' == 0) && (c' == 0))))
four-lengths a b c edit replica replicas a' b' c' p q r = rw (p, q, r) refl

fitting : (n : ℕ) (x : EventData) (e : EventView) → event_from x ≡ Some e → is_event n e ≡ fits n x
fitting n x e h =
    let one = then-some _ (all_of count_of x.seen) e h in
    let two = then-some _ (all_of placed_of x.inserted) e one.2 in
    let three = then-some _ (all_of tag_of x.deleted) e two.2 in
    let four = map-some _ (all_of tag_of x.list) e three.2 in
    ap (is_event n) (sym four.2)
    ∙ four-lengths (length one.0) (length two.0) (length three.0) x.edit x.replica n _ _ _
    (all-length count_of x.seen one.0 one.1) (all-length placed_of x.inserted two.0 two.1) (all-length tag_of x.deleted three.0 three.1)

kept : (b : Bool) (e : EventView) → is_some (cond b (Some e) None) ≡ (b && true)
kept true e = refl
kept false e = refl

kept-event : (n : ℕ) (x : EventData) → is_some (keep_if (is_event n) (event_from x)) ≡ (fits n x && is_some (event_from x))
kept-event n x = go (event_from x) refl where
  go : (o : Option EventView) → event_from x ≡ o → is_some (keep_if (is_event n) o) ≡ (fits n x && is_some o)
  go None h = sym (and-false (fits n x))
  go (Some e) h = kept (is_event n e) e ∙ ap (λ b. b && true) (fitting n x e h)

pub event-free : (n : ℕ) (p : Place) (d : Data) → is_none (event_fault n p d) ≡ is_some (event_of n d)
event-free n p d = go (event_data d) refl where
  go : (o : Option EventData) → event_data d ≡ o → is_none (of_event (fields_fault n p d) (λ x. or_else (fit_fault n p x) (items_fault p x)) o) ≡ is_some (keep_if (is_event n) (option_and_then event_from o))
  go None h =
      free-both (unless (is_some (as_object d)) p wanted.Object) (keys_fault n p d)
      ∙ ap (λ b. is_none (unless (is_some (as_object d)) p wanted.Object) && b) (keys-free n p d ∙ ap (λ o. is_some o) h)
      ∙ and-false (is_none (unless (is_some (as_object d)) p wanted.Object))
  go (Some x) h = free-two (fit_fault n p x) (items_fault p x) (fits n x) (is_some (event_from x)) (fit-free n p x) (items-free p x) ∙ sym (kept-event n x)

-- ---- traces

roots-chain : (R : Option ℕ) (S E : Option Items)
    → is_none (or_else (unless (is_some R) (in_field here field.Replicas) (wanted.Positive 65))
    (or_else (unless (is_some S) (in_field here field.Start) wanted.Array) (unless (is_some E) (in_field here field.Events) wanted.Array)))
    ≡ is_some (option_and_then (λ replicas. option_and_then (λ start. option_map (λ events. let x : TraceData = record { replicas = replicas; start = start; events = events } in x) E) S) R)
roots-chain None S E = refl
roots-chain (Some r) None E = refl
roots-chain (Some r) (Some s) None = refl
roots-chain (Some r) (Some s) (Some e) = refl

roots-free : (d : Data) → is_none (parts_fault d) ≡ is_some (trace_data d)
roots-free d = roots-chain (keep_if is_replicas (number_at (codes "replicas") d)) (items_at (codes "start") d) (items_at (codes "events") d)

whole-free : (x : TraceData) → is_none (or_else (tags_fault (in_field here field.Start) x.start) (events_fault x.replicas x.events)) ≡ is_some (shape_from x)
whole-free x =
    free-two (tags_fault (in_field here field.Start) x.start) (events_fault x.replicas x.events) (is_some (all_of tag_of x.start)) (is_some (all_of (event_of x.replicas) x.events))
    (tags-free (in_field here field.Start) x.start)
    (each-free (λ k. event_fault x.replicas (event_place k)) (event_of x.replicas) 0 x.events (λ k d. event-free x.replicas (event_place k) d))
    ∙ sym (two-some (λ (s : List Tag) (es : List EventView). let t : TraceView = record { replicas = x.replicas; start = s; events = es } in t) (all_of tag_of x.start) (all_of (event_of x.replicas) x.events))

-- there is a first fault exactly where no parts of a trace are
pub exact : (d : Data) → is_none (trace_fault d) ≡ is_some (shape_of d)
exact d = go (trace_data d) refl where
  go : (o : Option TraceData) → trace_data d ≡ o → is_none (of_trace (layout_fault d) (λ x. or_else (tags_fault (in_field here field.Start) x.start) (events_fault x.replicas x.events)) o) ≡ is_some (option_and_then shape_from o)
  go None h =
      free-both (unless (is_some (as_object d)) here wanted.Object) (parts_fault d)
      ∙ ap (λ b. is_none (unless (is_some (as_object d)) here wanted.Object) && b) (roots-free d ∙ ap (λ o. is_some o) h)
      ∙ and-false (is_none (unless (is_some (as_object d)) here wanted.Object))
  go (Some x) h = whole-free x

-- ---- parts of a right shape

all-fit : (n : ℕ) (ds : Items) (es : List EventView) → all_of (event_of n) ds ≡ Some es → list_all (is_event n) es ≡ true
all-fit n no_items es h = ap (λ ys. list_all (is_event n) ys) (sym (some-same [] es h))
all-fit n (item d ds) es h =
    let first = then-some (λ x. option_map (λ ys. x ∷ ys) (all_of (event_of n) ds)) (event_of n d) es h in
    let rest = map-some (λ ys. first.0 ∷ ys) (all_of (event_of n) ds) es first.2 in
    let here = kept-some (is_event n) (option_and_then event_from (event_data d)) first.0 first.1 in
    ap (λ ys. list_all (is_event n) ys) (sym rest.2) ∙ and_from _ _ here.1 (all-fit n ds rest.0 rest.1)

in_range : (n : ℕ) → is_replicas n ≡ true → (nat_lt 0 n && nat_lt n 66) ≡ true
in_range n h = elim (cases_Bool (nat_lt 0 n)) [
  | inl low ↦ and_from _ _ low (sym (ap (λ (b : Bool). cond b (nat_lt n 66) false) low) ∙ h)
  | inr zero ↦ absurd (both_ways false refl (sym (ap (λ (b : Bool). cond b (nat_lt n 66) false) zero) ∙ h))
]

shape-fits : (x : TraceData) (t : TraceView) → is_replicas x.replicas ≡ true → shape_from x ≡ Some t → has_shape t ≡ true
shape-fits x t range h =
    let start = then-some _ (all_of tag_of x.start) t h in
    let events = map-some _ (all_of (event_of x.replicas) x.events) t start.2 in
    ap has_shape (sym events.2) ∙ and_from _ _ (in_range x.replicas range) (all-fit x.replicas x.events events.0 events.1)

pub data-range : (d : Data) (x : TraceData) → trace_data d ≡ Some x → is_replicas x.replicas ≡ true
data-range d x h =
    let replicas = then-some _ (keep_if is_replicas (number_at (codes "replicas") d)) x h in
    let start = then-some _ (items_at (codes "start") d) x replicas.2 in
    let events = map-some _ (items_at (codes "events") d) x start.2 in
    let kept = kept-some is_replicas (number_at (codes "replicas") d) replicas.0 replicas.1 in
    ap (λ (y : TraceData). is_replicas y.replicas) (sym events.2) ∙ kept.1

again-good : (t : TraceView) (o : Option Tag) → unless_again t o ≡ Err BadShape → ⊥
again-good t None h = let clash = h in cc
again-good t (Some a) h = let clash = h in cc

fits-good : (t : TraceView) → has_shape t ≡ true → trace_from t ≡ Err BadShape → ⊥
fits-good t shape h =
    let v = unless_again t (named_again t) in
    let rest = sym (ap (λ (b : Bool). cond b (cond (is_full t) (Err TraceFull) v) (Err BadShape)) shape) ∙ h in
    elim (cases_Bool (is_full t)) [
      | inl full ↦ let clash = sym (ap (λ (b : Bool). cond b (Err TraceFull) v) full) ∙ rest in cc
      | inr room ↦ again-good t (named_again t) (sym (ap (λ (b : Bool). cond b (Err TraceFull) v) room) ∙ rest)
    ]

shaped-good : (d : Data) (o : Option TraceData) → trace_data d ≡ o → is_some (option_and_then shape_from o) ≡ true → trace_of_shape (option_and_then shape_from o) ≡ Err BadShape → ⊥
shaped-good d None h some bad = both_ways false refl some
shaped-good d (Some x) h some bad = go (shape_from x) refl some bad where
  go : (s : Option TraceView) → shape_from x ≡ s → is_some s ≡ true → trace_of_shape s ≡ Err BadShape → ⊥
  go None e some bad = both_ways false refl some
  go (Some t) e some bad = fits-good t (shape-fits x t (data-range d x h) e) bad

-- where there is no first fault, the shape is right
pub no-fault-good : (d : Data) → trace_fault d ≡ None → trace_of_shape (shape_of d) ≡ Err BadShape → ⊥
no-fault-good d none bad = shaped-good d (trace_data d) refl (sym (exact d) ∙ ap (λ o. is_none o) none) bad
