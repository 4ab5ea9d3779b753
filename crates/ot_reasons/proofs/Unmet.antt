-- The value at the place of a trace's first fault is not what is wanted there.
use Rattle.std.proofs.Common.{◌≡◌, ◌≢◌, ℕ, suc, ◌+◌, ◌-◌, ◌<◌, ap, ◌∙◌, subst, cond, refl, arith, Bool, true, false, ◌&&◌, ◌||◌, ◌==◌}
use Rattle.std.specs.Prelude.{IfSome, Option, Some, None, is_some, option_and_then, option_map, nat_le, nat_lt, codes}
use Rattle.std.proofs.lemmas.Bool.{false_from_ne_true, leb-true, ltb-false, ltb-true, ne_eqb, or_parts}
use Rattle.serde_json.specs.Data.{Data, Items, no_items, item}
use Rattle.serde_json.specs.Find.{as_array, as_number, as_object, as_str, as_u64, at, get, get_item}
use Rattle.ot_json.specs.Fields.{items_at, items_or_none, keep_if, number_at}
use Rattle.ot_judge.specs.Reading.{EventData, TraceData, event_data, is_replicas, kind_from, kind_of, number_at_most, trace_data}
use Rattle.ot_reasons.specs.declared.place.Fault.{Fault}
use Rattle.ot_reasons.specs.declared.place.Place.{Place}
use Rattle.ot_reasons.specs.declared.place.Wanted.{Wanted}
use Rattle.ot_reasons.specs.declared.place.Field.TheVariants as field
use Rattle.ot_reasons.specs.declared.place.Wanted.TheVariants as wanted
use Rattle.ot_reasons.specs.Places.{event_if, event_place, found_at, here, in_field, in_item, in_part}
use Rattle.ot_reasons.specs.Faults.{all_placed_fault, count_items, counts_fault, each_fault, event_fault, events_fault, fields_fault, fit_fault, items_fault, keys_fault, layout_fault, number_fault, numbers_fault, of_array, of_event, of_trace, or_else, parts_fault, placed_fault, placed_parts, read_fault, tag_fault, tag_parts, tags_fault, trace_fault, unless, wants}
use Rattle.ot_reasons.specs.Satisfied.{has_count, is_met, is_positive}
use Rattle.ot_reasons.proofs.Exact.{data-range}
use Rattle.ot_reasons.proofs.Standing.{AtItem, AtPart, HasItems, UnderKey, array-item, at-top, event-key, event-whole, into-part, item-here, items-there, key-here, no-items, part-here, top-key}

-- ---- faults in a row

abbrev pub Unmet : Data → Option Fault → Type 0
Unmet d o = IfSome o (λ f. is_met f.wanted (found_at f.place d) ≡ false)

pub unmet-unless : (d : Data) (met : Bool) (p : Place) (w : Wanted) → (met ≡ false → is_met w (found_at p d) ≡ false) → Unmet d (unless met p w)
unmet-unless d true p w h = tt
unmet-unless d false p w h = h refl

pub unmet-or : (d : Data) (a b : Option Fault) → Unmet d a → Unmet d b → Unmet d (or_else a b)
unmet-or d None b g h = h
unmet-or d (Some f) b g h = g

pub unmet-each : (d : Data) (f : ℕ → Data → Option Fault) (k : ℕ) (ds : Items) → ((i : ℕ) (x : Data) → get_item i ds ≡ Some x → Unmet d (f (k + i) x)) → Unmet d (each_fault f k ds)
unmet-each d f k no_items h = tt
unmet-each d f k (item x xs) h =
    let first : k + 0 ≡ k = omega arith in
    unmet-or d (f k x) (each_fault f (k + 1) xs) (subst (λ (n : ℕ). Unmet d (f n x)) first (h 0 x refl))
    (unmet-each d f (k + 1) xs (λ i y e.
    let later : k + suc i ≡ (k + 1) + i = omega arith in
    subst (λ (n : ℕ). Unmet d (f n y)) later (h (suc i) y e)))

-- the same from item 0 on
pub unmet-items : (d : Data) (f : ℕ → Data → Option Fault) (ds : Items) → ((i : ℕ) (x : Data) → get_item i ds ≡ Some x → Unmet d (f i x)) → Unmet d (each_fault f 0 ds)
unmet-items d f ds h = unmet-each d f 0 ds (λ i x e.
    let same : i ≡ 0 + i = omega arith in
    subst (λ (n : ℕ). Unmet d (f n x)) same (h i x e))

-- ---- numbers and tags

-- where this stands at a place, what is wanted there is what is wanted of it
pub stands : (d : Data) (p : Place) (o : Option Data) (w : Wanted) → found_at p d ≡ o → is_met w o ≡ false → is_met w (found_at p d) ≡ false
stands d p o w is e = ap (is_met w) is ∙ e

pub unmet-number : (d : Data) (most : ℕ) (p : Place) (x : Data) → found_at p d ≡ Some x → Unmet d (number_fault most p x)
unmet-number d most p x is = unmet-unless d (is_some (number_at_most most x)) p (wanted.Number most) (λ e. stands d p (Some x) (wanted.Number most) is e)

unmet-numbers : (d : Data) (p : Place) (o s : Data) → AtPart d (in_part p 0) o → AtPart d (in_part p 1) s → Unmet d (numbers_fault p o s)
unmet-numbers d p o s first second =
    unmet-or d (number_fault 65535 (in_part p 0) o) (number_fault 4294967295 (in_part p 1) s)
    (unmet-number d 65535 (in_part p 0) o (part-here d (in_part p 0) o first))
    (unmet-number d 4294967295 (in_part p 1) s (part-here d (in_part p 1) s second))

-- an array with another number of items
other-count : (n : ℕ) (o : Option Items) (ds : Items) → o ≡ Some ds → count_items ds ≢ n → has_count n o ≡ false
other-count n o ds is other = ap (has_count n) is ∙ ne_eqb (count_items ds) n other

unmet-tag-parts : (d : Data) (p : Place) (x : Data) (ds : Items) → AtItem d p x → as_array x ≡ Some ds → Unmet d (tag_parts p ds)
unmet-tag-parts d p x no_items h is = stands d p (Some x) wanted.Tag (item-here d p x h) (other-count 2 (as_array x) no_items is (λ e. omega (arith, e)))
unmet-tag-parts d p x (item o no_items) h is = stands d p (Some x) wanted.Tag (item-here d p x h) (other-count 2 (as_array x) (item o no_items) is (λ e. omega (arith, e)))
unmet-tag-parts d p x (item o (item s no_items)) h is =
    unmet-numbers d p o s (into-part d p x o 0 h (array-item x (item o (item s no_items)) 0 o is refl)) (into-part d p x s 1 h (array-item x (item o (item s no_items)) 1 s is refl))
unmet-tag-parts d p x (item o (item s (item y ys))) h is =
    stands d p (Some x) wanted.Tag (item-here d p x h) (other-count 2 (as_array x) (item o (item s (item y ys))) is (λ e. omega (arith, e)))

unmet-tag : (d : Data) (p : Place) (x : Data) → AtItem d p x → Unmet d (tag_fault p x)
unmet-tag d p x h = go (as_array x) refl where
  go : (o : Option Items) → as_array x ≡ o → Unmet d (of_array (wants p wanted.Tag) (tag_parts p) o)
  go None e = stands d p (Some x) wanted.Tag (item-here d p x h) (ap (has_count 2) e)
  go (Some ds) e = unmet-tag-parts d p x ds h e

unmet-placed-parts : (d : Data) (p : Place) (x : Data) (ds : Items) → AtItem d p x → as_array x ≡ Some ds → Unmet d (placed_parts p ds)
unmet-placed-parts d p x no_items h is = stands d p (Some x) wanted.Placed (item-here d p x h) (other-count 3 (as_array x) no_items is (λ e. omega (arith, e)))
unmet-placed-parts d p x (item o no_items) h is = stands d p (Some x) wanted.Placed (item-here d p x h) (other-count 3 (as_array x) (item o no_items) is (λ e. omega (arith, e)))
unmet-placed-parts d p x (item o (item s no_items)) h is =
    stands d p (Some x) wanted.Placed (item-here d p x h) (other-count 3 (as_array x) (item o (item s no_items)) is (λ e. omega (arith, e)))
unmet-placed-parts d p x (item o (item s (item y no_items))) h is =
    let ds = item o (item s (item y no_items)) in
    unmet-or d (numbers_fault p o s) (number_fault 4294967295 (in_part p 2) y)
    (unmet-numbers d p o s (into-part d p x o 0 h (array-item x ds 0 o is refl)) (into-part d p x s 1 h (array-item x ds 1 s is refl)))
    (unmet-number d 4294967295 (in_part p 2) y (part-here d (in_part p 2) y (into-part d p x y 2 h (array-item x ds 2 y is refl))))
unmet-placed-parts d p x (item o (item s (item y (item z zs)))) h is =
    stands d p (Some x) wanted.Placed (item-here d p x h) (other-count 3 (as_array x) (item o (item s (item y (item z zs)))) is (λ e. omega (arith, e)))

unmet-placed : (d : Data) (p : Place) (x : Data) → AtItem d p x → Unmet d (placed_fault p x)
unmet-placed d p x h = go (as_array x) refl where
  go : (o : Option Items) → as_array x ≡ o → Unmet d (of_array (wants p wanted.Placed) (placed_parts p) o)
  go None e = stands d p (Some x) wanted.Placed (item-here d p x h) (ap (has_count 3) e)
  go (Some ds) e = unmet-placed-parts d p x ds h e

unmet-tags : (d : Data) (p : Place) (ds : Items) → HasItems d p ds → Unmet d (tags_fault p ds)
unmet-tags d p ds h = unmet-items d (λ k. tag_fault (in_item p k)) ds (λ i x e. unmet-tag d (in_item p i) x (h.each i x e))

unmet-all-placed : (d : Data) (p : Place) (ds : Items) → HasItems d p ds → Unmet d (all_placed_fault p ds)
unmet-all-placed d p ds h = unmet-items d (λ k. placed_fault (in_item p k)) ds (λ i x e. unmet-placed d (in_item p i) x (h.each i x e))

unmet-counts : (d : Data) (p : Place) (ds : Items) → HasItems d p ds → Unmet d (counts_fault p ds)
unmet-counts d p ds h = unmet-items d (λ k x. number_fault 4294967295 (in_item p k) x) ds (λ i x e. unmet-number d 4294967295 (in_item p i) x (item-here d (in_item p i) x (h.each i x e)))

-- ---- what a key lacks

pub nothing-kept : {A : Type 0} (f : A → Bool) (o : Option A) → is_some o ≡ false → is_some (keep_if f o) ≡ false
nothing-kept f None e = refl
nothing-kept f (Some x) e = absurd (cc e)

pub no-number : (most : ℕ) (o : Option Data) → is_some (option_and_then as_u64 (option_and_then as_number o)) ≡ false → is_met (wanted.Number most) o ≡ false
no-number most None e = refl
no-number most (Some x) e = nothing-kept (λ (n : ℕ). nat_le n most) (option_and_then as_u64 (as_number x)) e

pub no-array : (o : Option Data) → is_some (option_and_then as_array o) ≡ false → is_met wanted.Array o ≡ false
no-array None e = refl
no-array (Some x) e = e

no-kind : (o : Option Data) → is_some (option_and_then kind_from (option_and_then as_str o)) ≡ false → is_met wanted.Kind o ≡ false
no-kind None e = refl
no-kind (Some x) e = e

none-counted : (n : ℕ) (o : Option Items) → is_some o ≡ false → has_count n o ≡ false
none-counted n None e = refl
none-counted n (Some ds) e = absurd (cc e)

no-counts : (n : ℕ) (o : Option Data) → is_some (option_and_then as_array o) ≡ false → is_met (wanted.Counts n) o ≡ false
no-counts n None e = refl
no-counts n (Some x) e = none-counted n (as_array x) e

no-list : (o : Option Data) → is_some (items_or_none o) ≡ false → is_met wanted.Array o ≡ false
no-list None e = refl
no-list (Some x) e = e

-- ---- events

unmet-keys : (d : Data) (k : ℕ) (x : Data) (n : ℕ) → event_if (Some k) d ≡ Some x → Unmet d (keys_fault n (event_place k) x)
unmet-keys d k x n is =
    let p = event_place k in
    let f6 = unless (is_some (items_at (codes "list") x)) (in_field p field.List) wanted.Array in
    let f5 = unless (is_some (items_or_none (get (codes "delete") x))) (in_field p field.Delete) wanted.Array in
    let f4 = unless (is_some (items_or_none (get (codes "insert") x))) (in_field p field.Insert) wanted.Array in
    let f3 = unless (is_some (items_at (codes "seen") x)) (in_field p field.Seen) (wanted.Counts n) in
    let f2 = unless (is_some (kind_of x)) (in_field p field.Kind) wanted.Kind in
    let f1 = unless (is_some (number_at (codes "replica") x)) (in_field p field.Replica) (wanted.Number (n - 1)) in
    unmet-or d f1 (or_else f2 (or_else f3 (or_else f4 (or_else f5 f6))))
    (unmet-unless d _ _ _ (λ e. stands d (in_field p field.Replica) (get (codes "replica") x) (wanted.Number (n - 1)) (key-here d _ _ (event-key d k x field.Replica is)) (no-number (n - 1) (get (codes "replica") x) e)))
    (unmet-or d f2 (or_else f3 (or_else f4 (or_else f5 f6)))
    (unmet-unless d _ _ _ (λ e. stands d (in_field p field.Kind) (get (codes "kind") x) wanted.Kind (key-here d _ _ (event-key d k x field.Kind is)) (no-kind (get (codes "kind") x) e)))
    (unmet-or d f3 (or_else f4 (or_else f5 f6))
    (unmet-unless d _ _ _ (λ e. stands d (in_field p field.Seen) (get (codes "seen") x) (wanted.Counts n) (key-here d _ _ (event-key d k x field.Seen is)) (no-counts n (get (codes "seen") x) e)))
    (unmet-or d f4 (or_else f5 f6)
    (unmet-unless d _ _ _ (λ e. stands d (in_field p field.Insert) (get (codes "insert") x) wanted.Array (key-here d _ _ (event-key d k x field.Insert is)) (no-list (get (codes "insert") x) e)))
    (unmet-or d f5 f6
    (unmet-unless d _ _ _ (λ e. stands d (in_field p field.Delete) (get (codes "delete") x) wanted.Array (key-here d _ _ (event-key d k x field.Delete is)) (no-list (get (codes "delete") x) e)))
    (unmet-unless d _ _ _ (λ e. stands d (in_field p field.List) (get (codes "list") x) wanted.Array (key-here d _ _ (event-key d k x field.List is)) (no-array (get (codes "list") x) e)))))))

unmet-fields : (d : Data) (k : ℕ) (x : Data) (n : ℕ) → event_if (Some k) d ≡ Some x → Unmet d (fields_fault n (event_place k) x)
unmet-fields d k x n is =
    unmet-or d (unless (is_some (as_object x)) (event_place k) wanted.Object) (keys_fault n (event_place k) x)
    (unmet-unless d (is_some (as_object x)) (event_place k) wanted.Object (λ e. stands d (event_place k) (Some x) wanted.Object (key-here d (event_place k) (Some x) (event-whole d k x is)) e))
    (unmet-keys d k x n is)

-- the fields of an event are what stands under its keys
record AreFields (x : Data) (v : EventData) : Type 0 where
  replica : number_at (codes "replica") x ≡ Some v.replica
  seen : items_at (codes "seen") x ≡ Some v.seen
  inserted : items_or_none (get (codes "insert") x) ≡ Some v.inserted
  deleted : items_or_none (get (codes "delete") x) ≡ Some v.deleted
  list : items_at (codes "list") x ≡ Some v.list

fields-chain : (R : Option ℕ) (K : Option Bool) (S I D L : Option Items) (v : EventData)
    → option_and_then (λ replica. option_and_then (λ edit. option_and_then (λ seen. option_and_then (λ inserted. option_and_then (λ deleted.
    option_map (λ list. let x : EventData = record { replica = replica; edit = edit; seen = seen; inserted = inserted; deleted = deleted; list = list } in x) L) D) I) S) K) R ≡ Some v
    → (R ≡ Some v.replica) × (S ≡ Some v.seen) × (I ≡ Some v.inserted) × (D ≡ Some v.deleted) × (L ≡ Some v.list)
fields-chain None K S I D L v h = absurd (cc h)
fields-chain (Some r) None S I D L v h = absurd (cc h)
fields-chain (Some r) (Some k) None I D L v h = absurd (cc h)
fields-chain (Some r) (Some k) (Some s) None D L v h = absurd (cc h)
fields-chain (Some r) (Some k) (Some s) (Some i) None L v h = absurd (cc h)
fields-chain (Some r) (Some k) (Some s) (Some i) (Some d) None v h = absurd (cc h)
fields-chain (Some r) (Some k) (Some s) (Some i) (Some d) (Some l) v h =
    let made : EventData = record { replica = r; edit = k; seen = s; inserted = i; deleted = d; list = l } in
    let is : made ≡ v = cc h in (
      ap (λ (w : EventData). Some w.replica) is,
      ap (λ (w : EventData). Some w.seen) is,
      ap (λ (w : EventData). Some w.inserted) is,
      ap (λ (w : EventData). Some w.deleted) is,
      ap (λ (w : EventData). Some w.list) is,
    )

fields-there : (x : Data) (v : EventData) → event_data x ≡ Some v → AreFields x v
fields-there x v h =
    let all = fields-chain (number_at (codes "replica") x) (kind_of x) (items_at (codes "seen") x) (items_or_none (get (codes "insert") x)) (items_or_none (get (codes "delete") x)) (items_at (codes "list") x) v h in
    record { replica = all.0; seen = all.1; inserted = all.2; deleted = all.3; list = all.4 }

-- a number that is too great
too-great : (n r : ℕ) (o : Option Data) → 0 < n → option_and_then as_u64 (option_and_then as_number o) ≡ Some r → nat_lt r n ≡ false → is_met (wanted.Number (n - 1)) o ≡ false
too-great n r None some e big = refl
too-great n r (Some x) some e big =
    let past : nat_le r (n - 1) ≡ false = false_from_ne_true (nat_le r (n - 1)) (λ t. omega (arith, some, ltb-false r n big, leb-true r (n - 1) t)) in
    ap (λ (z : Option ℕ). is_some (keep_if (λ (m : ℕ). nat_le m (n - 1)) z)) e ∙ ap (λ (b : Bool). is_some (cond b (Some r) None)) past

wrong-count : (n : ℕ) (ds : Items) (o : Option Data) → option_and_then as_array o ≡ Some ds → (count_items ds == n) ≡ false → is_met (wanted.Counts n) o ≡ false
wrong-count n ds None is e = refl
wrong-count n ds (Some x) is e = ap (has_count n) is ∙ e

something : (edit : Bool) (ds : Items) (o : Option Data) → items_or_none o ≡ Some ds → (edit || (count_items ds == 0)) ≡ false → is_met wanted.Nothing o ≡ false
something edit ds None is e = refl
something edit ds (Some x) is e = ap (has_count 0) is ∙ (or_parts edit (count_items ds == 0) e).1

unmet-fit : (d : Data) (k : ℕ) (x : Data) (n : ℕ) (v : EventData) → 0 < n → event_if (Some k) d ≡ Some x → AreFields x v → Unmet d (fit_fault n (event_place k) v)
unmet-fit d k x n v some is has =
    let p = event_place k in
    let f4 = read_fault v.edit v.deleted (in_field p field.Delete) in
    let f3 = read_fault v.edit v.inserted (in_field p field.Insert) in
    let f2 = unless (count_items v.seen == n) (in_field p field.Seen) (wanted.Counts n) in
    let f1 = unless (nat_lt v.replica n) (in_field p field.Replica) (wanted.Number (n - 1)) in
    unmet-or d f1 (or_else f2 (or_else f3 f4))
    (unmet-unless d _ _ _ (λ e. stands d (in_field p field.Replica) (get (codes "replica") x) (wanted.Number (n - 1)) (key-here d _ _ (event-key d k x field.Replica is)) (too-great n v.replica (get (codes "replica") x) some has.replica e)))
    (unmet-or d f2 (or_else f3 f4)
    (unmet-unless d _ _ _ (λ e. stands d (in_field p field.Seen) (get (codes "seen") x) (wanted.Counts n) (key-here d _ _ (event-key d k x field.Seen is)) (wrong-count n v.seen (get (codes "seen") x) has.seen e)))
    (unmet-or d f3 f4
    (unmet-unless d _ _ _ (λ e. stands d (in_field p field.Insert) (get (codes "insert") x) wanted.Nothing (key-here d _ _ (event-key d k x field.Insert is)) (something v.edit v.inserted (get (codes "insert") x) has.inserted e)))
    (unmet-unless d _ _ _ (λ e. stands d (in_field p field.Delete) (get (codes "delete") x) wanted.Nothing (key-here d _ _ (event-key d k x field.Delete is)) (something v.edit v.deleted (get (codes "delete") x) has.deleted e)))))

-- the items of what stands under a key
pub has-items : (d : Data) (p : Place) (o : Option Data) (ds : Items) → UnderKey d p o → option_and_then as_array o ≡ Some ds → HasItems d p ds
has-items d p None ds h is = absurd (cc is)
has-items d p (Some x) ds h is = items-there d p x ds h is

may-have-items : (d : Data) (p : Place) (o : Option Data) (ds : Items) → UnderKey d p o → items_or_none o ≡ Some ds → HasItems d p ds
may-have-items d p None ds h is =
    let none : no_items ≡ ds = cc is in
    subst (HasItems d p) none (no-items d p)
may-have-items d p (Some x) ds h is = items-there d p x ds h is

unmet-lists : (d : Data) (k : ℕ) (x : Data) (v : EventData) → event_if (Some k) d ≡ Some x → AreFields x v → Unmet d (items_fault (event_place k) v)
unmet-lists d k x v is has =
    let p = event_place k in
    let f4 = tags_fault (in_field p field.List) v.list in
    let f3 = tags_fault (in_field p field.Delete) v.deleted in
    let f2 = all_placed_fault (in_field p field.Insert) v.inserted in
    let f1 = counts_fault (in_field p field.Seen) v.seen in
    unmet-or d f1 (or_else f2 (or_else f3 f4))
    (unmet-counts d (in_field p field.Seen) v.seen (has-items d (in_field p field.Seen) (get (codes "seen") x) v.seen (event-key d k x field.Seen is) has.seen))
    (unmet-or d f2 (or_else f3 f4)
    (unmet-all-placed d (in_field p field.Insert) v.inserted (may-have-items d (in_field p field.Insert) (get (codes "insert") x) v.inserted (event-key d k x field.Insert is) has.inserted))
    (unmet-or d f3 f4
    (unmet-tags d (in_field p field.Delete) v.deleted (may-have-items d (in_field p field.Delete) (get (codes "delete") x) v.deleted (event-key d k x field.Delete is) has.deleted))
    (unmet-tags d (in_field p field.List) v.list (has-items d (in_field p field.List) (get (codes "list") x) v.list (event-key d k x field.List is) has.list))))

unmet-event : (d : Data) (k : ℕ) (x : Data) (n : ℕ) → 0 < n → event_if (Some k) d ≡ Some x → Unmet d (event_fault n (event_place k) x)
unmet-event d k x n some is = go (event_data x) refl where
  go : (o : Option EventData) → event_data x ≡ o → Unmet d (of_event (fields_fault n (event_place k) x) (λ v. or_else (fit_fault n (event_place k) v) (items_fault (event_place k) v)) o)
  go None e = unmet-fields d k x n is
  go (Some v) e =
      let has = fields-there x v e in
      unmet-or d (fit_fault n (event_place k) v) (items_fault (event_place k) v) (unmet-fit d k x n v some is has) (unmet-lists d k x v is has)

event-there : (o : Option Data) (k : ℕ) (x : Data) (ds : Items) → option_and_then as_array o ≡ Some ds → get_item k ds ≡ Some x → option_and_then (at k) o ≡ Some x
event-there None k x ds is e = absurd (cc is)
event-there (Some y) k x ds is e = array-item y ds k x is e

-- ---- traces

not-replicas : (n : ℕ) → is_replicas n ≡ false → is_positive 65 n ≡ false
not-replicas n e = go (nat_lt 0 n) e where
  go : (t : Bool) → cond t (nat_lt n 66) false ≡ false → (t && nat_le n 65) ≡ false
  go false h = refl
  go true h = false_from_ne_true (nat_le n 65) (λ t. omega (arith, ltb-false n 66 h, leb-true n 65 t))

few-kept : (o : Option ℕ) → is_some (keep_if is_replicas o) ≡ false → is_some (keep_if (is_positive 65) o) ≡ false
few-kept None e = refl
few-kept (Some n) e = go (is_replicas n) refl e where
  go : (t : Bool) → is_replicas n ≡ t → is_some (cond t (Some n) None) ≡ false → is_some (cond (is_positive 65 n) (Some n) None) ≡ false
  go true is h = absurd (cc h)
  go false is h = ap (λ (b : Bool). is_some (cond b (Some n) None)) (not-replicas n is)

no-replicas : (o : Option Data) → is_some (keep_if is_replicas (option_and_then as_u64 (option_and_then as_number o))) ≡ false → is_met (wanted.Positive 65) o ≡ false
no-replicas None e = refl
no-replicas (Some x) e = few-kept (option_and_then as_u64 (as_number x)) e

unmet-roots : (d : Data) → Unmet d (parts_fault d)
unmet-roots d =
    let f3 = unless (is_some (items_at (codes "events") d)) (in_field here field.Events) wanted.Array in
    let f2 = unless (is_some (items_at (codes "start") d)) (in_field here field.Start) wanted.Array in
    let f1 = unless (is_some (keep_if is_replicas (number_at (codes "replicas") d))) (in_field here field.Replicas) (wanted.Positive 65) in
    unmet-or d f1 (or_else f2 f3)
    (unmet-unless d _ _ _ (λ e. stands d (in_field here field.Replicas) (get (codes "replicas") d) (wanted.Positive 65) (key-here d _ _ (top-key d field.Replicas)) (no-replicas (get (codes "replicas") d) e)))
    (unmet-or d f2 f3
    (unmet-unless d _ _ _ (λ e. stands d (in_field here field.Start) (get (codes "start") d) wanted.Array (key-here d _ _ (top-key d field.Start)) (no-array (get (codes "start") d) e)))
    (unmet-unless d _ _ _ (λ e. stands d (in_field here field.Events) (get (codes "events") d) wanted.Array (key-here d _ _ (top-key d field.Events)) (no-array (get (codes "events") d) e))))

unmet-layout : (d : Data) → Unmet d (layout_fault d)
unmet-layout d =
    unmet-or d (unless (is_some (as_object d)) here wanted.Object) (parts_fault d)
    (unmet-unless d (is_some (as_object d)) here wanted.Object (λ e. stands d here (Some d) wanted.Object (key-here d here (Some d) (at-top d)) e))
    (unmet-roots d)

roots-there : (R : Option ℕ) (S E : Option Items) (t : TraceData)
    → option_and_then (λ replicas. option_and_then (λ start. option_map (λ events. let x : TraceData = record { replicas = replicas; start = start; events = events } in x) E) S) R ≡ Some t
    → (S ≡ Some t.start) × (E ≡ Some t.events)
roots-there None S E t h = absurd (cc h)
roots-there (Some r) None E t h = absurd (cc h)
roots-there (Some r) (Some s) None t h = absurd (cc h)
roots-there (Some r) (Some s) (Some e) t h =
    let made : TraceData = record { replicas = r; start = s; events = e } in
    let is : made ≡ t = cc h in (ap (λ (w : TraceData). Some w.start) is, ap (λ (w : TraceData). Some w.events) is)

some-replicas : (n : ℕ) → is_replicas n ≡ true → 0 < n
some-replicas n e = ltb-true 0 n (go (nat_lt 0 n) e) where
  go : (t : Bool) → cond t (nat_lt n 66) false ≡ true → t ≡ true
  go true h = refl
  go false h = absurd (cc h)

unmet-whole : (d : Data) (x : TraceData) → trace_data d ≡ Some x → Unmet d (or_else (tags_fault (in_field here field.Start) x.start) (events_fault x.replicas x.events))
unmet-whole d x h =
    let roots = roots-there (keep_if is_replicas (number_at (codes "replicas") d)) (items_at (codes "start") d) (items_at (codes "events") d) x h in
    let some = some-replicas x.replicas (data-range d x h) in
    unmet-or d (tags_fault (in_field here field.Start) x.start) (events_fault x.replicas x.events)
    (unmet-tags d (in_field here field.Start) x.start (has-items d (in_field here field.Start) (get (codes "start") d) x.start (top-key d field.Start) roots.0))
    (unmet-items d (λ k. event_fault x.replicas (event_place k)) x.events
    (λ k z e. unmet-event d k z x.replicas some (event-there (get (codes "events") d) k z x.events roots.1 e)))

-- what stands at the place of the first fault is not what is wanted there
pub unmet : (d : Data) → Unmet d (trace_fault d)
unmet d = go (trace_data d) refl where
  go : (o : Option TraceData) → trace_data d ≡ o → Unmet d (of_trace (layout_fault d) (λ x. or_else (tags_fault (in_field here field.Start) x.start) (events_fault x.replicas x.events)) o)
  go None e = unmet-layout d
  go (Some x) e = unmet-whole d x e
