-- Plain values: they have no floats, so that their text is known.
use Rattle.std.proofs.Common.{◌≡◌, ℕ, suc, ◌+◌, ◌<◌, List, length, drop, get_or, Bool, true, false, ◌&&◌, not, refl, sym, ap, ◌∙◌, add-one, drop-cons}
use Rattle.std.specs.Str.{bytes_eq}
use Rattle.serde_json.specs.Data.{Data, null, boolean, number, string, array, object, Items, no_items, item}
use Rattle.serde_json.specs.Find.{is_float}
use Rattle.serde_json.specs.View.{items_view, view}
use Rattle.serde_json.specs.Written.{compact_text, has_float, items_have_float}
use Rattle.serde_json.specs.declared.value.Value.{Value}
use Rattle.ot_conform.specs.Keys.{are_plain, is_plain, is_plain_item, is_written}

-- the items from a place on
pub items_from : (vs : List Value) (i : ℕ) (v : Value) → i < length vs → v ≡ get_or vs i v → items_view (drop i vs) ≡ item (view v) (items_view (drop (i + 1) vs))
items_from vs i v within is =
    ap items_view (drop-cons vs i v within)
    ∙ ap (λ (x : Value). item (view x) (items_view (drop (suc i) vs))) (sym is)
    ∙ ap (λ (n : ℕ). item (view v) (items_view (drop n vs))) (sym (add-one i))

both : (a b : Bool) → (a && b) ≡ true → (a ≡ true) × (b ≡ true)
both true true e = (refl, refl)
both true false e = absurd (cc)
both false b e = absurd (cc)

negated : (b : Bool) → not b ≡ true → b ≡ false
negated true e = absurd (cc)
negated false e = refl

item_no_float : (d : Data) → is_plain_item d ≡ true → has_float d ≡ false
item_no_float null e = absurd (cc)
item_no_float (boolean b) e = absurd (cc)
item_no_float (number n) e = negated (is_float n) e
item_no_float (string s) e = refl
item_no_float (array ds) e = absurd (cc)
item_no_float (object ms) e = absurd (cc)

items_no_float : (ds : Items) → are_plain ds ≡ true → items_have_float ds ≡ false
items_no_float no_items e = refl
items_no_float (item d ds) e =
    let parts = both (is_plain_item d) (are_plain ds) e in
    rw (item_no_float d parts.0, items_no_float ds parts.1) refl

pub no_float : (d : Data) → is_plain d ≡ true → has_float d ≡ false
no_float null e = absurd (cc)
no_float (boolean b) e = absurd (cc)
no_float (number n) e = negated (is_float n) e
no_float (string s) e = refl
no_float (array ds) e = items_no_float ds e
no_float (object ms) e = absurd (cc)

-- the test over the text that was written
pub written_is : (d : Data) (bytes text : List ℕ) → is_plain d ≡ true → (has_float d ≡ false → bytes ≡ compact_text d) → bytes_eq bytes text ≡ is_written text d
written_is d bytes text plain is = rw plain (ap (λ (b : List ℕ). bytes_eq b text) (is (no_float d plain)))
