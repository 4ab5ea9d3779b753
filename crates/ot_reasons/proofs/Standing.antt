-- What stands at a place, level by level: under a key, an item of that, a part of the item, under a key of the part.
use Rattle.std.proofs.Common.{◌≡◌, ℕ, ap, ◌∙◌, refl}
use Rattle.std.specs.Prelude.{Option, Some, None, option_and_then}
use Rattle.serde_json.specs.Data.{Data, Items, no_items, null, boolean, number, string, array, object}
use Rattle.serde_json.specs.Find.{as_array, at, get, get_item}
use Rattle.ot_reasons.specs.declared.place.Field.{Field}
use Rattle.ot_reasons.specs.declared.place.Place.{Place}
use Rattle.ot_reasons.specs.Places.{event_if, event_place, field_if, found_at, here, in_field, in_item, in_key, in_part, item_if, key_of}

abbrev field_found : Place → Data → Option Data
field_found p d = option_and_then (field_if p.field) (event_if p.event d)

abbrev item_found : Place → Data → Option Data
item_found p d = option_and_then (item_if p.item) (field_found p d)

abbrev part_found : Place → Data → Option Data
part_found p d = option_and_then (item_if p.part) (item_found p d)

-- the path goes no further than a key, and this stands there
pub record UnderKey (d : Data) (p : Place) (o : Option Data) : Type 0 where
  pub is : field_found p d ≡ o
  pub item : p.item ≡ None
  pub part : p.part ≡ None
  pub key : p.key ≡ None

-- it goes no further than an item
pub record AtItem (d : Data) (p : Place) (x : Data) : Type 0 where
  pub is : item_found p d ≡ Some x
  pub part : p.part ≡ None
  pub key : p.key ≡ None

-- it goes no further than a part
pub record AtPart (d : Data) (p : Place) (x : Data) : Type 0 where
  pub is : part_found p d ≡ Some x
  pub key : p.key ≡ None

no-item : (o : Option Data) → option_and_then (item_if None) o ≡ o
no-item None = refl
no-item (Some x) = refl

no-field : (o : Option Data) → option_and_then (field_if None) o ≡ o
no-field None = refl
no-field (Some x) = refl

pub part-here : (d : Data) (p : Place) (x : Data) → AtPart d p x → found_at p d ≡ Some x
part-here d p x h = ap (λ (k : Option Field). option_and_then (field_if k) (part_found p d)) h.key ∙ no-field (part_found p d) ∙ h.is

pub item-is-part : (d : Data) (p : Place) (x : Data) → AtItem d p x → AtPart d p x
item-is-part d p x h = record { is = ap (λ (k : Option ℕ). option_and_then (item_if k) (item_found p d)) h.part ∙ no-item (item_found p d) ∙ h.is; key = h.key }

pub item-here : (d : Data) (p : Place) (x : Data) → AtItem d p x → found_at p d ≡ Some x
item-here d p x h = part-here d p x (item-is-part d p x h)

pub key-here : (d : Data) (p : Place) (o : Option Data) → UnderKey d p o → found_at p d ≡ o
key-here d p o h =
    ap (λ (k : Option Field). option_and_then (field_if k) (part_found p d)) h.key
    ∙ no-field (part_found p d)
    ∙ ap (λ (k : Option ℕ). option_and_then (item_if k) (item_found p d)) h.part
    ∙ no-item (item_found p d)
    ∙ ap (λ (k : Option ℕ). option_and_then (item_if k) (field_found p d)) h.item
    ∙ no-item (field_found p d)
    ∙ h.is

pub into-key : (d : Data) (p : Place) (x : Data) (f : Field) → AtPart d p x → found_at (in_key p f) d ≡ get (key_of f) x
into-key d p x f h = ap (λ (o : Option Data). option_and_then (field_if (Some f)) o) h.is

pub into-part : (d : Data) (p : Place) (x z : Data) (j : ℕ) → AtItem d p x → at j x ≡ Some z → AtPart d (in_part p j) z
into-part d p x z j h e = record { is = ap (λ (o : Option Data). option_and_then (item_if (Some j)) o) h.is ∙ e; key = h.key }

pub into-item : (d : Data) (p : Place) (x z : Data) (k : ℕ) → UnderKey d p (Some x) → at k x ≡ Some z → AtItem d (in_item p k) z
into-item d p x z k h e = record { is = ap (λ (o : Option Data). option_and_then (item_if (Some k)) o) h.is ∙ e; part = h.part; key = h.key }

-- ---- beginnings

pub at-top : (d : Data) → UnderKey d here (Some d)
at-top d = record { is = refl; item = refl; part = refl; key = refl }

pub top-key : (d : Data) (f : Field) → UnderKey d (in_field here f) (get (key_of f) d)
top-key d f = record { is = refl; item = refl; part = refl; key = refl }

pub event-whole : (d : Data) (k : ℕ) (x : Data) → event_if (Some k) d ≡ Some x → UnderKey d (event_place k) (Some x)
event-whole d k x e = record { is = ap (λ (o : Option Data). option_and_then (field_if None) o) e; item = refl; part = refl; key = refl }

pub event-key : (d : Data) (k : ℕ) (x : Data) (f : Field) → event_if (Some k) d ≡ Some x → UnderKey d (in_field (event_place k) f) (get (key_of f) x)
event-key d k x f e = record { is = ap (λ (o : Option Data). option_and_then (field_if (Some f)) o) e; item = refl; part = refl; key = refl }

-- ---- items of an array

pub array-item : (x : Data) (ds : Items) (k : ℕ) (z : Data) → as_array x ≡ Some ds → get_item k ds ≡ Some z → at k x ≡ Some z
array-item null ds k z is e = absurd (cc is)
array-item (boolean b) ds k z is e = absurd (cc is)
array-item (number n) ds k z is e = absurd (cc is)
array-item (string s) ds k z is e = absurd (cc is)
array-item (array es) ds k z is e =
    let same : es ≡ ds = cc is in
    ap (get_item k) same ∙ e
array-item (object ms) ds k z is e = absurd (cc is)

-- the items of an array that stands under a key
pub record HasItems (d : Data) (p : Place) (ds : Items) : Type 0 where
  pub each : (k : ℕ) (z : Data) → get_item k ds ≡ Some z → AtItem d (in_item p k) z

pub no-items : (d : Data) (p : Place) → HasItems d p no_items
no-items d p = record { each = λ k z e. absurd (cc e) }

pub items-there : (d : Data) (p : Place) (x : Data) (ds : Items) → UnderKey d p (Some x) → as_array x ≡ Some ds → HasItems d p ds
items-there d p x ds h is = record { each = λ k z e. into-item d p x z k h (array-item x ds k z is e) }
