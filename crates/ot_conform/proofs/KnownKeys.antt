-- The lines of `steps` have no unknown keys, and the keys of a port's lines are named one line after the other.
use Rattle.std.proofs.Common.{◌≡◌, ℕ, List, [], ◌∷◌, ◌++◌, true, Option, Some, None, option_map, Ordering, Less, Equal, Greater, nat_cmp, refl, ap, ◌∙◌}
use Rattle.std.specs.Prelude.{codes}
use Rattle.std.specs.Ordering.{match_ordering}
use Rattle.std.specs.Cmp.Lexicographic.{slice_cmp}
use Rattle.serde_json.specs.Data.{Data, number, Members, no_members, member, put, unsigned}
use Rattle.serde_json.specs.Find.{get}
use Rattle.ot_steps.specs.Lines.{Line, Message}
use Rattle.ot_steps.specs.Text.{Field, Value, Sent, field, fields, fields_of, key_text, keys, value_at}
use Rattle.ot_steps.specs.declared.key.Key.{Key}
use Rattle.ot_steps.specs.declared.key.Key.TheVariants as key
use Rattle.ot_conform.specs.Laws.{data_of}
use Rattle.ot_conform.specs.Ports.{Told}
use Rattle.ot_conform.specs.Unknown.{Named, is_known, with_members, with_object, with_unknown}
use Rattle.ot_conform.specs.declared.unknown.Part.TheVariants as part
use Rattle.ot_conform.proofs.LineSays.{says}
use Rattle.ot_conform.proofs.LineTrees.{line_data, with_fields}

-- ---- an object, or none

-- ---- the members of a line of `steps`

abbrev AreKnown : Members → Type 0
AreKnown no_members = Unit {0}
AreKnown (member k d ms) = (is_known part.Line k ≡ true) × AreKnown ms

put_known : (k : List ℕ) (d : Data) (ms : Members) → is_known part.Line k ≡ true → AreKnown ms → AreKnown (put k d ms)
put_known k d no_members known all = (known, tt)
put_known k d (member l e ms) known all = go (put_known k d ms known all.1) (slice_cmp nat_cmp k l)
  where
    go : AreKnown (put k d ms) → (o : Ordering) → AreKnown (match_ordering o (member k d (member l e ms)) (member l d ms) (member l e (put k d ms)))
    go later Less = (known, all)
    go later Equal = all
    go later Greater = (all.0, later)

abbrev FieldsKnown : List Field → Type 0
FieldsKnown [] = Unit {0}
FieldsKnown (f ∷ fs) = (is_known part.Line f.key ≡ true) × FieldsKnown fs

both_known : (fs gs : List Field) → FieldsKnown fs → FieldsKnown gs → FieldsKnown (fs ++ gs)
both_known [] gs first second = second
both_known (f ∷ fs) gs first second = (first.0, both_known fs gs first.1 second)

field_known : (name : List ℕ) (value : Option Value) → is_known part.Line name ≡ true → FieldsKnown (field name value)
field_known name None known = tt
field_known name (Some v) known = (known, tt)

abbrev KeysKnown : List Key → Type 0
KeysKnown [] = Unit {0}
KeysKnown (k ∷ ks) = (is_known part.Line (key_text k) ≡ true) × KeysKnown ks

fields_known : (ks : List Key) (line : Line) → KeysKnown ks → FieldsKnown (fields_of ks line)
fields_known [] line all = tt
fields_known (k ∷ ks) line all = both_known (field (key_text k) (value_at k line)) (fields_of ks line) (field_known (key_text k) (value_at k line) all.0) (fields_known ks line all.1)

keys_known : KeysKnown keys
keys_known = (refl, (refl, (refl, (refl, (refl, (refl, (refl, (refl, (refl, (refl, (refl, (refl, (refl, (refl, (refl, (refl, tt))))))))))))))))

with_fields_known : (fs : List Field) (ms : Members) → FieldsKnown fs → AreKnown ms → AreKnown (with_fields fs ms)
with_fields_known [] ms all known = known
with_fields_known (f ∷ fs) ms all known = with_fields_known fs (put f.key (data_of f.value) ms) all.1 (put_known f.key (data_of f.value) ms all.0 known)

none_named : (line : ℕ) (ms : Members) (ns : List Named) → AreKnown ms → with_members line part.Line ms ns ≡ ns
none_named line no_members ns all = refl
none_named line (member k d ms) ns all = rw (all.0) (none_named line ms ns all.1)

line_known : (n : ℕ) (line : Line) (ns : List Named) → with_object n part.Line (Some (line_data line)) ns ≡ ns
line_known n line ns = none_named n _ ns (with_fields_known (fields line) (put (codes "at") (number (unsigned line.at)) no_members) (fields_known keys line keys_known) (refl, tt))

sent_known : (n : ℕ) (sent : Option Message) (ns : List Named) → with_object n part.Sent (option_map data_of (option_map Sent sent)) ns ≡ ns
sent_known n None ns = refl
sent_known n (Some m) ns = refl

-- a line of `steps` has no unknown key
pub steps_known : (n : ℕ) (line : Line) (ns : List Named) → with_unknown n (Told (line_data line)) ns ≡ ns
steps_known n line ns =
    let d = line_data line in
    let saying = says line in
    ap (λ (o : Option Data). with_object n part.Message o (with_object n part.Sent (get (codes "sent") d) (with_object n part.Line (Some d) ns))) saying.message
    ∙ ap (λ (o : Option Data). with_object n part.Sent o (with_object n part.Line (Some d) ns)) (saying.under key.Sent)
    ∙ sent_known n line.sent (with_object n part.Line (Some d) ns)
    ∙ line_known n line ns
