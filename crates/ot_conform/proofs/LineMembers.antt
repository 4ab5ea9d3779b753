-- What stands under each key of the object that a line is.
use Rattle.std.proofs.Common.{◌≡◌, ℕ, List, [], ◌∷◌, ◌++◌, Bool, true, false, Option, Some, None, option_map, refl, ap, ◌∙◌}
use Rattle.std.specs.Prelude.{codes, if◌then◌else◌}
use Rattle.std.specs.Str.{bytes_eq}
use Rattle.std.proofs.lemmas.Slice.Eq.{bytes_eq-Decides}
use Rattle.serde_json.specs.Data.{Data, Members, number, unsigned, no_members, put}
use Rattle.serde_json.specs.Find.{get, get_member}
use Rattle.serde_json.proofs.Views.{get_member-put, get_member-put_other}
use Rattle.ot_steps.specs.Lines.{Line}
use Rattle.ot_steps.specs.Text.{Field, Value, field, fields, fields_of, key_text, keys, value_at}
use Rattle.ot_steps.specs.declared.key.Key.{Key}
use Rattle.ot_conform.specs.Laws.{data_of}
use Rattle.ot_conform.proofs.LineTrees.{line_data, with_fields}

-- the last value of a key among the fields, or else what was there
abbrev pub under_key : List ℕ → List Field → Option Data → Option Data
under_key k [] old = old
under_key k (f ∷ fs) old = under_key k fs (if bytes_eq k f.key then Some (data_of f.value) else old)

pub got_put : (k l : List ℕ) (d : Data) (ms : Members) → get_member k (put l d ms) ≡ (if bytes_eq k l then Some d else get_member k ms)
got_put k l d ms = go (bytes_eq k l) refl
  where
    go : (same : Bool) → bytes_eq k l ≡ same → get_member k (put l d ms) ≡ (if bytes_eq k l then Some d else get_member k ms)
    go true is = let e = (bytes_eq-Decides k l).0 is in rw is (ap (λ (q : List ℕ). get_member q (put l d ms)) e ∙ get_member-put l d ms)
    go false is = rw is (get_member-put_other k l d ms (λ e. let same = (bytes_eq-Decides k l).1 e in cc))

got_fields : (k : List ℕ) (fs : List Field) (ms : Members) → get_member k (with_fields fs ms) ≡ under_key k fs (get_member k ms)
got_fields k [] ms = refl
got_fields k (f ∷ fs) ms = got_fields k fs (put f.key (data_of f.value) ms) ∙ ap (under_key k fs) (got_put k f.key (data_of f.value) ms)

-- ---- key by key

abbrev pub told_or : Option Data → Option Data → Option Data
told_or None old = old
told_or (Some d) old = Some d

-- a key that the line may have
abbrev pub with_key : List ℕ → List ℕ → Option Value → Option Data → Option Data
with_key k key value old = if bytes_eq k key then told_or (option_map data_of value) old else old

under-append : (k : List ℕ) (fs gs : List Field) (old : Option Data) → under_key k (fs ++ gs) old ≡ under_key k gs (under_key k fs old)
under-append k [] gs old = refl
under-append k (f ∷ fs) gs old = under-append k fs gs (if bytes_eq k f.key then Some (data_of f.value) else old)

either_old : (b : Bool) (old : Option Data) → old ≡ (if b then old else old)
either_old true old = refl
either_old false old = refl

under_field : (k key : List ℕ) (value : Option Value) (old : Option Data) → under_key k (field key value) old ≡ with_key k key value old
under_field k key None old = either_old (bytes_eq k key) old
under_field k key (Some v) old = refl

-- one key after the other
abbrev pub with_keys : List ℕ → List Key → Line → Option Data → Option Data
with_keys k [] line old = old
with_keys k (l ∷ ls) line old = with_keys k ls line (with_key k (key_text l) (value_at l line) old)

under_fields : (k : List ℕ) (ls : List Key) (line : Line) (old : Option Data) → under_key k (fields_of ls line) old ≡ with_keys k ls line old
under_fields k [] line old = refl
under_fields k (l ∷ ls) line old =
    under-append k (field (key_text l) (value_at l line)) (fields_of ls line) old
    ∙ ap (under_key k (fields_of ls line)) (under_field k (key_text l) (value_at l line) old)
    ∙ under_fields k ls line (with_key k (key_text l) (value_at l line) old)

-- where no other key is like it
pub told_alone : (value : Option Value) → told_or (option_map data_of value) None ≡ option_map data_of value
told_alone None = refl
told_alone (Some v) = refl

-- what the object has under a key
pub got_key : (k : List ℕ) (line : Line) → get k (line_data line) ≡ with_keys k keys line (get_member k (put (codes "at") (number (unsigned line.at)) no_members))
got_key k line =
    let at = put (codes "at") (number (unsigned line.at)) no_members in
    got_fields k (fields line) at ∙ under_fields k keys line (get_member k at)
