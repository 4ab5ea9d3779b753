-- An operation without its tags.
use Rattle.std.proofs.Common.{◌≡◌, ℕ, zero, suc, ◌+◌, List, [], ◌∷◌, ◌++◌, map, length, refl, sym, ap, ◌∙◌, arith}
use Rattle.std.proofs.lemmas.List.{length-map, map-append}
use Rattle.ot_operation.specs.Operation.{Item, Old, New, olds, news, Operation}
use Rattle.ot_operation.specs.Run.{Run, Keep, Add, Skip, base_of, image_from, operation_of, IsFilled, IsNormal, MayFollow, MayLead}
use Rattle.ot_operation.proofs.RunLemmas.{same_operation}
use Rattle.ot_operation.proofs.Normal.{runs_are}
use Rattle.ot_codes.specs.Shape.{blank, filled, filled_image, mapped_item, shape}
use Rattle.ot_isa.specs.declared.elements.Tagged.{Tagged}
use Rattle.ot_isa.specs.Tagging.{chars_of}
use Rattle.ot_json.specs.Writing.{array_of, text_of_operation}
use Rattle.serde_json.specs.Written.{compact_text}
use Rattle.ot_steps.specs.Lettered.{array_text, lettered}
use Rattle.ot_steps.specs.Lines.{plain_item, plain_operation}

olds_plain : (from n : ℕ) → map plain_item (olds from n) ≡ olds from n
olds_plain from zero = refl
olds_plain from (suc n) = ap (λ (items : List (Item ℕ)). Old from ∷ items) (olds_plain (suc from) n)

news_plain : (text : List Tagged) → map plain_item (map New text) ≡ map New (chars_of text)
news_plain [] = refl
news_plain (x ∷ text) = ap (λ (items : List (Item ℕ)). New x.ch ∷ items) (news_plain text)

-- ---- the shape, filled with the letters

fill_plain : (image : List (Item Tagged)) → filled_image (map (mapped_item blank) image) (chars_of (news image)) ≡ map plain_item image
fill_plain [] = refl
fill_plain (Old i ∷ image) = ap (λ (items : List (Item ℕ)). Old i ∷ items) (fill_plain image)
fill_plain (New x ∷ image) = ap (λ (items : List (Item ℕ)). New x.ch ∷ items) (fill_plain image)

pub filled_plain : (op : Operation Tagged) → filled (shape op) (chars_of (news op.image)) ≡ plain_operation op
filled_plain op = same_operation _ _ _ _ refl (fill_plain op.image)

pub as_many : (image : List (Item Tagged)) → length (chars_of (news image)) ≡ length (news (map (mapped_item blank) image))
as_many [] = refl
as_many (Old i ∷ image) = as_many image
as_many (New x ∷ image) = ap suc (as_many image)

-- ---- the runs, without tags

base_same : (rs : List (Run Tagged)) → base_of (map (lettered (λ (x : Tagged). x.ch)) rs) ≡ base_of rs
base_same [] = refl
base_same (Keep n ∷ rs) = ap (λ (m : ℕ). n + m) (base_same rs)
base_same (Add text ∷ rs) = base_same rs
base_same (Skip n ∷ rs) = ap (λ (m : ℕ). n + m) (base_same rs)

image_same : (from : ℕ) (rs : List (Run Tagged)) → map plain_item (image_from from rs) ≡ image_from from (map (lettered (λ (x : Tagged). x.ch)) rs)
image_same from [] = refl
image_same from (Keep n ∷ rs) = map-append plain_item (olds from n) (image_from (from + n) rs) ∙ (λ i. olds_plain from n i ++ image_same (from + n) rs i)
image_same from (Add text ∷ rs) = map-append plain_item (map New text) (image_from from rs) ∙ (λ i. news_plain text i ++ image_same from rs i)
image_same from (Skip n ∷ rs) = image_same (from + n) rs

plain_runs : (rs : List (Run Tagged)) → operation_of (map (lettered (λ (x : Tagged). x.ch)) rs) ≡ plain_operation (operation_of rs)
plain_runs rs = same_operation _ _ _ _ (base_same rs) (sym (image_same 0 rs))

filled_still : {A : Type 0} (code : A → ℕ) (r : Run A) → IsFilled r → IsFilled (lettered code r)
filled_still code (Keep n) filled = filled
filled_still code (Add text) filled = omega (arith, filled, length-map text code)
filled_still code (Skip n) filled = filled

follow_still : {A : Type 0} (code : A → ℕ) (r s : Run A) → MayFollow r s → MayFollow (lettered code r) (lettered code s)
follow_still code (Keep n) (Keep m) may = may
follow_still code (Keep n) (Add t) may = may
follow_still code (Keep n) (Skip m) may = may
follow_still code (Add s) (Keep m) may = may
follow_still code (Add s) (Add t) may = may
follow_still code (Add s) (Skip m) may = may
follow_still code (Skip n) (Keep m) may = may
follow_still code (Skip n) (Add t) may = may
follow_still code (Skip n) (Skip m) may = may

lead_still : {A : Type 0} (code : A → ℕ) (r : Run A) (rs : List (Run A)) → MayLead r rs → MayLead (lettered code r) (map (lettered code) rs)
lead_still code r [] may = tt
lead_still code r (s ∷ rs) may = follow_still code r s may

normal_still : {A : Type 0} (code : A → ℕ) (rs : List (Run A)) → IsNormal rs → IsNormal (map (lettered code) rs)
normal_still code [] normal = tt
normal_still code (r ∷ rs) normal = (filled_still code r normal.0, lead_still code r rs normal.1, normal_still code rs normal.2)

-- the text of tagged runs is that of the operation without tags
pub tagged_text : (rs : List (Run Tagged)) (op : Operation Tagged) → IsNormal rs → operation_of rs ≡ op → array_text (λ (x : Tagged). x.ch) rs ≡ text_of_operation (plain_operation op)
tagged_text rs op normal spells =
    let plain = map (lettered (λ (x : Tagged). x.ch)) rs in
    ap (λ (ss : List (Run ℕ)). compact_text (array_of ss))
    (runs_are plain (plain_operation op) (normal_still (λ (x : Tagged). x.ch) rs normal) (plain_runs rs ∙ ap plain_operation spells))

letters_same : (text : List ℕ) → map (λ (c : ℕ). c) text ≡ text
letters_same [] = refl
letters_same (c ∷ text) = ap (λ (t : List ℕ). c ∷ t) (letters_same text)

runs_same : (rs : List (Run ℕ)) → map (lettered (λ (c : ℕ). c)) rs ≡ rs
runs_same [] = refl
runs_same (Keep n ∷ rs) = ap (λ (ss : List (Run ℕ)). Keep n ∷ ss) (runs_same rs)
runs_same (Add text ∷ rs) = λ i. Add (letters_same text i) ∷ runs_same rs i
runs_same (Skip n ∷ rs) = ap (λ (ss : List (Run ℕ)). Skip n ∷ ss) (runs_same rs)

-- and that of runs of characters is the operation's
pub char_text : (rs : List (Run ℕ)) (op : Operation ℕ) → IsNormal rs → operation_of rs ≡ op → array_text (λ (c : ℕ). c) rs ≡ text_of_operation op
char_text rs op normal spells = ap (λ (ss : List (Run ℕ)). compact_text (array_of ss)) (runs_same rs ∙ runs_are rs op normal spells)
