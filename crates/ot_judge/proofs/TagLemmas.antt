-- The test of tags, and lists of tags.
use Rattle.std.proofs.Common.{◌≡◌, ℕ, ◌+◌, ◌<◌, List, [], ◌∷◌, ◌++◌, map, length, get_or, take, ap, sym, ◌∙◌, cond, arith, true, false, Bool, ◌||◌, eq-eqb, refl}
use Rattle.std.specs.Prelude.{filter, ◌==◌}
use Rattle.std.proofs.lemmas.Bool.{eqb-true, and_parts, and_from, or_parts}
use Rattle.std.proofs.lemmas.List.{take_more, map-append}
use Rattle.std.proofs.lemmas.List.Folds.{list_any_more}
use Rattle.std.proofs.lemmas.List.Elements.{filter_more, filter-append}
use Rattle.std.proofs.lemmas.List.Sums.{sum_by_more, sum_by-cons}
use Rattle.ot_isa.specs.declared.elements.Tag.{Tag}
use Rattle.ot_model.specs.declared.trace.Placed.{Placed}
use Rattle.ot_model.specs.Trace.{same_tag, contains, occurrences}

pub same_tag-refl : (a : Tag) → same_tag a a ≡ true
same_tag-refl a = and_from _ _ (eq-eqb a.origin a.origin refl) (eq-eqb a.serial a.serial refl)

pub same_tag-true : (a b : Tag) → same_tag a b ≡ true → a ≡ b
same_tag-true a b h =
    let parts = and_parts (a.origin == b.origin) (a.serial == b.serial) h in
    let o = eqb-true a.origin b.origin parts.0 in
    let s = eqb-true a.serial b.serial parts.1 in
    let made : ℕ → ℕ → Tag = λ o s. record { origin = o; serial = s } in
    ap (λ (n : ℕ). made n a.serial) o ∙ ap (λ (n : ℕ). made b.origin n) s

pub same_tag-symm : (a b : Tag) → same_tag a b ≡ same_tag b a
same_tag-symm a b = grind arith

or_true : (b : Bool) → (b || true) ≡ true
or_true true = refl
or_true false = refl

or_false : (b : Bool) → (b || false) ≡ b
or_false true = refl
or_false false = refl

-- one more tag
pub contains-more : (tags : List Tag) (q : Tag) (i : ℕ) (d : Tag) → i < length tags → contains (take (i + 1) tags) q ≡ (contains (take i tags) q || same_tag q (get_or tags i d))
contains-more tags q i d lt = list_any_more (same_tag q) tags i d lt

pub occurrences-more : (tags : List Tag) (q : Tag) (i : ℕ) (d : Tag) → i < length tags → occurrences q (take (i + 1) tags) ≡ occurrences q (take i tags) + cond (same_tag q (get_or tags i d)) 1 0
occurrences-more tags q i d lt = sum_by_more (λ b. cond (same_tag q b) 1 0) tags i d lt

cond_or : (t b : Bool) → cond t true b ≡ (b || t)
cond_or true true = refl
cond_or true false = refl
cond_or false true = refl
cond_or false false = refl

-- a set to which one more tag is added
pub set-more : (tags : List Tag) (i : ℕ) (q d : Tag) (had new : Bool) → i < length tags → had ≡ contains (take i tags) q → new ≡ cond (same_tag (get_or tags i d) q) true had → new ≡ contains (take (i + 1) tags) q
set-more tags i q d had new lt before updates =
    let a : Tag = get_or tags i d in
    updates ∙ ap (λ (b : Bool). cond b true had) (same_tag-symm a q) ∙ cond_or (same_tag q a) had ∙ ap (λ (b : Bool). b || same_tag q a) before ∙ sym (contains-more tags q i d lt)

abbrev count_of : Bool → ℕ
count_of b = cond b 1 0

abbrev pub no_tag : Tag
no_tag = record { origin = 0; serial = 0 }

pub occurrences-absent : (q : Tag) (tags : List Tag) → contains tags q ≡ false → occurrences q tags ≡ 0
occurrences-absent q [] h = refl
occurrences-absent q (x ∷ xs) h =
    let parts = or_parts (same_tag q x) (contains xs q) h in
    omega (arith, sum_by-cons (λ b. cond (same_tag q b) 1 0) x xs, ap count_of parts.0, occurrences-absent q xs parts.1)

pub filter-tags-more : (p : Tag → Bool) (inserted : List Placed) (i : ℕ) (d : Placed) → i < length inserted → filter p (map (λ (x : Placed). x.tag) (take (i + 1) inserted)) ≡ filter p (map (λ (x : Placed). x.tag) (take i inserted)) ++ cond (p (get_or inserted i d).tag) ((get_or inserted i d).tag ∷ []) []
filter-tags-more p inserted i d lt =
    let f : Placed → Tag = λ (x : Placed). x.tag in
    ap (λ (xs : List Placed). filter p (map f xs)) (take_more inserted i d lt) ∙ ap (filter p) (map-append f (take i inserted) (get_or inserted i d ∷ [])) ∙ filter-append p (map f (take i inserted)) ((get_or inserted i d).tag ∷ [])

pub ruleset tag_steps = (same_tag-refl, same_tag-true, same_tag-symm, contains-more, occurrences-more, filter_more, filter-tags-more)
