-- Tagged characters and items, list by list.
use Rattle.std.proofs.Common.{◌≡◌, ℕ, suc, ◌+◌, ◌<◌, List, [], ◌∷◌, ◌++◌, map, length, refl, ap, arith}
use Rattle.std.proofs.lemmas.List.Elements.{All-from_recursion}
use Rattle.std.specs.List.{AllByRecursion}
use Rattle.ot_operation.specs.Operation.{Item, Old, New, news}
use Rattle.ot_codes.specs.Shape.{mapped_item, blank, filled_image}
use Rattle.ot_isa.specs.declared.elements.Tag.{Tag}
use Rattle.ot_isa.specs.declared.elements.Tagged.{Tagged}
use Rattle.ot_isa.specs.Tagging.{tagged_char, tagged_chars, tagged_items, HasNoTagTwice}

pub tagged_chars-append : (origin first : ℕ) (xs ys : List ℕ) → tagged_chars origin first (xs ++ ys) ≡ tagged_chars origin first xs ++ tagged_chars origin (first + length xs) ys
tagged_chars-append origin first [] ys = let e : first + 0 ≡ first = omega arith in rw e refl
tagged_chars-append origin first (x ∷ xs) ys =
    let e : first + suc (length xs) ≡ (suc first) + length xs = omega arith in
    rw e (ap (λ (t : List Tagged). tagged_char origin first x ∷ t) (tagged_chars-append origin (suc first) xs ys))

pub length-tagged_chars : (origin first : ℕ) (xs : List ℕ) → length (tagged_chars origin first xs) ≡ length xs
length-tagged_chars origin first [] = refl
length-tagged_chars origin first (x ∷ xs) = ap suc (length-tagged_chars origin (suc first) xs)

-- the shape of an operation, filled with its tagged characters
pub tagged_filled : (origin first : ℕ) (image : List (Item ℕ)) → filled_image (map (mapped_item blank) image) (tagged_chars origin first (news image)) ≡ tagged_items origin first image
tagged_filled origin first [] = refl
tagged_filled origin first (Old i ∷ image) = ap (λ (t : List (Item Tagged)). Old i ∷ t) (tagged_filled origin first image)
tagged_filled origin first (New x ∷ image) = ap (λ (t : List (Item Tagged)). New (tagged_char origin first x) ∷ t) (tagged_filled origin (suc first) image)

-- a serial number that stands before all of these
later_tags : (origin early first : ℕ) (xs : List ℕ) → early < first → AllByRecursion (λ (u : Tagged). u.tag ≡ (record { origin = origin; serial = early }) → ⊥) (tagged_chars origin first xs)
later_tags origin early first [] h = tt
later_tags origin early first (x ∷ xs) h = (λ e. (let n : first ≡ early = ap (λ (t : Tag). t.serial) e in omega arith), later_tags origin early (suc first) xs (omega arith))

pub no_tag_twice : (origin first : ℕ) (xs : List ℕ) → HasNoTagTwice (tagged_chars origin first xs)
no_tag_twice origin first [] = tt
no_tag_twice origin first (x ∷ xs) =
    (All-from_recursion _ _ (later_tags origin first (suc first) xs (omega arith)), no_tag_twice origin (suc first) xs)
