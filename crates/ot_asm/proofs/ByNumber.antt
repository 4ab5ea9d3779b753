-- A text with names, number by number; and without names.
use Rattle.std.proofs.Common.{◌≡◌, ◌==◌, not, ℕ, Bool, true, false, List, [], ◌∷◌, ◌++◌, length, refl, sym, ap, ◌∙◌}
use Rattle.std.proofs.lemmas.Bool.{eqb-true}
use Rattle.std.proofs.lemmas.List.{nil_from_length}
use Rattle.std.specs.Prelude.{if◌then◌else◌}
use Rattle.ot_asm.specs.Named.{before_byte, is_of_word, name_at, named, named_from, next}
use Rattle.ot_asm.specs.declared.place.Place.{Place}
use Rattle.ot_asm.specs.declared.place.Place.TheVariants.{Apart, Word, Client, Behind, Number, Inside, Escaped}

-- so much of the text is written
pub record IsNamed (names : List (List ℕ)) (text shown rest : List ℕ) : Type 0 where
  pub all : shown ++ named names rest ≡ named names text

pub begun_naming : (names : List (List ℕ)) (text shown : List ℕ) → shown ≡ [] → IsNamed names text shown text
begun_naming names text shown is = record { all = ap (λ (t : List ℕ). t ++ named names text) is }

pub all_named : (names : List (List ℕ)) (text shown more rest : List ℕ) → IsNamed names text shown rest → ((others : List (List ℕ)) → named others rest ≡ rest) → more ≡ shown ++ rest → more ≡ named names text
all_named names text shown more rest so_far plain is_more = is_more ∙ ap (λ (t : List ℕ). shown ++ t) (sym (plain names)) ∙ so_far.all

-- ---- without names

nothing_at : (place : Place) → name_at [] place ≡ []
nothing_at Apart = refl
nothing_at Word = refl
nothing_at (Client count) = refl
nothing_at Behind = refl
nothing_at (Number n) = refl
nothing_at Inside = refl
nothing_at Escaped = refl

nothing_before : (place : Place) (b : ℕ) → before_byte [] place b ≡ []
nothing_before place b = go (is_of_word b)
  where
    go : (t : Bool) → (if t then [] else name_at [] place) ≡ []
    go true = refl
    go false = nothing_at place

same_from : (place : Place) (text : List ℕ) → named_from [] place text ≡ text
same_from place [] = nothing_at place
same_from place (b ∷ bs) = ap (λ (t : List ℕ). t ++ (b ∷ named_from [] (next place b) bs)) (nothing_before place b) ∙ ap (λ (t : List ℕ). b ∷ t) (same_from (next place b) bs)

pub same : (text : List ℕ) → named [] text ≡ text
unfolding named
same text = same_from Apart text

-- nobody has a name
nothing_listed : (t : Bool) → not t ≡ false → t ≡ true
nothing_listed true e = refl
nothing_listed false e = absurd (cc e)

pub nobody_named : (names : List (List ℕ)) (text shown : List ℕ) → not (length names == 0) ≡ false → shown ≡ text → shown ≡ named names text
nobody_named names text shown none is =
    let nobody = nil_from_length names (eqb-true (length names) 0 (nothing_listed (length names == 0) none)) in
    is ∙ sym (ap (λ (n : List (List ℕ)). named n text) nobody ∙ same text)
