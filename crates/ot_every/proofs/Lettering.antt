-- The texts of the edits, letter by letter.
use Rattle.std.proofs.Common.{◌≡◌, ℕ, zero, suc, ◌+◌, List, [], ◌∷◌, ◌++◌, map, refl, sym, ap, ap₂, ◌∙◌, arith, Bool, true, false}
use Rattle.std.specs.Prelude.{not, vec_items, Vec}
use Rattle.std.specs.declared.alloc.Global.{Global}
use Rattle.std.proofs.lemmas.List.{map-append}
use Rattle.ot_every.specs.Listing.{letters_of, texts_from}
use Rattle.ot_every.specs.Walking.{letter_of}

abbrev pub is_even : ℕ → Bool
is_even zero = true
is_even (suc n) = not (is_even n)

not_not : (b : Bool) → b ≡ not (not b)
not_not true = refl
not_not false = refl

pub letters_push : (n edit : ℕ) → letters_of n edit ++ letter_of (is_even n) edit ∷ [] ≡ letters_of (suc n) edit
letters_push zero edit = refl
letters_push (suc zero) edit = refl
letters_push (suc (suc n)) edit =
    ap (λ (ls : List ℕ). (97 + edit) ∷ (65 + edit) ∷ ls)
    (ap (λ (b : Bool). letters_of n edit ++ letter_of b edit ∷ []) (sym (not_not (is_even n))) ∙ letters_push n edit)

pub texts_push : (letters edit n : ℕ) → texts_from letters edit n ++ letters_of letters (edit + n) ∷ [] ≡ texts_from letters edit (suc n)
texts_push letters edit zero = let same : edit + 0 ≡ edit = omega arith in ap (λ (e : ℕ). letters_of letters e ∷ []) same
texts_push letters edit (suc n) =
    let same : edit + suc n ≡ suc edit + n = omega arith in
    ap (λ (ts : List (List ℕ)). letters_of letters edit ∷ ts)
    (ap (λ (e : ℕ). texts_from letters (suc edit) n ++ letters_of letters e ∷ []) same ∙ texts_push letters (suc edit) n)

pub letters_next : (edit k letter : ℕ) (items : List ℕ) (b : Bool) → items ≡ letters_of k edit → b ≡ is_even k → letter ≡ letter_of b edit → items ++ letter ∷ [] ≡ letters_of (k + 1) edit
letters_next edit k letter items b so_far even is =
    let next : suc k ≡ k + 1 = omega arith in
    ap₂ (λ (ls : List ℕ) (l : ℕ). ls ++ l ∷ []) so_far (is ∙ ap (λ (e : Bool). letter_of e edit) even) ∙ letters_push k edit ∙ ap (λ (n : ℕ). letters_of n edit) next

pub even_next : (k : ℕ) (b : Bool) → b ≡ is_even k → not b ≡ is_even (k + 1)
even_next k b even = let next : suc k ≡ k + 1 = omega arith in ap not even ∙ ap is_even next

pub texts_next : (count k : ℕ) (old new : List (Vec ℕ Global)) (text : Vec ℕ Global) → map vec_items old ≡ texts_from count 0 k → new ≡ old ++ text ∷ [] → text.items ≡ letters_of count k
    → map vec_items new ≡ texts_from count 0 (k + 1)
texts_next count k old new text so_far more is =
    let next : suc k ≡ k + 1 = omega arith in
    let zero_k : k ≡ 0 + k = omega arith in
    ap (map vec_items) more ∙ map-append vec_items old (text ∷ [])
    ∙ ap₂ (λ (ts : List (List ℕ)) (t : List ℕ). ts ++ t ∷ []) so_far (is ∙ ap (letters_of count) zero_k)
    ∙ texts_push count 0 k ∙ ap (texts_from count 0) next
