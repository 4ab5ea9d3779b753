-- Keys and their counts, from a place on.
use Rattle.std.proofs.Common.{◌≡◌, ℕ, ◌+◌, ◌<◌, ◌≤◌, List, [], ◌∷◌, ◌++◌, length, take, drop, get_or, Bool, true, refl, sym, ap, ◌∙◌, inl, inr, arith, add-one, append_assoc, drop-cons}
use Rattle.std.specs.Prelude.{◌⊎◌, ◌&&◌, slice_set}
use Rattle.std.proofs.lemmas.Bool.{cases_lt}
use Rattle.std.proofs.lemmas.List.{drop-set-lt, drop_all, set_past, take-append-drop, take_more_set}
use Rattle.ot_conform.specs.Answers.{count_name, count_text, counts_text}
use Rattle.ot_conform.specs.Counted.{are_nothing, count_each, one_more, shows_nothing}
use Rattle.ot_conform.specs.Json.{count_item, count_items}
use Rattle.ot_steps.specs.declared.key.Key.{Key}

pub at_place : {A : Type 0} (xs : List A) (i : ℕ) (x : A) → i < length xs → drop i xs ≡ get_or xs i x ∷ drop (i + 1) xs
at_place xs i x within = drop-cons xs i x within ∙ ap (λ (n : ℕ). get_or xs i x ∷ drop n xs) (sym (add-one i))

-- the keys before a place are counted
abbrev pub counted_to : (Key → Bool) → List Key → List ℕ → ℕ → List ℕ
counted_to told ks ns i = take i ns ++ count_each told (drop i ks) (drop i ns)

count_within : (told : Key → Bool) (ks : List Key) (ns : List ℕ) (i : ℕ) (k : Key) (d : ℕ) → i < length ks → i < length ns
    → counted_to told ks ns i ≡ counted_to told ks (slice_set ns i (one_more (told (get_or ks i k)) (get_or ns i d))) (i + 1)
count_within told ks ns i k d in_ks in_ns =
    let v : ℕ = one_more (told (get_or ks i k)) (get_or ns i d) in
    ap (λ (xs : List Key). take i ns ++ count_each told xs (drop i ns)) (at_place ks i k in_ks)
    ∙ ap (λ (xs : List ℕ). take i ns ++ count_each told (get_or ks i k ∷ drop (i + 1) ks) xs) (at_place ns i d in_ns)
    ∙ sym (append_assoc (take i ns) (v ∷ []) (count_each told (drop (i + 1) ks) (drop (i + 1) ns)))
    ∙ ap (λ (xs : List ℕ). xs ++ count_each told (drop (i + 1) ks) (drop (i + 1) ns)) (sym (take_more_set ns i v in_ns))
    ∙ ap (λ (xs : List ℕ). take (i + 1) (slice_set ns i v) ++ count_each told (drop (i + 1) ks) xs) (sym (drop-set-lt (i + 1) ns i v (omega arith)))

count_none : (told : Key → Bool) (ks : List Key) → count_each told ks [] ≡ []
count_none told [] = refl
count_none told (k ∷ ks) = refl

-- no count is left
count_past : (told : Key → Bool) (ks : List Key) (ns : List ℕ) (i : ℕ) → length ns ≤ i → counted_to told ks ns i ≡ ns
count_past told ks ns i past =
    ap (λ (xs : List ℕ). take i ns ++ count_each told (drop i ks) xs) (drop_all i ns past)
    ∙ ap (λ (xs : List ℕ). take i ns ++ xs) (count_none told (drop i ks) ∙ sym (drop_all i ns past))
    ∙ take-append-drop i ns

pub count_next : (told : Key → Bool) (ks : List Key) (ns : List ℕ) (i : ℕ) (k : Key) (d : ℕ) → i < length ks
    → counted_to told ks ns i ≡ counted_to told ks (slice_set ns i (one_more (told (get_or ks i k)) (get_or ns i d))) (i + 1)
count_next told ks ns i k d in_ks = go (cases_lt i (length ns))
  where
    v : ℕ
    v = one_more (told (get_or ks i k)) (get_or ns i d)

    go : (i < length ns) ⊎ (length ns ≤ i) → counted_to told ks ns i ≡ counted_to told ks (slice_set ns i v) (i + 1)
    go (inl within) = count_within told ks ns i k d in_ks within
    go (inr past) = count_past told ks ns i past ∙ sym (ap (λ (xs : List ℕ). counted_to told ks xs (i + 1)) (set_past ns i v past) ∙ count_past told ks ns (i + 1) (omega (arith, past)))

-- the text of the next count
pub text_next : (ks : List Key) (ns : List ℕ) (i : ℕ) (k : Key) (d : ℕ) → i < length ks → i < length ns
    → counts_text (drop i ks) (drop i ns) ≡ count_text (count_name (get_or ks i k)) (get_or ns i d) ++ counts_text (drop (i + 1) ks) (drop (i + 1) ns)
text_next ks ns i k d in_ks in_ns =
    ap (λ (xs : List Key). counts_text xs (drop i ns)) (at_place ks i k in_ks)
    ∙ ap (counts_text (get_or ks i k ∷ drop (i + 1) ks)) (at_place ns i d in_ns)

pub text_done : (ks : List Key) (ns : List ℕ) (i : ℕ) → length ks ≤ i → counts_text (drop i ks) (drop i ns) ≡ []
text_done ks ns i past = ap (λ (xs : List Key). counts_text xs (drop i ns)) (drop_all i ks past)

-- whether the counts from there on are nothing
nothing_next : (ks : List Key) (ns : List ℕ) (i : ℕ) (k : Key) (d : ℕ) → i < length ks → i < length ns
    → are_nothing (drop i ks) (drop i ns) ≡ (shows_nothing (get_or ks i k) (get_or ns i d) && are_nothing (drop (i + 1) ks) (drop (i + 1) ns))
nothing_next ks ns i k d in_ks in_ns =
    ap (λ (xs : List Key). are_nothing xs (drop i ns)) (at_place ks i k in_ks)
    ∙ ap (are_nothing (get_or ks i k ∷ drop (i + 1) ks)) (at_place ns i d in_ns)

pub nothing_goes : (ks : List Key) (ns : List ℕ) (i : ℕ) (k : Key) (d : ℕ) (b : Bool) → i < length ks → i < length ns → shows_nothing (get_or ks i k) (get_or ns i d) ≡ b
    → are_nothing (drop i ks) (drop i ns) ≡ (b && are_nothing (drop (i + 1) ks) (drop (i + 1) ns))
nothing_goes ks ns i k d b in_ks in_ns is = nothing_next ks ns i k d in_ks in_ns ∙ ap (λ (c : Bool). c && are_nothing (drop (i + 1) ks) (drop (i + 1) ns)) is

pub nothing_done : (ks : List Key) (ns : List ℕ) (i : ℕ) → length ks ≤ i → are_nothing (drop i ks) (drop i ns) ≡ true
nothing_done ks ns i past = ap (λ (xs : List Key). are_nothing xs (drop i ns)) (drop_all i ks past)

-- the item of the next count
pub items_next : (ks : List Key) (ns : List ℕ) (i : ℕ) (k : Key) (d : ℕ) → i < length ks → i < length ns
    → count_items (drop i ks) (drop i ns) ≡ count_item (count_name (get_or ks i k)) (get_or ns i d) ∷ count_items (drop (i + 1) ks) (drop (i + 1) ns)
items_next ks ns i k d in_ks in_ns =
    ap (λ (xs : List Key). count_items xs (drop i ns)) (at_place ks i k in_ks)
    ∙ ap (count_items (get_or ks i k ∷ drop (i + 1) ks)) (at_place ns i d in_ns)

pub items_done : (ks : List Key) (ns : List ℕ) (i : ℕ) → length ks ≤ i → count_items (drop i ks) (drop i ns) ≡ []
items_done ks ns i past = ap (λ (xs : List Key). count_items xs (drop i ns)) (drop_all i ks past)
