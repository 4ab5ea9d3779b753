-- The tags of a list before an edit that are not in the one after it.
use Rattle.std.proofs.Common.{◌≡◌, ℕ, ◌-◌, ◌≤◌, List, [], ◌∷◌, ◌++◌, length, take, drop, filter, not, refl, sym, ap, ◌∙◌, arith, Bool, true, if◌then◌else◌, append_assoc}
use Rattle.std.proofs.lemmas.Bool.{or_left, or_right}
use Rattle.std.proofs.lemmas.List.{take-append-drop, take_all, append-nil, length-drop}
use Rattle.std.proofs.lemmas.List.Elements.{filter-append}
use Rattle.std.proofs.lemmas.List.Folds.{list_any-append}
use Rattle.std.specs.List.{list_any}
use Rattle.ot_isa.specs.declared.elements.Tag.{Tag}
use Rattle.ot_model.specs.Trace.{contains, same_tag}
use Rattle.ot_judge.proofs.TagLemmas.{same_tag-refl}

-- those that went
abbrev gone : List Tag → List Tag → List Tag
gone after before = filter (λ t. not (contains after t)) before

stands : (x : Tag) (l r : List Tag) → contains (l ++ x ∷ r) x ≡ true
stands x l r =
    list_any-append (same_tag x) l (x ∷ r)
    ∙ or_right (list_any (same_tag x) l) (list_any (same_tag x) (x ∷ r)) (or_left (same_tag x x) (list_any (same_tag x) r) (same_tag-refl x))

-- none of a part of the list after it
part_stays : (after l xs r : List Tag) → after ≡ l ++ (xs ++ r) → gone after xs ≡ []
part_stays after l [] r is = refl
part_stays after l (x ∷ xs) r is =
    ap (λ (b : Bool). if not b then x ∷ gone after xs else gone after xs) (ap (λ (ts : List Tag). contains ts x) is ∙ stands x l (xs ++ r))
    ∙ part_stays after (l ++ x ∷ []) xs r (is ∙ sym (append_assoc l (x ∷ []) (xs ++ r)))

-- what a list ends with, as the code takes it
abbrev rest_from : ℕ → List Tag → List Tag
rest_from first xs = take (length xs - first) (drop first xs)

rest_is : (first : ℕ) (xs : List Tag) → rest_from first xs ≡ drop first xs
rest_is first xs = let long = length-drop first xs in take_all (length xs - first) (drop first xs) (omega arith)

-- what went, where the lists begin with the same
pub gone_rest : (before after : List Tag) (first : ℕ) → take first before ≡ take first after → gone after (rest_from first before) ≡ gone after before
gone_rest before after first same =
    let front : gone after (take first before) ≡ [] =
    part_stays after [] (take first before) (drop first after) (sym (take-append-drop first after) ∙ ap (λ (ts : List Tag). ts ++ drop first after) (sym same)) in
    ap (gone after) (rest_is first before)
    ∙ sym
    (ap (gone after) (sym (take-append-drop first before))
    ∙ filter-append (λ t. not (contains after t)) (take first before) (drop first before)
    ∙ ap (λ (ts : List Tag). ts ++ gone after (drop first before)) front)

-- nothing, where the list after it ends with all of it
pub gone_none : (rest after : List Tag) (count : ℕ) → length rest ≤ length after → count ≡ length rest → take count rest ≡ take count (rest_from (length after - length rest) after) → gone after rest ≡ []
gone_none rest after count fits all same =
    let from : ℕ = length after - length rest in
    let long = length-drop from after in
    let is : rest ≡ drop from after =
    sym (take_all count rest (omega arith)) ∙ same ∙ ap (λ (ts : List Tag). take count ts) (rest_is from after) ∙ take_all count (drop from after) (omega arith) in
    part_stays after (take from after) rest [] (sym (take-append-drop from after) ∙ ap (λ (ts : List Tag). take from after ++ ts) (sym is ∙ sym (append-nil rest)))
