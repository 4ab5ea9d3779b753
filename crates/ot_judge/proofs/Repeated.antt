-- Tags that stand in a list twice.
use Rattle.std.proofs.Common.{◌≡◌, ℕ, ◌+◌, ◌<◌, ◌≤◌, List, [], ◌∷◌, ◌++◌, length, get_or, take, drop, ap, sym, ◌∙◌, cond, arith, Bool, true, false, ◌||◌, ◌&&◌, refl, inl, inr, append-nil, append_assoc, subst}
use Rattle.std.specs.Prelude.{Some, None, find, nat_lt}
use Rattle.std.proofs.lemmas.Bool.{cases_Bool, lt-ltb}
use Rattle.std.proofs.lemmas.List.{drop_all, drop_more, take_more}
use Rattle.std.proofs.lemmas.List.Sums.{sum_by-append, sum_by-cons}
use Rattle.ot_isa.specs.declared.elements.Tag.{Tag}
use Rattle.ot_model.specs.Trace.{same_tag, contains, occurrences}
use Rattle.ot_judge.specs.Making.{first_again}
use Rattle.ot_judge.proofs.TagLemmas.{no_tag, same_tag-true, contains-more, occurrences-more, occurrences-absent}
use Rattle.ot_judge.proofs.Faults.{occurrences-present}

abbrev number_of : Bool → ℕ
number_of b = cond b 1 0

or_case : (a b c d : Bool) → a ≡ b → c ≡ d → (a || c) ≡ (b || d)
or_case a b c d p q = rw (p, q) refl

or_true : (b : Bool) → (b || true) ≡ true
or_true true = refl
or_true false = refl

-- one more tag, and what stands twice with it
repeated-met : (n : ℕ) (seen : Bool) → (seen ≡ true → 1 ≤ n) → (seen ≡ false → n ≡ 0) → (nat_lt 1 n || (true && seen)) ≡ nat_lt 1 (n + 1)
repeated-met n true some none = or_true (nat_lt 1 n) ∙ sym (lt-ltb 1 (n + 1) (omega (arith, some refl)))
repeated-met n false some none = rw (none refl) refl

repeated-other : (n : ℕ) (seen : Bool) → (nat_lt 1 n || (false && seen)) ≡ nat_lt 1 (n + 0)
repeated-other n seen = grind arith

pub repeated-more : (tags : List Tag) (i : ℕ) (q : Tag) (had seen new : Bool) → i < length tags → had ≡ nat_lt 1 (occurrences q (take i tags)) → seen ≡ contains (take i tags) q → new ≡ (had || (same_tag q (get_or tags i no_tag) && seen)) → new ≡ nat_lt 1 (occurrences q (take (i + 1) tags))
repeated-more tags i q had seen new lt h s n =
    let front : List Tag = take i tags in
    let count : ℕ = occurrences q front in
    let here : Bool = same_tag q (get_or tags i no_tag) in
    let start = n ∙ or_case had (nat_lt 1 count) (here && seen) (here && seen) h refl in
    let more = occurrences-more tags q i no_tag lt in
    elim (cases_Bool here) [
      | inl met ↦ start ∙ ap (λ (b : Bool). nat_lt 1 count || (b && seen)) met
          ∙ repeated-met count seen (λ e. occurrences-present q front (sym s ∙ e)) (λ e. occurrences-absent q front (sym s ∙ e))
          ∙ ap (nat_lt 1) (sym (more ∙ ap (λ (b : Bool). count + number_of b) met))
      | inr not_met ↦ start ∙ ap (λ (b : Bool). nat_lt 1 count || (b && seen)) not_met
          ∙ repeated-other count seen
          ∙ ap (nat_lt 1) (sym (more ∙ ap (λ (b : Bool). count + number_of b) not_met))
    ]

pub seen-more : (tags : List Tag) (i : ℕ) (q : Tag) (had new : Bool) → i < length tags → had ≡ contains (take i tags) q → new ≡ (had || same_tag q (get_or tags i no_tag)) → new ≡ contains (take (i + 1) tags) q
seen-more tags i q had new lt h n = n ∙ ap (λ (b : Bool). b || same_tag q (get_or tags i no_tag)) h ∙ sym (contains-more tags q i no_tag lt)

pub find-agree : (p r : Tag → Bool) → ((a : Tag) → p a ≡ r a) → (xs : List Tag) → find p xs ≡ find r xs
find-agree p r same [] = refl
find-agree p r same (x ∷ xs) = rw (same x, find-agree p r same xs) refl

-- no tag among those before it: each stands once
few-push : (before : List Tag) (a q : Tag) → ((q : Tag) → occurrences q before ≤ 1) → contains before a ≡ false → occurrences q (before ++ a ∷ []) ≤ 1
few-push before a q few absent =
    let all = sum_by-append (λ (b : Tag). cond (same_tag q b) 1 0) before (a ∷ []) in
    let one = sum_by-cons (λ (b : Tag). cond (same_tag q b) 1 0) a [] in
    elim (cases_Bool (same_tag q a)) [
      | inl met ↦
          let gone = ap (λ (b : Tag). occurrences b before) (same_tag-true q a met) ∙ occurrences-absent a before absent in
          omega (arith, all, one, ap number_of met, gone)
      | inr not_met ↦ omega (arith, all, one, ap number_of not_met, few q)
    ]

pub again-none : (before tags : List Tag) → ((q : Tag) → occurrences q before ≤ 1) → first_again before tags ≡ None → (q : Tag) → occurrences q (before ++ tags) ≤ 1
again-none before [] few h q = subst (λ (xs : List Tag). occurrences q xs ≤ 1) (sym (append-nil before)) (few q)
again-none before (a ∷ tags) few h q = elim (cases_Bool (contains before a)) [
  | inl met ↦ absurd (let clash = sym (ap (λ (b : Bool). cond b (Some a) (first_again (before ++ a ∷ []) tags)) met) ∙ h in cc)
  | inr not_met ↦
      let rest = sym (ap (λ (b : Bool). cond b (Some a) (first_again (before ++ a ∷ []) tags)) not_met) ∙ h in
      subst (λ (xs : List Tag). occurrences q xs ≤ 1) (append_assoc before (a ∷ []) tags) (again-none (before ++ a ∷ []) tags (λ r. few-push before a r few not_met) rest q)
]

-- ---- the search for a tag that is named again, part way

again-step : (tags : List Tag) (i : ℕ) (d : Tag) (b : Bool) → i < length tags → contains (take i tags) (get_or tags i d) ≡ b → first_again (take i tags) (drop i tags) ≡ cond b (Some (get_or tags i d)) (first_again (take (i + 1) tags) (drop (i + 1) tags))
again-step tags i d b lt is =
    let a : Tag = get_or tags i d in
    ap (first_again (take i tags)) (drop_more tags i d lt) ∙ ap (λ (t : Bool). cond t (Some a) (first_again (take i tags ++ a ∷ []) (drop (i + 1) tags))) is
    ∙ ap (λ ts. cond b (Some a) (first_again ts (drop (i + 1) tags))) (sym (take_more tags i d lt))

pub again-on : (tags : List Tag) (i : ℕ) (d : Tag) → i < length tags → contains (take i tags) (get_or tags i d) ≡ false → first_again [] tags ≡ first_again (take i tags) (drop i tags) → first_again [] tags ≡ first_again (take (i + 1) tags) (drop (i + 1) tags)
again-on tags i d lt out before = before ∙ again-step tags i d false lt out

pub again-here : (tags : List Tag) (i : ℕ) (d : Tag) → i < length tags → contains (take i tags) (get_or tags i d) ≡ true → first_again [] tags ≡ first_again (take i tags) (drop i tags) → Some (get_or tags i d) ≡ first_again [] tags
again-here tags i d lt met before = sym (before ∙ again-step tags i d true lt met)

pub again-end : (tags : List Tag) (i : ℕ) → length tags ≤ i → first_again [] tags ≡ first_again (take i tags) (drop i tags) → None ≡ first_again [] tags
again-end tags i le before = sym (before ∙ ap (first_again (take i tags)) (drop_all i tags le))
