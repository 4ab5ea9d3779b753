-- Lists of several replicas, and their elements by number.
use Rattle.std.proofs.Common.{◌≡◌, ◌≢◌, ℕ, ◌<◌, List, [], length, map, ap, sym, ◌∙◌, arith, ◌⊎◌, inl, inr, refl, subst}
use Rattle.std.proofs.lemmas.Bool.{cases_eq, cases_lt, cases_order}
use Rattle.std.proofs.lemmas.List.{get_or_past, get_or-map, length-map}
use Rattle.ot_isa.specs.declared.elements.Tag.{Tag}
use Rattle.ot_judge.specs.declared.seats.Seat.{Seat}
use Rattle.ot_model.specs.WeakList.{IsBefore, IsReversed, nth}
use Rattle.ot_judge.specs.Replicas.{IsOwn, IsSettled, Leads, entry_of}
use Rattle.ot_judge.specs.Seats.{Agree, AgreesAt, IsSeated}
use Rattle.ot_judge.proofs.Seated.{agree-seated}

-- ---- a replica's own lists

-- a replica whose lists are seated, and beside which the others were held
pub settled : (seats : List Seat) (actors sizes own : List ℕ) (lists : List (List ℕ)) (replica : ℕ) → IsOwn actors (length lists) replica own → ((k : ℕ) → k < length own → IsSeated seats (nth lists (entry_of own k)) k)
    → ((d : ℕ) → d < length lists → Leads sizes replica (entry_of actors d) → AgreesAt seats (nth lists d) 0 (length own)) → IsSettled actors sizes lists replica
settled seats actors sizes own lists replica owns seated beside = λ d e d_in e_in e_own which.
    let w = owns e e_in e_own in
    let e_seated = subst (λ (n : ℕ). IsSeated seats (nth lists n) w.0) w.2 (seated w.0 w.1) in
    elim which [
      | inl d_own ↦
          let v = owns d d_in d_own in
          agree-seated seats (nth lists d) (nth lists e) v.0 w.0 (subst (λ (n : ℕ). IsSeated seats (nth lists n) v.0) v.2 (seated v.0 v.1)) e_seated
      | inr leads ↦ beside d d_in leads w.0 (nth lists e) (omega arith) w.1 e_seated
    ]

-- ---- all replicas

-- of two replicas, the lists of one are held beside those of the other
leads-either : (sizes : List ℕ) (r s : ℕ) → r ≢ s → Leads sizes r s ⊎ Leads sizes s r
leads-either sizes r s apart = elim (cases_order (entry_of sizes s) (entry_of sizes r)) [
  | inl same ↦ elim (cases_order s r) [
    | inl is ↦ absurd (apart (sym is))
    | inr (inl less) ↦ inl (inr (same, less))
    | inr (inr more) ↦ inr (inr (sym same, more))
  ]
  | inr (inl less) ↦ inl (inl less)
  | inr (inr more) ↦ inr (inl more)
]

agree-turned : (xs ys : List ℕ) → Agree xs ys → Agree ys xs
agree-turned xs ys h = λ a b forth back. h b a back forth

agree-settled : (actors sizes : List ℕ) (lists : List (List ℕ)) (replicas : ℕ) → ((r : ℕ) → r < replicas → IsSettled actors sizes lists r) → ((e : ℕ) → e < length lists → entry_of actors e < replicas) → (d e : ℕ) → d < length lists → e < length lists → Agree (nth lists d) (nth lists e)
agree-settled actors sizes lists replicas all few d e d_in e_in =
    elim (cases_eq (entry_of actors d) (entry_of actors e)) [
      | inl same ↦ all (entry_of actors e) (few e e_in) d e d_in e_in refl (inl same)
      | inr apart ↦ elim (leads-either sizes (entry_of actors d) (entry_of actors e) apart) [
        | inl leads ↦ agree-turned (nth lists e) (nth lists d) (all (entry_of actors d) (few d d_in) e d e_in d_in refl (inr leads))
        | inr leads ↦ all (entry_of actors e) (few e e_in) d e d_in e_in refl (inr leads)
      ]
    ]

pub settled-none : (actors sizes : List ℕ) (lists : List (List ℕ)) (replicas : ℕ) → ((r : ℕ) → r < replicas → IsSettled actors sizes lists r) → ((e : ℕ) → e < length lists → entry_of actors e < replicas) → (d e a b : ℕ) → ¬ IsReversed lists d e a b
settled-none actors sizes lists replicas all few = λ d e a b r. elim (cases_lt e (length lists)) [
  | inl within ↦ agree-settled actors sizes lists replicas all few d e (omega (arith, r.later, within)) within a b r.forth r.back
  | inr past ↦
      let empty : length (nth lists e) ≡ 0 = ap (λ (xs : List ℕ). length xs) (get_or_past lists e [] past) in
      absurd (omega (arith, empty, r.back.within))
]

-- ---- numbers

before-numbered : (f : Tag → ℕ) (xs : List Tag) (a b : Tag) → IsBefore xs a b → IsBefore (map f xs) (f a) (f b)
before-numbered f xs a b h = record {
  first = h.first;
  second = h.second;
  order = h.order;
  within = omega (arith, h.within, length-map xs f);
  here = get_or-map f xs h.first a (f a) (omega (arith, h.order, h.within)) ∙ ap f h.here;
  there = get_or-map f xs h.second b (f b) h.within ∙ ap f h.there;
}

nth-numbered : (f : Tag → ℕ) (lists : List (List Tag)) (e : ℕ) → nth (map (map f) lists) e ≡ map f (nth lists e)
nth-numbered f lists e = elim (cases_lt e (length lists)) [
  | inl within ↦ get_or-map (map f) lists e [] [] within
  | inr past ↦ get_or_past (map (map f) lists) e [] (omega (arith, past, length-map lists (map f))) ∙ sym (ap (map f) (get_or_past lists e [] past))
]

-- what is reversed in lists is reversed in their numbers
reversed-numbered : (f : Tag → ℕ) (lists : List (List Tag)) (d e : ℕ) (a b : Tag) → IsReversed lists d e a b → IsReversed (map (map f) lists) d e (f a) (f b)
reversed-numbered f lists d e a b r = record {
  later = r.later;
  forth = subst (λ (xs : List ℕ). IsBefore xs (f a) (f b)) (sym (nth-numbered f lists d)) (before-numbered f (nth lists d) a b r.forth);
  back = subst (λ (xs : List ℕ). IsBefore xs (f b) (f a)) (sym (nth-numbered f lists e)) (before-numbered f (nth lists e) b a r.back);
}

pub none-numbered : (f : Tag → ℕ) (lists : List (List Tag)) (numbered : List (List ℕ)) → numbered ≡ map (map f) lists → ((d e a b : ℕ) → ¬ IsReversed numbered d e a b) → (d e : ℕ) (a b : Tag) → ¬ IsReversed lists d e a b
none-numbered f lists numbered is none = λ d e a b r. none d e (f a) (f b) (subst (λ (ns : List (List ℕ)). IsReversed ns d e (f a) (f b)) (sym is) (reversed-numbered f lists d e a b r))
