-- No two sessions that are listed have the same instructions in the same order on each machine.
use Rattle.std.proofs.Common.{◌≡◌, ℕ, zero, suc, List, [], ◌∷◌, ◌++◌, refl, sym, ap, ◌∙◌, subst, inl, inr, Option, Bool, true, false}
use Rattle.std.specs.Prelude.{◌&&◌, ◌||◌, not, if◌then◌else◌}
use Rattle.std.specs.List.{filter}
use Rattle.ot_isa.specs.declared.instruction.Instr.{Instr}
use Rattle.ot_model.specs.declared.shown.Shown.{Shown}
use Rattle.ot_model.specs.Table.{State, Outcome, Performed, Refused, NoRow, step}
use Rattle.ot_model.specs.Orders.{ClientMachine, is_at, AreSameOrders}
use Rattle.ot_model.proofs.Reordering.{IsApart, AllApart, apart_back, apart_or, found, same_rest, filter_yes, same_head}
use Rattle.ot_every.specs.Listing.{machine_of, is_before, is_there, Earlier, comes_late, candidates, texts_after, is_empty, is_settled, sessions_from}
use Rattle.ot_every.proofs.Lists.{IsIn, Pairwise, pairwise_map, pairwise_weaker, pairwise_filter, pairwise_flat}
use Rattle.ot_every.proofs.Machines.{apart_shares, machines_apart, either_before, client_before}
use Rattle.ot_every.proofs.There.{performed_there, there_stays}
use Rattle.ot_every.proofs.Nexts.{HaveLetters, candidates_differ}
use Rattle.ot_every.proofs.Listed.{GoesOn, behind, behind_cases, letters_after, listed_goes}

-- what comes late stays late behind instructions of other machines
late_step : (s : State) (i x : Instr) (path : List Earlier) → IsApart i x → is_there s i ≡ true → (is_before (machine_of i) (machine_of x) || comes_late path i) ≡ true → comes_late (record { before = s; instr = x } ∷ path) i ≡ true
late_step s i x path apart there late = rw (apart_shares i x apart, there, late) refl

either_true : (a b : Bool) → b ≡ true → (a || b) ≡ true
either_true true b e = refl
either_true false b e = e

first_true : (a b : Bool) → a ≡ true → (a || b) ≡ true
first_true a b e = rw e refl

-- so that no session goes on to it
never_late : (inserts : ℕ) (texts : List (List ℕ)) (path : List Earlier) (s : State) (pre post : List Instr) (i : Instr) (c : ℕ) → AllApart pre i → machine_of i ≡ ClientMachine c → is_there s i ≡ true → comes_late path i ≡ true
    → GoesOn inserts texts path s (pre ++ i ∷ post) → ⊥
unfolding AllApart
never_late inserts texts path s [] post i c apart own there late (t, a, e, next, not_late, rest) = absurd (cc)
never_late inserts texts path s (x ∷ pre) post i c apart own there late (t, a, e, next, not_late, rest) =
    never_late inserts (texts_after x texts) (record { before = s; instr = x } ∷ path) t pre post i c apart.1 own (there_stays s x i t a c e apart.0 own there)
    (late_step s i x path (apart_back x i apart.0) there (either_true (is_before (machine_of i) (machine_of x)) (comes_late path i) late)) rest

-- the first instructions of two orders that are the same on each machine share none, if they are not one
firsts_apart : (i j : Instr) (is js : List Instr) → (i ≡ j → ⊥) → AreSameOrders (i ∷ is) (j ∷ js) → IsApart i j
firsts_apart i j is js other same = elim (apart_or i j) [
  | inl apart ↦ apart
  | inr (w, on_i, on_j) ↦ absurd (other (same_head i j (filter (is_at w) is) (filter (is_at w) js) (sym (filter_yes (is_at w) i is on_i) ∙ same w ∙ filter_yes (is_at w) j js on_j)))
]

head_or : Instr → List Instr → Instr
head_or d [] = d
head_or d (i ∷ is) = i

tail_of : List Instr → List Instr
tail_of [] = []
tail_of (i ∷ is) = is

-- where the first of one stands before the other's, it comes late there
first_late : (inserts : ℕ) (texts : List (List ℕ)) (path : List Earlier) (s t : State) (a : Option Shown) (i j : Instr) (is js : List Instr) → (i ≡ j → ⊥) → is_before (machine_of i) (machine_of j) ≡ true → step s j ≡ Performed t a → is_there s i ≡ true
    → AreSameOrders (j ∷ js) (i ∷ is) → GoesOn inserts texts (record { before = s; instr = j } ∷ path) t js → ⊥
unfolding AllApart tail_of head_or
first_late inserts texts path s t a i j is js other before e there same goes =
    let apart = firsts_apart j i js is (λ d. other (sym d)) same in
    let cut = found (j ∷ js) i (λ w at. (filter (is_at w) is, same w ∙ filter_yes (is_at w) i is at)) in
    go cut.0 cut.1 cut.2 cut.3 apart
  where
    go : (pre post : List Instr) → j ∷ js ≡ pre ++ i ∷ post → AllApart pre i → IsApart j i → ⊥
    go [] post is_cut all apart = other (sym (ap (head_or j) is_cut))
    go (x ∷ pre) post is_cut all apart =
        let c = client_before (machine_of i) (machine_of j) before in
        let late = late_step s i j path (apart_back j i apart) there (first_true (is_before (machine_of i) (machine_of j)) (comes_late path i) before) in
        never_late inserts texts (record { before = s; instr = j } ∷ path) t pre post i c.0 all.1 c.1 (there_stays s j i t a c.0 e apart c.1 there) late
        (subst (GoesOn inserts texts (record { before = s; instr = j } ∷ path) t) (ap tail_of is_cut) goes)

-- no two from one state on
pub from_distinct : (inserts count : ℕ) (texts : List (List ℕ)) (path : List Earlier) (s : State) → HaveLetters texts → Pairwise (λ is js. AreSameOrders is js → ⊥) (sessions_from inserts count texts path s)
from_distinct inserts zero texts path s letters = at_end (is_empty texts && is_settled s)
  where
    at_end : (b : Bool) → Pairwise (λ is js. AreSameOrders is js → ⊥) (if b then [] ∷ [] else [])
    at_end true = (λ y h. absurd h, tt)
    at_end false = tt
from_distinct inserts (suc count) texts path s letters =
    let all = candidates inserts texts s in
    let kept = filter (λ i. not (comes_late path i)) all in
    pairwise_flat (λ i j. i ≡ j → ⊥) (λ is js. AreSameOrders is js → ⊥) (λ i. behind inserts count texts path s i (step s i)) kept
    (pairwise_filter (λ i j. i ≡ j → ⊥) (λ i. not (comes_late path i)) all (candidates_differ inserts texts s letters))
    (λ i h. one i (λ t. from_distinct inserts count (texts_after i texts) (record { before = s; instr = i } ∷ path) t (letters_after i texts letters)) (step s i))
    (λ i j h k other is js at_i at_j same. two i j other is js same
    (behind_cases inserts count texts path s i is (step s i) at_i) (behind_cases inserts count texts path s j js (step s j) at_j))
  where
    one : (i : Instr) → ((t : State) → Pairwise (λ is js. AreSameOrders is js → ⊥) (sessions_from inserts count (texts_after i texts) (record { before = s; instr = i } ∷ path) t)) → (o : Outcome)
        → Pairwise (λ is js. AreSameOrders is js → ⊥) (behind inserts count texts path s i o)
    one i rest (Performed t a) =
        pairwise_map (λ is js. AreSameOrders is js → ⊥) (λ is. i ∷ is) _ (pairwise_weaker (λ is js. AreSameOrders is js → ⊥) _ _ (λ is js h k not_same same. not_same (same_rest i is js same)) (rest t))
    one i rest (Refused r) = tt
    one i rest NoRow = tt

    two : (i j : Instr) → (i ≡ j → ⊥) → (is js : List Instr) → AreSameOrders is js
        → ((t : State) × (a : Option Shown) × (step s i ≡ Performed t a) × (is' : List Instr) × IsIn is' (sessions_from inserts count (texts_after i texts) (record { before = s; instr = i } ∷ path) t) × (is ≡ i ∷ is'))
        → ((t : State) × (a : Option Shown) × (step s j ≡ Performed t a) × (js' : List Instr) × IsIn js' (sessions_from inserts count (texts_after j texts) (record { before = s; instr = j } ∷ path) t) × (js ≡ j ∷ js')) → ⊥
    two i j other is js same (t, a, e, is', in_i, is_i) (u, b, f, js', in_j, is_j) =
        let orders : AreSameOrders (i ∷ is') (j ∷ js') = λ w. ap (filter (is_at w)) (sym is_i) ∙ same w ∙ ap (filter (is_at w)) is_j in
        let back : AreSameOrders (j ∷ js') (i ∷ is') = λ w. sym (orders w) in
        let goes_i = (listed_goes inserts count (texts_after i texts) (record { before = s; instr = i } ∷ path) t is' (letters_after i texts letters) in_i).1 in
        let goes_j = (listed_goes inserts count (texts_after j texts) (record { before = s; instr = j } ∷ path) u js' (letters_after j texts letters) in_j).1 in
        elim (either_before (machine_of i) (machine_of j) (machines_apart i j (firsts_apart i j is' js' other orders))) [
          | inl before ↦ first_late inserts (texts_after j texts) path s u b i j is' js' other before f (performed_there s i t a e) back goes_j
          | inr before ↦ first_late inserts (texts_after i texts) path s t a j i js' is' (λ d. other (sym d)) before e (performed_there s j u b f) orders goes_i
        ]
