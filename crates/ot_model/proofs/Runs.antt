-- A run, instruction by instruction.
use Rattle.std.proofs.Common.{◌≡◌, ℕ, zero, suc, ◌+◌, ◌≤◌, List, [], ◌∷◌, ◌++◌, length, take, refl, ap, subst, ◌∙◌, arith, Option, Some, None}
use Rattle.std.specs.Prelude.{slice_get, ◌↔◌, IsSome}
use Rattle.std.proofs.lemmas.Option.{same_Some}
use Rattle.ot_isa.specs.Program.{Program}
use Rattle.ot_isa.specs.declared.instruction.Instr.{Instr}
use Rattle.ot_model.specs.declared.shown.Shown.{Shown}
use Rattle.ot_model.specs.Table.{State, Place, Outcome, Performed, Refused, NoRow, with_shown, step, run, performed}
use Rattle.ot_model.specs.Runs.{done, opening_of, place_at, IsStateAt}
use Rattle.ot_model.proofs.States.{take_entry}

-- a run of more instructions goes on where the first ones end
pub run-append : (is js : List Instr) (p q : Place) → run is p ≡ Some q → run (is ++ js) p ≡ run js q
run-append [] js p q e = ap (run js) (same_Some p q e)
run-append (i ∷ is) js p q e = go (λ r f. run-append is js r q f) (step p.state i) e
  where
    go : ((r : Place) → run is r ≡ Some q → run (is ++ js) r ≡ run js q) → (o : Outcome)
        → (elim o [ Performed t list ↦ run is (record { state = t; shown = with_shown p.shown list }) | Refused r ↦ None | NoRow ↦ None ]) ≡ Some q
        → (elim o [ Performed t list ↦ run (is ++ js) (record { state = t; shown = with_shown p.shown list }) | Refused r ↦ None | NoRow ↦ None ]) ≡ run js q
    go on (Performed t list) f = on (record { state = t; shown = with_shown p.shown list }) f
    go on (Refused r) f = absurd (cc)
    go on NoRow f = absurd (cc)

-- the first instructions can be performed as far as `performed` says
pub run-within : (is : List Instr) (p : Place) (n : ℕ) → n ≤ performed is p.state → IsSome (run (take n is) p)
run-within is p zero le = refl
run-within [] p (suc n) le = refl
run-within (i ∷ is) p (suc n) le = go (λ r f. run-within is r n f) (step p.state i) le
  where
    go : ((r : Place) → n ≤ performed is r.state → IsSome (run (take n is) r)) → (o : Outcome)
        → suc n ≤ (elim o [ Performed t list ↦ suc (performed is t) | Refused r ↦ 0 | NoRow ↦ 0 ])
        → IsSome (elim o [ Performed t list ↦ run (take n is) (record { state = t; shown = with_shown p.shown list }) | Refused r ↦ None | NoRow ↦ None ])
    go on (Performed t list) f = on (record { state = t; shown = with_shown p.shown list }) (omega arith)
    go on (Refused r) f = absurd (omega arith)
    go on NoRow f = absurd (omega arith)

-- and no further
pub run-past : (is : List Instr) (p : Place) (n : ℕ) → n ≤ length is → IsSome (run (take n is) p) → n ≤ performed is p.state
run-past is p zero le some = omega arith
run-past [] p (suc n) le some = absurd (omega arith)
run-past (i ∷ is) p (suc n) le some = go (λ r f. run-past is r n (omega arith) f) (step p.state i) some
  where
    go : ((r : Place) → IsSome (run (take n is) r) → n ≤ performed is r.state) → (o : Outcome)
        → IsSome (elim o [ Performed t list ↦ run (take n is) (record { state = t; shown = with_shown p.shown list }) | Refused r ↦ None | NoRow ↦ None ])
        → suc n ≤ (elim o [ Performed t list ↦ suc (performed is t) | Refused r ↦ 0 | NoRow ↦ 0 ])
    go on (Performed t list) f = let g = on (record { state = t; shown = with_shown p.shown list }) f in omega arith
    go on (Refused r) f = absurd (cc)
    go on NoRow f = absurd (cc)

pub performed-length : (is : List Instr) (s : State) → performed is s ≤ length is
performed-length [] s = omega arith
performed-length (i ∷ is) s = go (λ t. performed-length is t) (step s i)
  where
    go : ((t : State) → performed is t ≤ length is) → (o : Outcome) → (elim o [ Performed t list ↦ suc (performed is t) | Refused r ↦ 0 | NoRow ↦ 0 ]) ≤ suc (length is)
    go on (Performed t list) = let f = on t in omega arith
    go on (Refused r) = omega arith
    go on NoRow = omega arith

-- how far a run of the rest goes, where the first ones are performed
pub performed-append : (is js : List Instr) (p q : Place) → run is p ≡ Some q → performed (is ++ js) p.state ≡ length is + performed js q.state
performed-append [] js p q e = let f = ap (λ (r : Place). performed js r.state) (same_Some p q e) in omega arith
performed-append (i ∷ is) js p q e = go (λ r f. performed-append is js r q f) (step p.state i) e
  where
    go : ((r : Place) → run is r ≡ Some q → performed (is ++ js) r.state ≡ length is + performed js q.state) → (o : Outcome)
        → (elim o [ Performed t list ↦ run is (record { state = t; shown = with_shown p.shown list }) | Refused r ↦ None | NoRow ↦ None ]) ≡ Some q
        → (elim o [ Performed t list ↦ suc (performed (is ++ js) t) | Refused r ↦ 0 | NoRow ↦ 0 ]) ≡ suc (length is) + performed js q.state
    go on (Performed t list) f = let g = on (record { state = t; shown = with_shown p.shown list }) f in omega arith
    go on (Refused r) f = absurd (cc)
    go on NoRow f = absurd (cc)

-- one instruction
pub run_performed : (i : Instr) (p : Place) (t : State) (list : Option _) → step p.state i ≡ Performed t list → run (i ∷ []) p ≡ Some (record { state = t; shown = with_shown p.shown list })
run_performed i p t list e = rw (run, e) refl

-- a schedule's place after one more instruction
pub place_at-next : (s : Program) (p : ℕ) (q : Place) (i : Instr) (t : State) (list : Option _) → place_at s p ≡ Some q → slice_get s.instrs p ≡ Some i → step q.state i ≡ Performed t list
    → place_at s (suc p) ≡ Some (record { state = t; shown = with_shown q.shown list })
place_at-next s p q i t list here at e = rw (take_entry s.instrs p i at) (run-append (take p s.instrs) (i ∷ []) _ q here ∙ run_performed i q t list e)

-- the state at a place: at the opening, and one instruction on
pub state_begun : (s : Program) (state : State) → state ≡ opening_of s → IsStateAt s 0 state
state_begun s state is = record { shown = []; at = rw is refl }

pub state_next : (s : Program) (p : ℕ) (i : Instr) (state t : State) (list : Option Shown) → IsStateAt s p state → slice_get s.instrs p ≡ Some i → step state i ≡ Performed t list → IsStateAt s (p + 1) t
state_next s p i state t list is at performed =
    let more : suc p ≡ p + 1 = omega arith in
    subst (λ (n : ℕ). IsStateAt s n t) more
    (record { shown = with_shown is.shown list; at = place_at-next s p (record { state = state; shown = is.shown }) i t list is.at at performed })

pub reaches : (s : Program) (p : ℕ) → p ≤ length s.instrs → (p ≤ done s) ↔ IsSome (place_at s p)
reaches s p le = (λ f. run-within s.instrs _ p f, λ some. run-past s.instrs _ p le some)
