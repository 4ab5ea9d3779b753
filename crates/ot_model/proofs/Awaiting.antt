-- What an instruction receives was sent by an instruction of the run before it.
use Rattle.std.proofs.Common.{◌≡◌, ℕ, zero, suc, ◌≤◌, ◌≢◌, List, [], ◌∷◌, ◌++◌, set, refl, sym, ap, ◌∙◌, subst, arith, inl, inr, Option, Some, None, Bool, true, false, cond}
use Rattle.std.proofs.lemmas.Option.{same_Some}
use Rattle.std.proofs.lemmas.Bool.{cases_eq, eq-eqb, ne_eqb}
use Rattle.std.proofs.lemmas.List.Sums.{sum_by-cons}
use Rattle.std.specs.Prelude.{◌⊎◌, ◌==◌, not, slice_get, count_by}
use Rattle.ot_model.specs.Table.{Client, State, Place, Entry, Outcome, Performed, Refused, NoRow, step, run, with_shown}
use Rattle.ot_isa.specs.declared.instruction.Instr.{Instr}
use Rattle.ot_isa.specs.declared.instruction.Instr.TheVariants.{Edit, Take, Deliver, Acknowledge, Join, Read, ReadServer}
use Rattle.ot_model.specs.declared.shown.Shown.{Shown}
use Rattle.ot_model.specs.Orders.{may_send, is_take_by, awaits}
use Rattle.ot_model.proofs.States.{slice_get-set_same}
use Rattle.ot_model.proofs.Exchanging.{emptied, Moves, Takes, kind}
use Rattle.ot_model.proofs.Earlier.{HasMessage, Missing, other_client}

-- a run's first instruction
pub run_first : (i : Instr) (is : List Instr) (p q : Place) → run (i ∷ is) p ≡ Some q → (t : State) × (a : Option Shown) × (step p.state i ≡ Performed t a) × (run is (record { state = t; shown = with_shown p.shown a }) ≡ Some q)
run_first i is p q e = go (step p.state i) refl e
  where
    go : (o : Outcome) → step p.state i ≡ o → (elim o [ Performed s list ↦ run is (record { state = s; shown = with_shown p.shown list }) | Refused r ↦ None | NoRow ↦ None ]) ≡ Some q
        → (t : State) × (a : Option Shown) × (step p.state i ≡ Performed t a) × (run is (record { state = t; shown = with_shown p.shown a }) ≡ Some q)
    go (Performed t a) first f = (t, a, first, f)
    go (Refused r) first f = absurd (cc)
    go NoRow first f = absurd (cc)

-- what a step has, the state before it had, or the step made it
moves_message : (c : ℕ) (s : State) (i : Instr) (t : State) (a : Option Shown) → Moves s i t a → HasMessage c t → HasMessage c s ⊎ (may_send c i ≡ true)
moves_message c s i t a k has = let there = subst (HasMessage c) k.after has in go there.0 there.1 there.2 there.3 (cases_eq k.c c) (may_send c i) refl
  where
    go : (x : Client) (m : _) → slice_get (set s.clients k.c k.y) c ≡ Some x → x.message ≡ Some m → (k.c ≡ c) ⊎ (k.c ≢ c) → (b : Bool) → may_send c i ≡ b → HasMessage c s ⊎ (may_send c i ≡ true)
    go x m at sent own true is = inr is
    go x m at sent (inl same) false is =
        let now : slice_get (set s.clients k.c k.y) k.c ≡ Some x = subst (λ (n : ℕ). slice_get (set s.clients k.c k.y) n ≡ Some x) (sym same) at in
        let y_is : k.y ≡ x = same_Some k.y x (sym (slice_get-set_same s.clients k.c k.x k.y k.at) ∙ now) in
        let kept : k.y.message ≡ k.x.message = k.unsent (subst (λ (n : ℕ). may_send n i ≡ false) (sym same) is) in
        inl (k.x, m, subst (λ (n : ℕ). slice_get s.clients n ≡ Some k.x) same k.at, sym kept ∙ ap (λ (w : Client). w.message) y_is ∙ sent)
    go x m at sent (inr other) false is = inl (x, m, other_client s k.c c k.y x other at, sent)

takes_message : (c : ℕ) (s : State) (i : Instr) (t : State) (a : Option Shown) → Takes s i t a → HasMessage c t → HasMessage c s
takes_message c s i t a k has = let there = subst (HasMessage c) k.after has in go there.0 there.1 there.2 there.3 (cases_eq k.c c)
  where
    go : (x : Client) (m : _) → slice_get (set s.clients k.c (emptied k.x)) c ≡ Some x → x.message ≡ Some m → (k.c ≡ c) ⊎ (k.c ≢ c) → HasMessage c s
    go x m at sent (inl same) =
        let now : slice_get (set s.clients k.c (emptied k.x)) k.c ≡ Some x = subst (λ (n : ℕ). slice_get (set s.clients k.c (emptied k.x)) n ≡ Some x) (sym same) at in
        let is : emptied k.x ≡ x = same_Some (emptied k.x) x (sym (slice_get-set_same s.clients k.c k.x (emptied k.x) k.at) ∙ now) in
        let none : None ≡ Some m = ap (λ (w : Client). w.message) is ∙ sent in
        absurd (cc)
    go x m at sent (inr other) = (x, m, other_client s k.c c (emptied k.x) x other at, sent)

message_back : (c : ℕ) (s : State) (i : Instr) (t : State) (a : Option Shown) → step s i ≡ Performed t a → HasMessage c t → HasMessage c s ⊎ (may_send c i ≡ true)
message_back c s i t a e has = elim (kind s i t a e) [
  | inl k ↦ moves_message c s i t a k has
  | inr (inl k) ↦ inl (takes_message c s i t a k has)
  | inr (inr r) ↦ inl (subst (HasMessage c) r.after has)
]

last_or : (xs : List Entry) (z : Entry) (n : ℕ) (h : Entry) → slice_get (xs ++ z ∷ []) n ≡ Some h → (slice_get xs n ≡ Some h) ⊎ (z ≡ h)
last_or [] z zero h e = inr (same_Some z h e)
last_or [] z (suc n) h e = absurd (cc)
last_or (x ∷ xs) z zero h e = inl e
last_or (x ∷ xs) z (suc n) h e = last_or xs z n h e

entry_back : (n : ℕ) (h : Entry) (s : State) (i : Instr) (t : State) (a : Option Shown) → step s i ≡ Performed t a → slice_get t.log n ≡ Some h → (slice_get s.log n ≡ Some h) ⊎ (i ≡ Take h.maker)
entry_back n h s i t a e has = elim (kind s i t a e) [
  | inl k ↦ inl (subst (λ (w : State). slice_get w.log n ≡ Some h) k.after has)
  | inr (inl k) ↦ elim (last_or s.log _ n h (subst (λ (w : State). slice_get w.log n ≡ Some h) k.after has)) [
    | inl early ↦ inl early
    | inr is ↦ inr (k.is ∙ ap (λ (w : Entry). Take w.maker) is)
  ]
  | inr (inr r) ↦ inl (subst (λ (w : State). slice_get w.log n ≡ Some h) r.after has)
]

counts_one : (b : Bool) → b ≡ true → cond b 1 0 ≡ suc zero
counts_one true e = refl
counts_one false e = absurd (cc)

-- what a run ends with, it began with, or one of its instructions made it
made : (P : State → Type 0) (q : Instr → Bool) → ((s : State) (i : Instr) (t : State) (a : Option Shown) → step s i ≡ Performed t a → P t → P s ⊎ (q i ≡ true))
    → (is : List Instr) (p r : Place) → run is p ≡ Some r → P r.state → P p.state ⊎ (1 ≤ count_by q is)
made P q back [] p r e has = inl (subst (λ (w : Place). P w.state) (sym (same_Some p r e)) has)
made P q back (i ∷ is) p r e has =
    let f = run_first i is p r e in
    let first = sum_by-cons (λ (x : Instr). cond (q x) 1 0) i is in
    elim (made P q back is (record { state = f.0; shown = with_shown p.shown f.1 }) r f.3 has) [
      | inr some ↦ inr (omega (arith, first, some))
      | inl there ↦ elim (back p.state i f.0 f.1 f.2 there) [
        | inl here ↦ inl here
        | inr made_it ↦ inr (let one = counts_one (q i) made_it in omega (arith, first, one))
      ]
    ]

take_of_other : (c : ℕ) (h : Entry) (i : Instr) → h.maker ≢ c → i ≡ Take h.maker → is_take_by (λ d. not (d == c)) i ≡ true
take_of_other c h i other is = ap (is_take_by (λ d. not (d == c))) is ∙ ap not (ne_eqb h.maker c other)

take_of_own : (c : ℕ) (h : Entry) (i : Instr) → h.maker ≡ c → i ≡ Take h.maker → is_take_by (λ d. d == c) i ≡ true
take_of_own c h i own is = ap (is_take_by (λ d. d == c)) is ∙ eq-eqb h.maker c own

entry_made : (q : Instr → Bool) (k : ℕ) (h : Entry) → ((i : Instr) → i ≡ Take h.maker → q i ≡ true) → (is : List Instr) (p r : Place) → run is p ≡ Some r
    → slice_get p.state.log k ≡ None → slice_get r.state.log k ≡ Some h → 1 ≤ count_by q is
entry_made q k h takes is p r e none some =
    elim (made (λ (s : State). slice_get s.log k ≡ Some h) q
    (λ s i t a f has. elim (entry_back k h s i t a f has) [ inl early ↦ inl early | inr take ↦ inr (takes i take) ])
    is p r e some) [
      | inl early ↦ absurd (cc)
      | inr there ↦ there
    ]

-- what is missing at a run's start and there at its end was sent in the run
pub sent_between : (j : Instr) (is : List Instr) (p r : Place) → run is p ≡ Some r → Missing p.state r.state j → 1 ≤ count_by (awaits j) is
sent_between (Edit c op) is p r e missing = absurd missing
sent_between (Take c) is p r e missing = elim (made (HasMessage c) (awaits (Take c)) (message_back c) is p r e missing.1) [
  | inl early ↦ absurd (missing.0 early)
  | inr there ↦ there
]
sent_between (Deliver c) is p r e (k, h, none, some, other) = entry_made (awaits (Deliver c)) k h (λ i is_take. take_of_other c h i other is_take) is p r e none some
sent_between (Acknowledge c) is p r e (k, h, none, some, own) = entry_made (awaits (Acknowledge c)) k h (λ i is_take. take_of_own c h i own is_take) is p r e none some
sent_between (Join c) is p r e missing = absurd missing
sent_between (Read c) is p r e missing = absurd missing
sent_between ReadServer is p r e missing = absurd missing
