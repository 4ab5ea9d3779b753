-- Arrivals come to an end.
use Rattle.std.proofs.Common.{◌≡◌, ℕ, suc, ◌+◌, ◌<◌, ◌≤◌, ◌≢◌, List, [], ◌∷◌, length, refl, ap, arith, inl, inr, Bool, true, false, Option, Some, None}
use Rattle.std.proofs.lemmas.Bool.{eqb-true}
use Rattle.std.proofs.lemmas.List.{drop_all}
use Rattle.std.proofs.lemmas.Option.{same_Some, slice_get_cases}
use Rattle.std.specs.Prelude.{◌⊎◌, ◌==◌, slice_get}
use Rattle.ot_isa.specs.declared.instruction.Instr.{Instr}
use Rattle.ot_isa.specs.declared.instruction.Instr.TheVariants.{Edit, Take, Deliver, Acknowledge, Join, Read, ReadServer}
use Rattle.ot_model.specs.declared.shown.Shown.{Shown}
use Rattle.ot_model.specs.Sound.{IsSound}
use Rattle.ot_model.specs.Table.{Client, Entry, Message, Place, State, Outcome, Performed, Refused, NoRow, is_joined, run, step, with_shown}
use Rattle.ot_model.proofs.Algebra.{laws}
use Rattle.ot_model.proofs.States.{acknowledged_kept}
use Rattle.ot_machine.specs.Answers.{IsPerformed}
use Rattle.ot_machine.proofs.RowLaws.{not_full}
use Rattle.ot_generate.specs.Left.{due, left}
use Rattle.ot_generate.proofs.Owing.{paid}
use Rattle.ot_verdict.specs.Laws.{AreArrivals, ArrivalsEnd, IsArrival, WhatWaitsCanCome}

-- an arrival costs nothing
free : (n : ℕ) (i : Instr) → IsArrival i → due false n i ≡ 0
free n (Edit c op) is = absurd is
free n (Take c) is = refl
free n (Deliver c) is = refl
free n (Acknowledge c) is = refl
free n (Join c) is = absurd is
free n (Read c) is = absurd is
free n ReadServer is = absurd is

less_left : (s t : State) (i : Instr) (shown : Option Shown) → IsArrival i → step s i ≡ Performed t shown → suc (left t) ≤ left s
less_left s t i shown is row =
    let pays = (paid s t i shown row).pays in
    let none = free (length s.clients) i is in
    omega arith

arrivals : (is : List Instr) (p q : Place) → AreArrivals is → run is p ≡ Some q → length is + left q.state ≤ left p.state
arrivals [] p q all e =
    let same = ap (λ (w : Place). left w.state) (same_Some p q e) in
    omega arith
arrivals (i ∷ is) p q all e = go (λ r f. arrivals is r q all.1 f) (step p.state i) refl e
  where
    go : ((r : Place) → run is r ≡ Some q → length is + left q.state ≤ left r.state) → (o : Outcome) → step p.state i ≡ o
        → (elim o [ Performed t list ↦ run is (record { state = t; shown = with_shown p.shown list }) | Refused r ↦ None | NoRow ↦ None ]) ≡ Some q → suc (length is) + left q.state ≤ left p.state
    go on (Performed t list) row f =
        let rest = on (record { state = t; shown = with_shown p.shown list }) f in
        let less = less_left p.state t i list all.0 row in
        omega arith
    go on (Refused r) row f = absurd (cc)
    go on NoRow row f = absurd (cc)

pub arrivals_end : ArrivalsEnd
arrivals_end s t is all (shown, e) = arrivals is (record { state = s; shown = [] }) (record { state = t; shown = shown }) all e

-- ---- what has not arrived

take_performed : (s : State) (c : ℕ) (x : Client) → s.steps < 1000000 → slice_get s.clients c ≡ Some x → is_joined x.phase ≡ true → (o : Option Message) → x.message ≡ o → o ≢ None → IsPerformed (step s (Take c))
take_performed s c x below at on None is some = absurd (some refl)
take_performed s c x below at on (Some m) is some = rw (at, not_full s.steps below, on, is) tt

receipt_performed : (s : State) (c : ℕ) (x : Client) (h : Entry) → IsSound s → s.steps < 1000000 → slice_get s.clients c ≡ Some x → is_joined x.phase ≡ true → slice_get s.log x.revision ≡ Some h → (own : Bool) → (h.maker == c) ≡ own
    → IsPerformed (step s (Deliver c)) ⊎ IsPerformed (step s (Acknowledge c))
receipt_performed s c x h sound below at on head false other = inl (rw (at, not_full s.steps below, on, head, other) tt)
receipt_performed s c x h (start, text, sound) below at on head true own =
    let kept = acknowledged_kept laws start text s c x h sound at head (eqb-true h.maker c own) on in
    inr (rw (at, not_full s.steps below, on, head, own, kept.1) tt)

pub what_waits_can_come : WhatWaitsCanCome
what_waits_can_come s c x sound below at on = (
  take_performed s c x below at on x.message refl,
  λ some. elim ((slice_get_cases s.log x.revision).1) [
    | inl found ↦ receipt_performed s c x found.0 sound below at on found.2 (found.0.maker == c) refl
    | inr past ↦ absurd (some (drop_all x.revision s.log past.0))
  ],
)
