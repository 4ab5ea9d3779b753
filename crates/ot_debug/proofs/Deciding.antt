-- Whether a watch sees a change, and whether there is a break.
use Rattle.std.proofs.Common.{◌≡◌, ◌≢◌, ℕ, zero, suc, ◌<◌, ◌≤◌, List, [], ◌∷◌, length, refl, ap, sym, ◌∙◌, subst, arith, inl, inr, Option, Some, None, Bool, true, false}
use Rattle.std.proofs.lemmas.Bool.{cases_eq}
use Rattle.std.proofs.lemmas.Option.{same_Some, slice_get_within}
use Rattle.std.specs.Prelude.{◌⊎◌, slice_get}
use Rattle.ot_isa.specs.declared.elements.Tag.{Tag}
use Rattle.ot_isa.specs.declared.elements.Tagged.{Tagged}
use Rattle.ot_isa.specs.Program.{Program}
use Rattle.ot_model.specs.Table.{State}
use Rattle.ot_model.specs.Runs.{done}
use Rattle.ot_machine.specs.declared.state.Phase.{Phase}
use Rattle.ot_machine.specs.declared.state.Phase.TheVariants.{NotJoined, Synchronized, AwaitingConfirm, AwaitingWithBuffer}
use Rattle.ot_debug.specs.declared.command.Watched.{Watched}
use Rattle.ot_debug.specs.declared.command.Watched.TheVariants as watched
use Rattle.ot_debug.specs.Session.{Session, IsBreak}
use Rattle.ot_debug.specs.Stops.{list_of, phase_at, IsChanged, StepChanges, ChangesWatch, ChangesNone, ChangesFirst}
use Rattle.ot_debug.proofs.Places.{there}

-- equal or not
tag_cases : (a b : Tag) → (a ≡ b) ⊎ (a ≢ b)
tag_cases a b =
    elim (cases_eq a.origin b.origin) [
      | inl origin ↦
          elim (cases_eq a.serial b.serial) [
            | inl serial ↦ inl (λ i. record { origin = origin i; serial = serial i })
            | inr other ↦ inr (λ e. other (ap (λ (t : Tag). t.serial) e))
          ]
      | inr other ↦ inr (λ e. other (ap (λ (t : Tag). t.origin) e))
    ]

tagged_cases : (a b : Tagged) → (a ≡ b) ⊎ (a ≢ b)
tagged_cases a b =
    elim (cases_eq a.ch b.ch) [
      | inl ch ↦
          elim (tag_cases a.tag b.tag) [
            | inl tag ↦ inl (λ i. record { ch = ch i; tag = tag i })
            | inr other ↦ inr (λ e. other (ap (λ (x : Tagged). x.tag) e))
          ]
      | inr other ↦ inr (λ e. other (ap (λ (x : Tagged). x.ch) e))
    ]

first_same : (x y : Tagged) (xs ys : List Tagged) → x ∷ xs ≡ y ∷ ys → x ≡ y
first_same x y xs ys e = same_Some x y (ap (λ zs. slice_get zs 0) e)

tail_of : List Tagged → List Tagged
tail_of [] = []
tail_of (x ∷ xs) = xs

rest_same : (x y : Tagged) (xs ys : List Tagged) → x ∷ xs ≡ y ∷ ys → xs ≡ ys
unfolding tail_of
rest_same x y xs ys e = ap tail_of e

list_cases : (xs ys : List Tagged) → (xs ≡ ys) ⊎ (xs ≢ ys)
list_cases [] [] = inl refl
list_cases [] (y ∷ ys) = inr (λ e. absurd (cc))
list_cases (x ∷ xs) [] = inr (λ e. absurd (cc))
list_cases (x ∷ xs) (y ∷ ys) =
    elim (tagged_cases x y) [
      | inl first ↦
          elim (list_cases xs ys) [
            | inl rest ↦ inl (λ i. first i ∷ rest i)
            | inr other ↦ inr (λ e. other (rest_same x y xs ys e))
          ]
      | inr other ↦ inr (λ e. other (first_same x y xs ys e))
    ]

number_of : Phase → ℕ
number_of NotJoined = 0
number_of Synchronized = 1
number_of AwaitingConfirm = 2
number_of AwaitingWithBuffer = 3

phase_of : ℕ → Phase
phase_of zero = NotJoined
phase_of (suc zero) = Synchronized
phase_of (suc (suc zero)) = AwaitingConfirm
phase_of (suc (suc (suc n))) = AwaitingWithBuffer

phase_back : (p : Phase) → phase_of (number_of p) ≡ p
unfolding number_of phase_of
phase_back NotJoined = refl
phase_back Synchronized = refl
phase_back AwaitingConfirm = refl
phase_back AwaitingWithBuffer = refl

phase_cases : (p q : Phase) → (p ≡ q) ⊎ (p ≢ q)
phase_cases p q =
    elim (cases_eq (number_of p) (number_of q)) [ inl same ↦ inl (sym (phase_back p) ∙ ap phase_of same ∙ phase_back q) | inr other ↦ inr (λ e. other (ap number_of e)) ]

-- what a watch looks at differs or not
turned : {A : Type 0} → A ⊎ (A → ⊥) → (A → ⊥) ⊎ ((A → ⊥) → ⊥)
turned (inl is) = inr (λ none. none is)
turned (inr none) = inl none

changed_cases : (watch : Watched) (s t : State) → IsChanged watch s t ⊎ (IsChanged watch s t → ⊥)
changed_cases (watched.Doc c) s t = turned (list_cases (list_of s c) (list_of t c))
changed_cases (watched.State c) s t = turned (phase_cases (phase_at s c) (phase_at t c))
changed_cases watched.ServerRevision s t = turned (cases_eq (length s.log) (length t.log))

step_cases : (s : Program) (q : ℕ) (watch : Watched) → suc q ≤ done s → StepChanges s q watch ⊎ (StepChanges s q watch → ⊥)
step_cases s q watch far =
    let before = there s q (omega arith) in
    let after = there s (suc q) far in
    elim (changed_cases watch before.0.state after.0.state) [
      | inl changed ↦ inl (record { before = before.0; after = after.0; from = before.1; to = after.1; changed = changed })
      | inr same ↦ inr (λ is.
          let first = same_Some is.before before.0 (sym is.from ∙ before.1) in
          let last = same_Some is.after after.0 (sym is.to ∙ after.1) in
          same (subst (λ p. IsChanged watch p.state after.0.state) first (subst (λ p. IsChanged watch is.before.state p.state) last is.changed)))
    ]

watch_cases : (x : Session) (q number : ℕ) → suc q ≤ done x.schedule → ChangesWatch x q number ⊎ (ChangesWatch x q number → ⊥)
watch_cases x q number far = found (slice_get x.watches number) refl
  where
    found : (o : Option Watched) → slice_get x.watches number ≡ o → ChangesWatch x q number ⊎ (ChangesWatch x q number → ⊥)
    found None at = inr (λ is. let e : None ≡ Some is.watch = sym at ∙ is.here in absurd (cc))
    found (Some watch) at =
        elim (step_cases x.schedule q watch far) [
          | inl changes ↦ inl (record { watch = watch; here = at; changes = changes })
          | inr none ↦ inr (λ is. none (subst (λ w. StepChanges x.schedule q w) (same_Some is.watch watch (sym is.here ∙ at)) is.changes))
        ]

first_below :
    (x : Session) (q count : ℕ) → suc q ≤ done x.schedule
    → ((number : ℕ) × ChangesFirst x q number) ⊎ ((number : ℕ) → number < count → ChangesWatch x q number → ⊥)
first_below x q zero far = inr (λ number less. absurd (omega arith))
first_below x q (suc count) far =
    elim (first_below x q count far) [
      | inl first ↦ inl first
      | inr none ↦
          elim (watch_cases x q count far) [
            | inl is ↦ inl (count, record { changes = is; first = none })
            | inr not_here ↦
                inr (λ number less is.
                elim (cases_eq number count) [
                  | inl same ↦ not_here (subst (ChangesWatch x q) same is)
                  | inr other ↦ none number (omega (arith, less, other)) is
                ])
          ]
    ]

-- an instruction that is performed changes what some watch looks at, and then there is a first one; or what none looks at
pub first_or_none : (x : Session) (q : ℕ) → suc q ≤ done x.schedule → ((number : ℕ) × ChangesFirst x q number) ⊎ ChangesNone x q
first_or_none x q far =
    elim (first_below x q (length x.watches) far) [ inl first ↦ inl first | inr none ↦ inr (λ number is. none number (slice_get_within x.watches number is.watch is.here) is) ]

pub break_cases : (x : Session) (q : ℕ) → IsBreak x q ⊎ (IsBreak x q → ⊥)
break_cases x q = found (slice_get x.breaks q) refl
  where
    found : (o : Option Bool) → slice_get x.breaks q ≡ o → IsBreak x q ⊎ (IsBreak x q → ⊥)
    found None at = inr (λ is. let e : None ≡ Some true = sym at ∙ is in absurd (cc))
    found (Some true) at = inl at
    found (Some false) at = inr (λ is. let e : Some false ≡ Some true = sym at ∙ is in absurd (cc))
