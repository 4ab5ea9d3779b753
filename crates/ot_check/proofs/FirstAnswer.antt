-- The first answer along a list, and what of a client is not settled.
use Rattle.std.proofs.Common.{◌≡◌, ℕ, zero, suc, ◌+◌, ◌≤◌, List, [], ◌∷◌, length, map, drop, refl, sym, ap, ◌∙◌, cond, arith, Bool, true, false, not, inl, inr}
use Rattle.std.specs.Prelude.{Option, Some, None, is_some, slice_get, ◌==◌}
use Rattle.std.specs.Option.{option_map}
use Rattle.std.proofs.lemmas.Bool.{cases_Bool, eqb-true, eq-eqb}
use Rattle.std.proofs.lemmas.Option.{same_Some}
use Rattle.std.proofs.lemmas.List.{drop_all, length-map, nil_from_length}
use Rattle.ot_isa.specs.declared.elements.Tagged.{Tagged}
use Rattle.ot_model.specs.Table as table
use Rattle.ot_model.specs.Table.{Client, State, Message, Entry, is_joined, downlink, head_for, IsQuiet, IsQuietClient}
use Rattle.ot_model.proofs.States.{drop_entry}
use Rattle.ot_model.specs.Sound.{IsSound}
use Rattle.ot_model.proofs.Steps.{quiet_same}
use Rattle.ot_check.specs.declared.outcome.Unsettled.{Unsettled}
use Rattle.ot_check.specs.declared.outcome.Unsettled.TheVariants as unsettled
use Rattle.ot_check.specs.Convergence.{or_else, first_from, difference_at, unsettled_at, first_unsettled, astray_at, first_astray, is_synchronized}
use Rattle.ot_check.proofs.FirstUnequal.{first_unequal-refl}

-- ---- the first answer

pub got : {A B : Type 0} (f : A → B) (o : Option A) (v : B) → option_map f o ≡ Some v → (x : A) × (o ≡ Some x) × (f x ≡ v)
got f None v e = absurd (cc)
got f (Some x) v e = (x, refl, same_Some (f x) v e)

first_none : {A : Type 0} (o other : Option A) → or_else o other ≡ None → o ≡ None
first_none None other h = refl
first_none (Some x) other h = h

rest_none : {A : Type 0} (o other : Option A) → or_else o other ≡ None → other ≡ None
rest_none None other h = h
rest_none (Some x) other h = absurd (cc)

-- the answer at the next element, or on to the rest
pub first-here : {A B : Type 0} (at : ℕ → A → Option B) (xs : List A) (k : ℕ) (r : B) → option_map (at k) (slice_get xs k) ≡ Some (Some r) → first_from at k (drop k xs) ≡ Some r
first-here at xs k r h =
    let found = got (at k) (slice_get xs k) (Some r) h in
    ap (first_from at k) (drop_entry xs k found.0 found.1) ∙ ap (λ o. or_else o (first_from at (suc k) (drop (suc k) xs))) found.2

pub first-later : {A B : Type 0} (at : ℕ → A → Option B) (xs : List A) (k : ℕ) → option_map (at k) (slice_get xs k) ≡ Some None → first_from at k (drop k xs) ≡ first_from at (k + 1) (drop (k + 1) xs)
first-later at xs k h =
    let found = got (at k) (slice_get xs k) None h in
    let next : suc k ≡ k + 1 = omega arith in
    ap (first_from at k) (drop_entry xs k found.0 found.1) ∙ ap (λ o. or_else o (first_from at (suc k) (drop (suc k) xs))) found.2 ∙ ap (λ n. first_from at n (drop n xs)) next

pub first-end : {A B : Type 0} (at : ℕ → A → Option B) (xs : List A) (k : ℕ) → length xs ≤ k → first_from at k (drop k xs) ≡ None
first-end at xs k h = ap (first_from at k) (drop_all k xs h)

-- no answer at all
pub first-none : {A B : Type 0} (at : ℕ → A → Option B) (k : ℕ) (xs : List A) → ((i : ℕ) (x : A) → slice_get xs i ≡ Some x → at (k + i) x ≡ None) → first_from at k xs ≡ None
first-none at k [] none = refl
first-none at k (x ∷ xs) none =
    let here : at k x ≡ None = ap (λ n. at n x) (let e : k ≡ k + 0 = omega arith in e) ∙ none 0 x refl in
    ap (λ o. or_else o (first_from at (suc k) xs)) here
    ∙ first-none at (suc k) xs (λ i y e. ap (λ n. at n y) (let e : suc k + i ≡ k + suc i = omega arith in e) ∙ none (suc i) y e)

pub none-at : {A B : Type 0} (at : ℕ → A → Option B) (k : ℕ) (xs : List A) → first_from at k xs ≡ None → (i : ℕ) (x : A) → slice_get xs i ≡ Some x → at (k + i) x ≡ None
none-at at k [] none i x e = absurd (cc)
none-at at k (y ∷ xs) none zero x e =
    let here : at k y ≡ None = first_none (at k y) (first_from at (suc k) xs) none in
    let n : k + 0 ≡ k = omega arith in
    rw (n, ← same_Some y x e) here
none-at at k (y ∷ xs) none (suc i) x e =
    let n : k + suc i ≡ suc k + i = omega arith in
    rw n (none-at at (suc k) xs (rest_none (at k y) (first_from at (suc k) xs) none) i x e)

-- ---- quiet states

abbrev settled_as : State → ℕ → Client → table.Phase → Option Unsettled
settled_as s c x p =
    cond (not (is_joined p)) None (cond (not (is_synchronized p)) (Some (unsettled.Client c)) (cond (is_some x.message) (Some (unsettled.Up c)) (cond (length (downlink s c x) == 0) None (Some (unsettled.Down c)))))

links_empty : (c : ℕ) (m : Option Message) (empty : Bool) → cond (is_some m) (Some (unsettled.Up c)) (cond empty None (Some (unsettled.Down c))) ≡ None → (m ≡ None) × (empty ≡ true)
links_empty c None true h = (refl, refl)
links_empty c None false h = absurd (cc)
links_empty c (Some m) empty h = absurd (cc)

empty_links : (c : ℕ) (m : Option Message) (empty : Bool) → m ≡ None → empty ≡ true → cond (is_some m) (Some (unsettled.Up c)) (cond empty None (Some (unsettled.Down c))) ≡ None
empty_links c m empty a b = rw (a, b) refl

downlink_on : (s : State) (c : ℕ) (x : Client) → is_joined x.phase ≡ true → length (downlink s c x) ≡ length (drop x.revision s.log)
downlink_on s c x on =
    ap (λ (b : Bool). length (cond b (map (head_for c) (drop x.revision s.log)) [])) on ∙ length-map (drop x.revision s.log) (head_for c)

quiet_as : (s : State) (c : ℕ) (x : Client) (p : table.Phase) → x.phase ≡ p → is_joined p ≡ true → settled_as s c x p ≡ None → IsQuietClient s.log x
quiet_as s c x table.NotJoined is on none = absurd (cc)
quiet_as s c x table.Synchronized is on none =
    let links = links_empty c x.message (length (downlink s c x) == 0) none in
    let none_comes = downlink_on s c x (ap is_joined is) in
    record { no_message = links.0; no_downlink = nil_from_length (drop x.revision s.log) (sym none_comes ∙ eqb-true (length (downlink s c x)) 0 links.1); synchronized = is }
quiet_as s c x (table.AwaitingConfirm o) is on none = absurd (cc)
quiet_as s c x (table.AwaitingWithBuffer o b) is on none = absurd (cc)

settled_from : (s : State) (c : ℕ) (x : Client) → (is_joined x.phase ≡ true → IsQuietClient s.log x) → unsettled_at s c x ≡ None
settled_from s c x quiet = elim (cases_Bool (is_joined x.phase)) [
  | inr off ↦ ap (λ (b : Bool). cond (not b) None (cond (not (is_synchronized x.phase)) (Some (unsettled.Client c)) (cond (is_some x.message) (Some (unsettled.Up c)) (cond (length (downlink s c x) == 0) None (Some (unsettled.Down c)))))) off
  | inl on ↦
      let q = quiet on in
      let none_comes : (length (downlink s c x) == 0) ≡ true = eq-eqb (length (downlink s c x)) 0 (downlink_on s c x on ∙ ap length q.no_downlink) in
      ap (settled_as s c x) q.synchronized ∙ empty_links c x.message (length (downlink s c x) == 0) q.no_message none_comes
]

pub settled-quiet : (s : State) → first_unsettled s ≡ None → IsQuiet s
settled-quiet s none c x at on =
    let n : c ≡ 0 + c = omega arith in
    quiet_as s c x x.phase refl on (ap (λ k. unsettled_at s k x) n ∙ none-at (unsettled_at s) 0 s.clients none c x at)

pub quiet-settled : (s : State) → IsQuiet s → first_unsettled s ≡ None
quiet-settled s quiet = first-none (unsettled_at s) 0 s.clients (λ c x at. settled_from s (0 + c) x (quiet c x at))

pub quiet-one : (s : State) → IsSound s → IsQuiet s → first_astray s ≡ None
quiet-one s sound quiet = first-none (astray_at s) 0 s.clients (λ c x at. elim (cases_Bool (is_joined x.phase)) [
  | inr off ↦ ap (λ (b : Bool). cond b (difference_at s.server (0 + c) x.list) None) off
  | inl on ↦
      ap (λ (b : Bool). cond b (difference_at s.server (0 + c) x.list) None) on
      ∙ ap (λ (d : List Tagged). difference_at s.server (0 + c) d) (quiet_same s sound quiet c x at on)
      ∙ ap (option_map (λ place. (0 + c, place))) (first_unequal-refl s.server)
])
