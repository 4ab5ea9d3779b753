-- All answers along a list, and all that is not settled.
use Rattle.std.proofs.Common.{◌≡◌, ℕ, suc, ◌+◌, ◌++◌, ◌≤◌, List, [], ◌∷◌, length, drop, refl, sym, ap, ap₂, ◌∙◌, cond, arith, Bool, true, false, not, Option, Some, None}
use Rattle.std.specs.Prelude.{◌↔◌, is_some, slice_get, ◌==◌}
use Rattle.std.specs.Option.{option_map}
use Rattle.std.proofs.lemmas.Option.{same_Some}
use Rattle.std.proofs.lemmas.List.{append_assoc, append-nil, drop_all}
use Rattle.ot_model.specs.Table.{Client, State, is_joined, downlink, IsQuiet}
use Rattle.ot_model.proofs.States.{drop_entry}
use Rattle.ot_model.specs.Sound.{IsSound}
use Rattle.ot_machine.specs.Readers.{ClientHas}
use Rattle.ot_check.specs.declared.outcome.Unsettled.{Unsettled}
use Rattle.ot_check.specs.declared.outcome.Unsettled.TheVariants as unsettled
use Rattle.ot_check.specs.Convergence.{or_else, first_from, all_from, if_so, all_unsettled, all_unsettled_at, unsettled_at, first_unsettled, first_astray, is_synchronized, answer_of, convergence_of}
use Rattle.ot_check.proofs.FirstAnswer.{got, settled-quiet, quiet-settled, quiet-one}

-- ---- all answers

pub all-more : {A B : Type 0} (at : ℕ → A → List B) (xs : List A) (k : ℕ) (before after : List B) → option_map (λ x. before ++ at k x) (slice_get xs k) ≡ Some after
    → before ++ all_from at k (drop k xs) ≡ after ++ all_from at (k + 1) (drop (k + 1) xs)
all-more at xs k before after h =
    let found = got (λ x. before ++ at k x) (slice_get xs k) after h in
    let next : suc k ≡ k + 1 = omega arith in
    ap (λ l. before ++ all_from at k l) (drop_entry xs k found.0 found.1)
    ∙ sym (append_assoc before (at k found.0) (all_from at (suc k) (drop (suc k) xs)))
    ∙ ap (λ l. l ++ all_from at (suc k) (drop (suc k) xs)) found.2
    ∙ ap (λ n. after ++ all_from at n (drop n xs)) next

pub all-end : {A B : Type 0} (at : ℕ → A → List B) (xs : List A) (k : ℕ) (before : List B) → length xs ≤ k → before ++ all_from at k (drop k xs) ≡ before
all-end at xs k before h = ap (λ l. before ++ all_from at k l) (drop_all k xs h) ∙ append-nil before

-- ---- the first of all

head_append : {A : Type 0} (xs ys : List A) → slice_get (xs ++ ys) 0 ≡ or_else (slice_get xs 0) (slice_get ys 0)
head_append [] ys = refl
head_append (x ∷ xs) ys = refl

heads : {A B : Type 0} (all : ℕ → A → List B) (first : ℕ → A → Option B) → ((k : ℕ) (x : A) → slice_get (all k x) 0 ≡ first k x) → (k : ℕ) (xs : List A)
    → slice_get (all_from all k xs) 0 ≡ first_from first k xs
heads all first each k [] = refl
heads all first each k (x ∷ xs) = head_append (all k x) (all_from all (suc k) xs) ∙ ap₂ or_else (each k x) (heads all first each (suc k) xs)

head_by : (c : ℕ) (joined synchronized sends none : Bool)
    → slice_get (cond joined (if_so (not synchronized) (unsettled.Client c) ++ if_so sends (unsettled.Up c) ++ if_so (not none) (unsettled.Down c)) []) 0
    ≡ cond (not joined) None (cond (not synchronized) (Some (unsettled.Client c)) (cond sends (Some (unsettled.Up c)) (cond none None (Some (unsettled.Down c)))))
head_by c false synchronized sends none = refl
head_by c true false sends none = refl
head_by c true true true none = refl
head_by c true true false true = refl
head_by c true true false false = refl

pub first-of-all : (s : State) → slice_get (all_unsettled s) 0 ≡ first_unsettled s
first-of-all s =
    heads (all_unsettled_at s) (unsettled_at s) (λ c x. head_by c (is_joined x.phase) (is_synchronized x.phase) (is_some x.message) (length (downlink s c x) == 0)) 0 s.clients

pub answer-of-all : (s : State) → IsSound s → convergence_of s ≡ answer_of (slice_get (all_unsettled s) 0) None
answer-of-all s sound = go (first_unsettled s) refl ∙ ap (λ (o : Option Unsettled). answer_of o None) (sym (first-of-all s))
  where
    go : (o : Option Unsettled) → first_unsettled s ≡ o → answer_of (first_unsettled s) (first_astray s) ≡ answer_of (first_unsettled s) None
    go (Some what) is = rw is refl
    go None is = ap (answer_of (first_unsettled s)) (quiet-one s sound (settled-quiet s is))

-- ---- nothing at all

nothing : {A : Type 0} (xs : List A) → slice_get xs 0 ≡ None → xs ≡ []
nothing [] none = refl
nothing (x ∷ xs) none = absurd (cc)

pub none-quiet : (s : State) → (all_unsettled s ≡ []) ↔ IsQuiet s
none-quiet s = (
  λ none. settled-quiet s (sym (first-of-all s) ∙ ap (λ (l : List Unsettled). slice_get l 0) none),
  λ quiet. nothing (all_unsettled s) (first-of-all s ∙ quiet-settled s quiet),
)

-- ---- one client

pub not-joined : (s : State) (c : ℕ) (before : List Unsettled) → ClientHas s c (λ x. is_joined x.phase) false → ClientHas s c (λ x. before ++ all_unsettled_at s c x) before
not-joined s c before off = go (slice_get s.clients c) off
  where
    go : (o : Option Client) → option_map (λ x. is_joined x.phase) o ≡ Some false → option_map (λ x. before ++ all_unsettled_at s c x) o ≡ Some before
    go None off = absurd (cc)
    go (Some x) off = let j : is_joined x.phase ≡ false = cc in rw j (ap (λ (l : List Unsettled). Some l) (append-nil before))

pub pushed : (s : State) (c : ℕ) (before one two three : List Unsettled) (synchronized sends none : Bool) → ClientHas s c (λ x. is_joined x.phase) true
    → ClientHas s c (λ x. is_synchronized x.phase) synchronized → ClientHas s c (λ x. is_some x.message) sends → ClientHas s c (λ x. length (downlink s c x) == 0) none
    → one ≡ before ++ if_so (not synchronized) (unsettled.Client c) → two ≡ one ++ if_so sends (unsettled.Up c) → three ≡ two ++ if_so (not none) (unsettled.Down c)
    → ClientHas s c (λ x. before ++ all_unsettled_at s c x) three
pushed s c before one two three synchronized sends none on phase message link first second third = go (slice_get s.clients c) on phase message link
  where
    a : List Unsettled
    a = if_so (not synchronized) (unsettled.Client c)

    b : List Unsettled
    b = if_so sends (unsettled.Up c)

    d : List Unsettled
    d = if_so (not none) (unsettled.Down c)

    whole : before ++ (a ++ b ++ d) ≡ three
    whole =
        sym (append_assoc before (a ++ b) d) ∙ ap (λ (l : List Unsettled). l ++ d) (sym (append_assoc before a b))
        ∙ sym (third ∙ ap (λ (l : List Unsettled). l ++ d) (second ∙ ap (λ (l : List Unsettled). l ++ b) first))

    go : (o : Option Client) → option_map (λ x. is_joined x.phase) o ≡ Some true → option_map (λ x. is_synchronized x.phase) o ≡ Some synchronized
        → option_map (λ x. is_some x.message) o ≡ Some sends → option_map (λ x. length (downlink s c x) == 0) o ≡ Some none
        → option_map (λ x. before ++ all_unsettled_at s c x) o ≡ Some three
    go None on phase message link = absurd (cc)
    go (Some x) on phase message link =
        let j : is_joined x.phase ≡ true = same_Some (is_joined x.phase) true on in
        let y : is_synchronized x.phase ≡ synchronized = same_Some (is_synchronized x.phase) synchronized phase in
        let m : is_some x.message ≡ sends = same_Some (is_some x.message) sends message in
        let l : (length (downlink s c x) == 0) ≡ none = same_Some (length (downlink s c x) == 0) none link in
        ap (λ (k : List Unsettled). Some (before ++ k))
        (ap (λ (t : Bool). cond t (if_so (not (is_synchronized x.phase)) (unsettled.Client c) ++ if_so (is_some x.message) (unsettled.Up c) ++ if_so (not (length (downlink s c x) == 0)) (unsettled.Down c)) []) j
        ∙ ap (λ (t : Bool). if_so (not t) (unsettled.Client c) ++ if_so (is_some x.message) (unsettled.Up c) ++ if_so (not (length (downlink s c x) == 0)) (unsettled.Down c)) y
        ∙ ap (λ (t : Bool). if_so (not synchronized) (unsettled.Client c) ++ if_so t (unsettled.Up c) ++ if_so (not (length (downlink s c x) == 0)) (unsettled.Down c)) m
        ∙ ap (λ (t : Bool). if_so (not synchronized) (unsettled.Client c) ++ if_so sends (unsettled.Up c) ++ if_so (not t) (unsettled.Down c)) l)
        ∙ ap (λ (k : List Unsettled). Some k) whole
