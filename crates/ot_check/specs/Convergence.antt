-- Whether all is quiet and all lists are equal, and what comes first against it.
use Rattle.std.specs.Prelude.{ℕ, suc, List, [], ◌∷◌, ◌++◌, length, Bool, true, false, not, ◌==◌, ◌&&◌, Option, Some, None, is_some, if◌then◌else◌}
use Rattle.std.specs.Option.{option_map}
use Rattle.ot_isa.specs.declared.elements.Tagged.{Tagged}
use Rattle.ot_model.specs.Table.{Phase, NotJoined, Synchronized, AwaitingConfirm, AwaitingWithBuffer, Client, State, downlink, is_joined}
use Rattle.ot_model.specs.Trace.{same_tag}
use Rattle.ot_check.specs.declared.outcome.Unsettled.{Unsettled}
use Rattle.ot_check.specs.declared.outcome.Unsettled.TheVariants as unsettled
use Rattle.ot_check.specs.declared.outcome.Convergence.{Convergence}
use Rattle.ot_check.specs.declared.outcome.Convergence.TheVariants.{Quiet, NotQuiet, Differs}

-- the first answer, or the other one where there is none
abbrev pub or_else : {A : Type 0} → Option A → Option A → Option A
or_else (Some x) other = Some x
or_else None other = other

-- the first answer at the elements of a list, which are numbered from k on
abbrev pub first_from : {A B : Type 0} → (ℕ → A → Option B) → ℕ → List A → Option B
first_from at k [] = None
first_from at k (x ∷ xs) = or_else (at k x) (first_from at (suc k) xs)

-- all answers at the elements of a list, which are numbered from k on
abbrev pub all_from : {A B : Type 0} → (ℕ → A → List B) → ℕ → List A → List B
all_from at k [] = []
all_from at k (x ∷ xs) = at k x ++ all_from at (suc k) xs

-- ---- lists

-- two elements are equal: the same character with the same tag
abbrev pub same : Tagged → Tagged → Bool
same x y = (x.ch == y.ch) && same_tag x.tag y.tag

-- the first place at which two lists are not equal; where one is the beginning of the other, the shorter length
abbrev pub first_unequal : List Tagged → List Tagged → Option ℕ
first_unequal [] [] = None
first_unequal [] (y ∷ ys) = Some 0
first_unequal (x ∷ xs) [] = Some 0
first_unequal (x ∷ xs) (y ∷ ys) = if same x y then option_map suc (first_unequal xs ys) else Some 0

-- the number of a list, with the first place at which it is not the server's
abbrev pub difference_at : List Tagged → ℕ → List Tagged → Option (ℕ × ℕ)
difference_at server k list = option_map (λ place. (k, place)) (first_unequal list server)

-- the first list that is not the server's, by its number, and the first place at which it is not
abbrev pub first_difference : List (List Tagged) → List Tagged → Option (ℕ × ℕ)
first_difference documents server = first_from (difference_at server) 0 documents

-- ---- clients

abbrev pub is_synchronized : Phase → Bool
is_synchronized NotJoined = false
is_synchronized Synchronized = true
is_synchronized (AwaitingConfirm o) = false
is_synchronized (AwaitingWithBuffer o b) = false

-- what of client c is not settled: its phase, its message, its downlink
abbrev pub unsettled_at : State → ℕ → Client → Option Unsettled
unsettled_at s c x =
    if not (is_joined x.phase) then None
    else if not (is_synchronized x.phase) then Some (unsettled.Client c)
    else if is_some x.message then Some (unsettled.Up c)
    else if length (downlink s c x) == 0 then None
    else Some (unsettled.Down c)

-- the first that is not settled, by the client's number
abbrev pub first_unsettled : State → Option Unsettled
first_unsettled s = first_from (unsettled_at s) 0 s.clients

-- this, if it is so
abbrev pub if_so : Bool → Unsettled → List Unsettled
if_so true what = what ∷ []
if_so false what = []

-- all that is not settled of client c: its phase, its message, its downlink
abbrev pub all_unsettled_at : State → ℕ → Client → List Unsettled
all_unsettled_at s c x =
    if is_joined x.phase then if_so (not (is_synchronized x.phase)) (unsettled.Client c) ++ if_so (is_some x.message) (unsettled.Up c) ++ if_so (not (length (downlink s c x) == 0)) (unsettled.Down c)
    else []

-- all that is not settled, by the client's number
abbrev pub all_unsettled : State → List Unsettled
all_unsettled s = all_from (all_unsettled_at s) 0 s.clients

-- a joined client's number, with the first place at which its list is not the server's
abbrev pub astray_at : State → ℕ → Client → Option (ℕ × ℕ)
astray_at s c x = if is_joined x.phase then difference_at s.server c x.list else None

abbrev pub first_astray : State → Option (ℕ × ℕ)
first_astray s = first_from (astray_at s) 0 s.clients

abbrev pub answer_of : Option Unsettled → Option (ℕ × ℕ) → Convergence
answer_of (Some what) astray = NotQuiet what
answer_of None (Some found) = Differs found.0 found.1
answer_of None None = Quiet

-- not quiet; else the first joined client whose list is not the server's; else quiet
abbrev pub convergence_of : State → Convergence
convergence_of s = answer_of (first_unsettled s) (first_astray s)
