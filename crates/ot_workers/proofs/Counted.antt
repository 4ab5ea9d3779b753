-- What users type, counted and looked up.
use Rattle.std.proofs.Common.{◌≡◌, ℕ, zero, suc, ◌+◌, ◌<◌, ◌≤◌, List, [], ◌∷◌, length, map, take, sym, ap, ◌∙◌, subst, Some, arith, get_or, inl, inr}
use Rattle.std.specs.Prelude.{slice_get, Vec}
use Rattle.std.specs.declared.alloc.Global.{Global}
use Rattle.std.specs.Option.{option_map}
use Rattle.std.proofs.lemmas.Bool.{cases_lt}
use Rattle.std.proofs.lemmas.List.{length-map}
use Rattle.std.proofs.lemmas.List.Sums.{sum_by-cons}
use Rattle.std.proofs.lemmas.Option.{same_Some, slice_get-get_or, slice_get-map, slice_get_within}
use Rattle.ot_plan.specs.declared.typing.Typing.{Typing}
use Rattle.ot_plan.specs.Typing.{Action, action_view, inserted, row_view, typing_view}
use Rattle.ot_board.specs.Boards.{BoardView}
use Rattle.ot_workers.specs.Sharing.{MayShare, MayType}

abbrev inserts : Action → ℕ
inserts a = length a.insert

-- an action and those before it insert no more than all
at_least : (xs : List Typing) (i : ℕ) (t : Typing) → i < length xs → t ≡ get_or xs i t → inserted (map action_view (take i xs)) + length t.insert.items ≤ inserted (map action_view xs)
at_least [] i t below is = absurd (omega (arith, below))
at_least (x ∷ xs) zero t below is =
    let same = ap (λ (s : Typing). length s.insert.items) is in
    let more = sum_by-cons inserts (action_view x) (map action_view xs) in
    omega arith
at_least (x ∷ xs) (suc i) t below is =
    let rest = at_least xs i t (omega (arith, below)) is in
    let first = sum_by-cons inserts (action_view x) (map action_view (take i xs)) in
    let all = sum_by-cons inserts (action_view x) (map action_view xs) in
    omega arith

pub inserted_past : (xs : List Typing) (i : ℕ) (t : Typing) (most left : ℕ) → i < length xs → t ≡ get_or xs i t → inserted (map action_view (take i xs)) + left ≡ most → left < length t.insert.items → inserted (map action_view xs) ≤ most → ⊥
inserted_past xs i t most left below is before over fits =
    let least = at_least xs i t below is in
    absurd (omega arith)

-- the first so many users may type
pub record MayTypeFirst (b : BoardView) (typing : List (Vec Typing Global)) (count : ℕ) : Type 0 where
  pub each : (c : ℕ) (actions : List Action) → c < count → slice_get (typing_view typing) c ≡ Some actions → MayType b c actions

pub first_none : (b : BoardView) (typing : List (Vec Typing Global)) → MayTypeFirst b typing 0
first_none b typing = record { each = λ c actions below at. absurd (omega (arith, below)) }

row_at : (typing : List (Vec Typing Global)) (c : ℕ) (row : Vec Typing Global) → c < length typing → row ≡ get_or typing c row → slice_get (typing_view typing) c ≡ Some (row_view row)
row_at typing c row below is =
    slice_get-map row_view typing c ∙ ap (option_map row_view) (slice_get-get_or typing c row below ∙ ap (λ (r : Vec Typing Global). Some r) (sym is))

pub first_more : (b : BoardView) (typing : List (Vec Typing Global)) (count next : ℕ) (row : Vec Typing Global) → next ≡ count + 1 → count < length typing → row ≡ get_or typing count row
    → MayType b count (row_view row) → MayTypeFirst b typing count → MayTypeFirst b typing next
first_more b typing count next row is below row_is may before = record { each = go }
  where
    go : (c : ℕ) (actions : List Action) → c < next → slice_get (typing_view typing) c ≡ Some actions → MayType b c actions
    go c actions within at = elim (cases_lt c count) [
      | inl less ↦ before.each c actions less at
      | inr last ↦
          let same : count ≡ c = omega arith in
          let found : Some (row_view row) ≡ Some actions = sym (row_at typing count row below row_is) ∙ ap (slice_get (typing_view typing)) same ∙ at in
          subst (λ (k : ℕ). MayType b k actions) same (subst (MayType b count) (same_Some (row_view row) actions found) may)
    ]

pub first_all : (b : BoardView) (typing : List (Vec Typing Global)) (count : ℕ) → length typing ≡ b.recorded.clients → length typing ≤ count → MayTypeFirst b typing count → MayShare b (typing_view typing)
first_all b typing count one_each all before =
    record {
      one_each = length-map typing row_view ∙ one_each;
      each = λ c actions at. before.each c actions (within c actions at) at;
    }
  where
    within : (c : ℕ) (actions : List Action) → slice_get (typing_view typing) c ≡ Some actions → c < count
    within c actions at =
        let inside = slice_get_within (typing_view typing) c actions at in
        let long = length-map typing row_view in
        omega arith
