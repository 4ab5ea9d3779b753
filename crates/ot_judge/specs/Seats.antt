-- Elements that have seats: places that rise along the lists of one replica, and the turns of these lists in which they stand.
use Rattle.std.specs.Prelude.{ℕ, List, ◌<◌, ◌≤◌, AllPairs, All, slice_index_or}
use Rattle.ot_judge.specs.declared.seats.Seat.{Seat}
use Rattle.ot_model.specs.WeakList.{IsBefore}

abbrev pub seat_of : List Seat → ℕ → Seat
seat_of seats n = slice_index_or seats n (record { place = 0; first = 0; past = 0 })

-- an element of this seat stands in one of the lists of these turns, so far as its seat says
abbrev pub IsIn : Seat → ℕ → ℕ → Type 0
IsIn seat from to = (seat.first < to) × (from < seat.past)

-- the elements of the list have places that rise along it, and stand in the list of this turn
pub record IsSeated (seats : List Seat) (xs : List ℕ) (turn : ℕ) : Type 0 where
  pub climbs : AllPairs (λ a b. (seat_of seats a).place < (seat_of seats b).place) xs
  pub held : All (λ a. ((seat_of seats a).first ≤ turn) × (turn < (seat_of seats a).past)) xs

-- two elements that stand in lists of these turns, and whose places fall
pub record Falls (seats : List Seat) (from to a b : ℕ) : Type 0 where
  pub here : IsIn (seat_of seats a) from to
  pub there : IsIn (seat_of seats b) from to
  pub down : (seat_of seats b).place < (seat_of seats a).place

-- no two elements of the list have places that fall
abbrev pub FallsNowhere : List Seat → ℕ → ℕ → List ℕ → Type 0
FallsNowhere seats from to xs = (a b : ℕ) → IsBefore xs a b → ¬ Falls seats from to a b

-- two elements whose places fall along the list stand in the same order in what is kept of it
abbrev pub KeepsFalls : List Seat → ℕ → ℕ → List ℕ → List ℕ → Type 0
KeepsFalls seats from to xs kept = (a b : ℕ) → IsBefore xs a b → Falls seats from to a b → IsBefore kept a b

-- no two elements stand in the one order here and in the other there
abbrev pub Agree : List ℕ → List ℕ → Type 0
Agree xs ys = (a b : ℕ) → IsBefore xs a b → IsBefore ys b a → ⊥

-- the list agrees with each that is seated at one of these turns
abbrev pub AgreesAt : List Seat → List ℕ → ℕ → ℕ → Type 0
AgreesAt seats xs from to = (turn : ℕ) (ys : List ℕ) → from ≤ turn → turn < to → IsSeated seats ys turn → Agree xs ys
