-- Which client a worker's turn goes on with.
use Rattle.std.specs.Prelude.{◌≡◌, ℕ, zero, suc, ◌+◌, ◌%◌, List, length, slice_index_or, false, ◌||◌, Option, Some, None, option_copied, if◌then◌else◌}
use Rattle.ot_model.specs.Session.{Session}
use Rattle.ot_plan.specs.declared.typing.Typing.{Typing}
use Rattle.ot_workers.specs.declared.choosing.Seat.{Seat}
use Rattle.ot_workers.specs.declared.choosing.Way.{Way}
use Rattle.ot_workers.specs.declared.choosing.Way.TheVariants.{PickUp, Lend, Join}
use Rattle.ot_workers.specs.declared.playing.Task.{Task}
use Rattle.ot_workers.specs.declared.playing.Task.TheVariants.{Enter, Read}

-- how a client is obtained: a parked session is picked up; a client that is not out is lent where it has a message or an action to type,
-- and joined before where it has an action and has not joined
abbrev pub way : Seat → Option Way
way s =
    if s.parked then Some PickUp
    else if s.out then None
    else if s.joined then (if s.message || s.untyped then Some Lend else None)
    else if s.untyped then Some Join
    else None

-- past the last client there is none
abbrev pub nobody : Seat
nobody = record { joined = false; out = false; parked = false; message = false; untyped = false }

abbrev pub seat_at : List Seat → ℕ → Seat
seat_at seats place = slice_index_or seats (place % length seats) nobody

abbrev pub with_place : ℕ → Option (ℕ × Way) → Option Way → Option (ℕ × Way)
with_place place later (Some w) = Some (place, w)
with_place place later None = later

-- the first that can be obtained among so many clients from a place on, round
abbrev pub first_from : List Seat → ℕ → ℕ → Option (ℕ × Way)
first_from seats place zero = None
first_from seats place (suc left) = with_place (place % length seats) (first_from seats (suc place) left) (way (seat_at seats place))

-- worker w's turn k begins at client w + k and goes round once
abbrev pub choice : List Seat → ℕ → ℕ → Option (ℕ × Way)
choice seats w k = first_from seats (w + k) (length seats)

-- a session that was obtained this way: one that was lent has no steps
abbrev pub IsHad : Way → Session → Type 0
IsHad PickUp x = Unit {0}
IsHad Lend x = length x.steps ≡ 0
IsHad Join x = length x.steps ≡ 0

-- a session that was parked is read, and in one that was lent the client's action is typed
abbrev pub IsTaskFor : Way → Option Typing → Task → Type 0
IsTaskFor PickUp action Read = Unit {0}
IsTaskFor PickUp action (Enter next) = ⊥
IsTaskFor Lend action Read = ⊥
IsTaskFor Lend action (Enter next) = option_copied next ≡ action
IsTaskFor Join action Read = ⊥
IsTaskFor Join action (Enter next) = option_copied next ≡ action
