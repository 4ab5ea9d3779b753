-- Why a call under the lock is refused, where it may be made: the record is full, or memory runs out.
use Rattle.std.proofs.Common.{◌≡◌, ℕ, ◌<◌, [], ◌∷◌, refl, ap, ◌∙◌, subst, arith, Bool, true, false, Option, Some, None}
use Rattle.std.specs.Prelude.{slice_get, ◌||◌, if◌then◌else◌}
use Rattle.std.specs.Option.{option_map}
use Rattle.std.proofs.lemmas.Option.{slice_get_within}
use Rattle.ot_isa.specs.Program.{Program}
use Rattle.ot_isa.specs.declared.instruction.Instr.TheVariants.{Join as Joins}
use Rattle.ot_model.specs.declared.shown.Refusal.TheVariants as table
use Rattle.ot_model.specs.declared.shown.Shown.{Shown}
use Rattle.ot_model.specs.Table.{Client, State, Performed, is_joined, joined, step}
use Rattle.ot_model.proofs.Exchanging.{same_state}
use Rattle.ot_model.proofs.Outcomes.{by_join}
use Rattle.ot_model.proofs.States.{slice_get-set_same}
use Rattle.ot_machine.specs.Readers.{ClientHas}
use Rattle.ot_board.specs.declared.receipt.Receipt.{Receipt}
use Rattle.ot_board.specs.declared.refusal.BoardRefusal.{BoardRefusal}
use Rattle.ot_board.specs.declared.refusal.BoardRefusal.TheVariants.{NoSuchClient, NotJoined, AlreadyJoined, Out, NotParked, RecordFull, LinkEmpty, Memory}
use Rattle.ot_board.specs.Boards.{BoardView, HasRoomFor, IsBoard, IsJoined, IsLendRefusal, IsRecorded}
use Rattle.ot_model.specs.declared.limits.TheConstants.{SESSION_LIMIT}
use Rattle.ot_workers.specs.Choosing.{way}
use Rattle.ot_workers.specs.Faults.{board_fault}
use Rattle.ot_workers.specs.Turns.{IsSeen, IsShortage}
use Rattle.ot_workers.specs.declared.choosing.Seat.{Seat}
use Rattle.ot_workers.specs.declared.choosing.Way.TheVariants.{PickUp, Lend, Join}
use Rattle.ot_workers.proofs.Uplinks.{ran_one}

differ : (o : Option Bool) → o ≡ Some true → o ≡ Some false → ⊥
differ o on off = absurd (cc)

full : (b : BoardView) → (HasRoomFor b 1 → ⊥) → HasRoomFor b SESSION_LIMIT → ⊥
full b none room = none (omega (arith, room))

lend_short : (b : BoardView) (c : ℕ) (r : BoardRefusal) → c < b.recorded.clients → IsJoined b c true → slice_get b.out c ≡ Some false → IsLendRefusal b c r → IsShortage b (board_fault r)
lend_short b c NoSuchClient below on home is = absurd (omega (arith, below, is))
lend_short b c NotJoined below on home is = absurd (differ _ on is)
lend_short b c Out below on home is = absurd (differ _ is.1 home)
lend_short b c RecordFull below on home is = is.2
lend_short b c Memory below on home is = tt
lend_short b c AlreadyJoined below on home is = absurd is
lend_short b c NotParked below on home is = absurd is
lend_short b c LinkEmpty below on home is = absurd is

-- what a seat says of the way in which its client is obtained
picked : (parked out joined heard untyped : Bool)
    → (if parked then Some PickUp else if out then None else if joined then (if heard then Some Lend else None) else if untyped then Some Join else None) ≡ Some PickUp → parked ≡ true
picked true out joined heard untyped e = refl
picked false true joined heard untyped e = absurd (cc)
picked false false true true untyped e = absurd (cc)
picked false false true false untyped e = absurd (cc)
picked false false false heard true e = absurd (cc)
picked false false false heard false e = absurd (cc)

lent : (parked out joined heard untyped : Bool)
    → (if parked then Some PickUp else if out then None else if joined then (if heard then Some Lend else None) else if untyped then Some Join else None) ≡ Some Lend → (joined ≡ true) × (out ≡ false)
lent true out joined heard untyped e = absurd (cc)
lent false true joined heard untyped e = absurd (cc)
lent false false true heard untyped e = (refl, refl)
lent false false false heard true e = absurd (cc)
lent false false false heard false e = absurd (cc)

joins : (parked out joined heard untyped : Bool)
    → (if parked then Some PickUp else if out then None else if joined then (if heard then Some Lend else None) else if untyped then Some Join else None) ≡ Some Join → (joined ≡ false) × (out ≡ false)
joins true out joined heard untyped e = absurd (cc)
joins false true joined heard untyped e = absurd (cc)
joins false false true true untyped e = absurd (cc)
joins false false true false untyped e = absurd (cc)
joins false false false heard untyped e = (refl, refl)

there : (b : BoardView) (u : Bool) (c : ℕ) (s : Seat) → IsBoard b → IsSeen b u c s → c < b.recorded.clients
there b u c s board seen =
    let within = slice_get_within b.out c s.out seen.out in
    omega (arith, within, board.outs)

-- a client that joins has joined
joined_row : (s t : State) (c : ℕ) (a : Option Shown) → step s (Joins c) ≡ Performed t a → ClientHas t c (λ x. is_joined x.phase) true
joined_row s t c a row =
    by_join (λ o. o ≡ Performed t a → ClientHas t c (λ x. is_joined x.phase) true) (λ r f. absurd (cc)) s c
    (λ x at below off f. subst (λ (u : State). ClientHas u c (λ y. is_joined y.phase) true) (same_state _ t None a f) (ap (option_map (λ (y : Client). is_joined y.phase)) (slice_get-set_same s.clients c x (joined s x) at)))
    row

pub joined_is_short : (b m : BoardView) (u : Bool) (c : ℕ) (s : Seat) (receipt : Receipt) (r : BoardRefusal) → IsBoard b → IsRecorded b (Joins c ∷ []) b.out m receipt → IsLendRefusal m c r
    → IsSeen b u c s → way s ≡ Some Join → IsShortage m (board_fault r)
joined_is_short b m u c s receipt r board made is seen chosen =
    let facts = joins s.parked s.out s.joined (s.message || s.untyped) s.untyped chosen in
    let ran = ran_one b.state m.state (Joins c) made.ran in
    let same : m.recorded.clients ≡ b.recorded.clients = ap (λ (p : Program). p.clients) made.recorded in
    let below = there b u c s board seen in
    lend_short m c r (omega (arith, below, same)) (joined_row b.state m.state c ran.0 ran.1) (rw made.out_is (seen.out ∙ ap (λ (x : Bool). Some x) facts.1)) is
