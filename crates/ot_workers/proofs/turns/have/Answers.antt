use Rattle.std.proofs.Common.{◌≡◌, ◌⊎◌, ◌∙◌, sym, ap, subst, inr, Bool, Some}
use Rattle.ot_board.specs.Boards.{BoardView}
use Rattle.ot_board.specs.Lents.{session_of}
use Rattle.ot_workers.specs.Choosing.{way}
use Rattle.ot_workers.specs.Faults.{board_fault}
use Rattle.ot_workers.specs.Turns.{HasJoined, IsHadFrom, IsSeen, IsShortage}
use Rattle.ot_workers.specs.declared.choosing.Seat.{Seat}
use Rattle.ot_workers.specs.declared.choosing.Way.{Way}
use Rattle.ot_workers.specs.declared.choosing.Way.TheVariants.{Join}
use Rattle.ot_workers.specs.declared.fault.WorkFault.{WorkFault}
use Rattle.ot_workers.proofs.Receipted.{receipts_none}
use Rattle.ot_workers.proofs.Seen.{by_residual, on_err}
use Rattle.ot_workers.proofs.Shortages.{joined_is_short}
use Rattle.ot_workers.proofs.turns.have.Goals as goal

pub returns-in_ok-lent-in-PickUp-clause-receipts :
    goal.returns-in_ok-lent-in-PickUp-clause-receipts
returns-in_ok-lent-in-PickUp-clause-receipts c =
    receipts_none c.args.board.now c.pick_up.new.self c.args.receipts.now.items c.reserve.new.self.items
    (ap (λ (v : BoardView). v.recorded) c.in_ok-lent-in-PickUp.ensures.left) c.reserve.ensures.items

pub returns-in_ok-lent-in-Join-clause-had : goal.returns-in_ok-lent-in-Join-clause-had
returns-in_ok-lent-in-Join-clause-had c =
    subst (λ (w : Way). IsHadFrom c.args.board.now c.args.client w (session_of c.in_ok-lent-in-Join.lent) c.lend-in-Join.new.self) (sym c.in-Join.is)
    (c.join.new.self, (c.in_ok-receipt-in-Join.receipt, c.in_ok-receipt-in-Join.ensures.ok), (c.in_ok-lent-in-Join.ensures.ok, c.in_ok-lent-in-Join.ensures.out))

pub returns-in_ok-lent-in-Lend-clause-receipts :
    goal.returns-in_ok-lent-in-Lend-clause-receipts
returns-in_ok-lent-in-Lend-clause-receipts c =
    receipts_none c.args.board.now c.lend.new.self c.args.receipts.now.items c.reserve.new.self.items
    (ap (λ (v : BoardView). v.recorded) c.in_ok-lent-in-Lend.ensures.out) c.reserve.ensures.items

pub returns-in_err-lent-in-Join-clause-joined : goal.returns-in_err-lent-in-Join-clause-joined
returns-in_err-lent-in-Join-clause-joined c =
    let receipt = c.in_ok-receipt-in-Join.receipt in
    let joined : HasJoined c.args.board.now c.args.client c.lend-in-Join.new.self =
    subst (HasJoined c.args.board.now c.args.client) (sym c.in_err-lent-in-Join.ensures.unchanged) (receipt, c.in_ok-receipt-in-Join.ensures.ok) in
    on_err c.from_residual-in_err-lent-in-Join.result ((c.lend-in-Join.new.self ≡ c.args.board.now) ⊎ ((c.args.way ≡ Join) × HasJoined c.args.board.now c.args.client c.lend-in-Join.new.self)) (inr (c.in-Join.is, joined))

pub returns-in_err-lent-in-Join-clause-short : goal.returns-in_err-lent-in-Join-clause-short
returns-in_err-lent-in-Join-clause-short c =
    by_residual c.from_residual-in_err-lent-in-Join.result (λ f. f ≡ board_fault c.in_err-lent-in-Join.field-0.0)
    (λ f. (seat : Seat) → (untyped : Bool) → IsSeen c.args.board.now untyped c.args.client seat → way seat ≡ Some c.args.way → IsShortage c.lend-in-Join.new.self f) c.from_residual-in_err-lent-in-Join.ensures.1
    (λ f is seat untyped seen chosen.
    let short = joined_is_short c.args.board.now c.join.new.self untyped c.args.client seat c.in_ok-receipt-in-Join.receipt c.in_err-lent-in-Join.field-0.0 c.steps-kept.ensures.kept c.in_ok-receipt-in-Join.ensures.ok
    c.in_err-lent-in-Join.ensures.refused seen (chosen ∙ ap (λ (w : Way). Some w) c.in-Join.is) in
    subst (λ (g : WorkFault). IsShortage c.lend-in-Join.new.self g) (sym is)
    (subst (λ (b : BoardView). IsShortage b (board_fault c.in_err-lent-in-Join.field-0.0)) (sym c.in_err-lent-in-Join.ensures.unchanged) short))
