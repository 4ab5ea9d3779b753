use Rattle.std.proofs.Common.{length, set, refl, sym, ap, ◌∙◌, subst, arith, rules, Some, true}
use Rattle.std.proofs.lemmas.Option.{slice_get_read}
use Rattle.ot_model.specs.Table.{State}
use Rattle.ot_board.specs.Boards.{BoardView, HasRoomFor, IsBoard, board_in}
use Rattle.ot_board.proofs.Boarding.{kept_lent}
use Rattle.ot_board.proofs.board.Board.lend.Goals as goal

pub invariant_of-self : goal.invariant_of-self
invariant_of-self c = subst (λ (s : State). IsBoard (board_in s c.self.inside.recorded.program c.self.inside.out.items c.self.inside.slots.items)) (sym c.share.ensures) c.self.invariant

pub invariant_of-self-2 : goal.invariant_of-self-2
invariant_of-self-2 c =
    let b = board_in c.self.inside.machine c.self.inside.recorded.program c.self.inside.out.items c.self.inside.slots.items in
    let room = subst (λ (v : BoardView). HasRoomFor v 64) (sym c.self.view_is) (c.if-not-has_room_for.ensures.0 (search rules)) in
    let outs = c.self.invariant.outs in
    let clients = c.self.invariant.clients in
    let at = slice_get_read b.out (length b.out) c.args.client c.index.result.now refl (omega arith) c.index.ensures in
    subst (λ (s : State). IsBoard (board_in s b.recorded (set b.out c.args.client true) c.self.inside.slots.items)) (sym c.share.ensures)
    (kept_lent b c.args.client c.self.invariant (at ∙ ap Some c.if-index.false) room)
