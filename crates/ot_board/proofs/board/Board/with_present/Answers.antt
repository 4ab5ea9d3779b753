use Rattle.std.proofs.Common.{◌≡◌, map, rules, sym, ap, ◌∙◌, subst}
use Rattle.std.specs.Option.{option_map}
use Rattle.ot_board.specs.Lents.{session_of}
use Rattle.ot_board.specs.Boards.{IsBoard, board_in, fresh}
use Rattle.ot_board.proofs.Boarding.{fresh_kept, none_seen, same_board}
use Rattle.ot_board.proofs.board.Board.with_present.Goals as goal

pub invariant_of-result : goal.invariant_of-result
invariant_of-result c =
    let b = board_in c.in_ok-machine.machine c.in-Ok.recorded.program c.in_ok-out.out.items c.in_ok-slots.slots.items in
    let e : b ≡ fresh c.args.clients c.args.present c.args.start.now =
    same_board _ _ _ _ _ _ _ _ c.in-Ok.ensures.ok c.in_ok-machine.ensures (search rules) (ap (map (option_map session_of)) c.in_ok-slots.ensures ∙ none_seen c.args.clients) in
    subst IsBoard (sym e) (fresh_kept c.args.clients c.args.present c.args.start.now c.requires.clients.2)

pub returns : goal.returns
returns c =
    let b = board_in c.in_ok-machine.machine c.in-Ok.recorded.program c.in_ok-out.out.items c.in_ok-slots.slots.items in
    let e : b ≡ fresh c.args.clients c.args.present c.args.start.now =
    same_board _ _ _ _ _ _ _ _ c.in-Ok.ensures.ok c.in_ok-machine.ensures (search rules) (ap (map (option_map session_of)) c.in_ok-slots.ensures ∙ none_seen c.args.clients) in
    e
