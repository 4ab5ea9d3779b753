use Rattle.std.proofs.Common.{map, sym, ap, ◌∙◌, Some, None, Option, List}
use Rattle.std.specs.Option.{option_map}
use Rattle.std.specs.Prelude.{slice_get}
use Rattle.ot_model.specs.Session.{Session}
use Rattle.ot_board.specs.Lents.{session_of}
use Rattle.ot_board.specs.Boards.{BoardView, board_in, with_parked}
use Rattle.ot_board.proofs.Boarding.{kept_parked, slots_set, slot_at, with_slots}
use Rattle.ot_board.proofs.board.Board.pick_up.Goals as goal

pub invariant_of-self : goal.invariant_of-self
invariant_of-self c =
    let b = board_in c.self.inside.machine c.self.inside.recorded.program c.self.inside.out.items c.self.inside.slots.items in
    kept_parked b _ c.args.client None c.self.invariant (ap (map (option_map session_of)) c.empty.ensures.rest ∙ slots_set c.self.inside.slots.items c.args.client None) (λ x is. absurd (cc))

pub returns-clause-ok : goal.returns-clause-ok
returns-clause-ok c =
    ap (λ (v : BoardView). slice_get v.parked c.args.client) (sym c.self.view_is) ∙ slot_at c.self.inside.slots.items c.args.client (Some c.in-Some.lent) c.in-Some.ensures.value

pub returns-clause-left : goal.returns-clause-left
returns-clause-left c =
    let b = board_in c.self.inside.machine c.self.inside.recorded.program c.self.inside.out.items c.self.inside.slots.items in
    ap (λ (slots : List (Option Session)). with_slots b slots) (ap (map (option_map session_of)) c.empty.ensures.rest ∙ slots_set c.self.inside.slots.items c.args.client None)
    ∙ ap (λ (v : BoardView). with_parked v c.args.client None) c.self.view_is
