use Rattle.std.proofs.Common.{◌≡◌, ℕ, map, rules, sym, ap, ◌∙◌, subst, Some, Option, List}
use Rattle.std.specs.Option.{option_map}
use Rattle.std.proofs.lemmas.Option.{same_Some}
use Rattle.std.specs.Prelude.{slice_get}
use Rattle.ot_model.specs.Session.{Session}
use Rattle.ot_board.specs.Lents.{session_of}
use Rattle.ot_board.specs.Boards.{BoardView, IsAwaited, board_in, with_parked}
use Rattle.ot_board.proofs.Boarding.{kept_parked, slots_set, with_slots}
use Rattle.ot_board.proofs.board.Board.hold.Goals as goal

pub invariant_of-self : goal.invariant_of-self
invariant_of-self c =
    let b = board_in c.self.inside.machine c.self.inside.recorded.program c.self.inside.out.items c.self.inside.slots.items in
    let here : IsAwaited b (session_of c.args.lent) = subst (λ (v : BoardView). IsAwaited v (session_of c.args.lent)) (sym c.self.view_is) (c.if-is_awaited.ensures.0 (search rules)) in
    let n = c.client-client.result in
    let same : n ≡ (session_of c.args.lent).start.number = c.client-client.ensures in
    kept_parked b _ n (Some (session_of c.args.lent)) c.self.invariant (ap (map (option_map session_of)) c.fill.ensures ∙ slots_set c.self.inside.slots.items n (Some c.args.lent))
    (λ x is. let e = same_Some (session_of c.args.lent) x is in
    (ap (λ (k : ℕ). slice_get b.out k) same ∙ here.0, ap (λ (z : Session). z.start.number) (sym e) ∙ sym same))

pub returns-then-is_awaited-clause-ok : goal.returns-then-is_awaited-clause-ok
returns-then-is_awaited-clause-ok c =
    let b = board_in c.self.inside.machine c.self.inside.recorded.program c.self.inside.out.items c.self.inside.slots.items in
    let x = session_of c.args.lent in
    let n = c.client-client.result in
    let same : n ≡ x.start.number = c.client-client.ensures in
    ap (λ (slots : List (Option Session)). with_slots b slots) (ap (map (option_map session_of)) c.fill.ensures ∙ slots_set c.self.inside.slots.items n (Some c.args.lent))
    ∙ ap (λ (k : ℕ). with_parked b k (Some x)) same
    ∙ ap (λ (v : BoardView). with_parked v x.start.number (Some x)) c.self.view_is
