use Rattle.std.proofs.Common.{arith, length, ◌≡◌, ◌<◌, ◌∙◌, ap, refl, sym}
use Rattle.std.proofs.lemmas.List.{length-map}
use Rattle.ot_model.specs.Table.{State}
use Rattle.ot_machine.specs.Seats.{client_of, incoming}
use Rattle.ot_machine.proofs.RowLaws.{seat_at, queue_at}
use Rattle.ot_machine.proofs.machine.Machine.seat.Goals as goal

pub returns-clause-queue : goal.returns-clause-queue
returns-clause-queue c =
    let many : length c.args.self.now.clients ≡ length c.self.inside.seats.items = ap (λ (s : State). length s.clients) (sym c.self.view_is) ∙ length-map c.self.inside.seats.items client_of in
    let there : c.args.client < length c.self.inside.seats.items = omega (arith, many, c.requires) in
    queue_at c.self.inside.server c.self.inside.seats.items c.self.inside.steps c.args.client c.index.result.now c.self.invariant
    (seat_at c.self.inside.seats.items c.args.client (length c.self.inside.seats.items) c.index.result.now refl there c.index.ensures)
    ∙ ap (λ (s : State). incoming (client_of c.index.result.now) (length s.log)) c.self.view_is
