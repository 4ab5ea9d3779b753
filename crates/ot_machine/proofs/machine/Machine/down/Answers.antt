use Rattle.std.proofs.Common.{rules, refl, sym, true, false, ◌≡◌}
use Rattle.std.specs.Prelude.{◌==◌}
use Rattle.ot_machine.specs.Seats.{client_of}
use Rattle.ot_machine.proofs.Reading.{down_none, down_some, down_meant}
use Rattle.ot_machine.proofs.machine.Machine.down.Goals as goal

pub returns-in_default : goal.returns-in_default
returns-in_default c =
    let found = (down_none c.args.self.now c.args.client c.args.place (client_of c.seat-seat.result.now) c.seat-seat.result.now.down.items
    c.seat-seat.ensures.client c.seat-seat.ensures.queue (sym c.in_default.ensures)) in
    record { entry = found; message = down_meant c.args.self.now c.args.client c.args.place (client_of c.seat-seat.result.now) _ c.seat-seat.ensures.client found }

pub returns-in_default-entry : goal.returns-in_default-entry
returns-in_default-entry c =
    let found = (down_some c.args.self.now c.args.client c.args.place (client_of c.seat-seat.result.now) c.seat-seat.result.now.down.items c.in-Some.number.now _ _
    c.seat-seat.ensures.client c.seat-seat.ensures.queue (sym c.in-Some.ensures) c.in_default-entry.ensures refl) in
    record { entry = found; message = down_meant c.args.self.now c.args.client c.args.place (client_of c.seat-seat.result.now) _ c.seat-seat.ensures.client found }

pub returns-then-maker-client : goal.returns-then-maker-client
returns-then-maker-client c =
    let own : (c.in-Some-entry.entry.now.maker == c.args.client) ≡ true = search rules in
    let found = (down_some c.args.self.now c.args.client c.args.place (client_of c.seat-seat.result.now) c.seat-seat.result.now.down.items c.in-Some.number.now _ _
    c.seat-seat.ensures.client c.seat-seat.ensures.queue (sym c.in-Some.ensures) c.in-Some-entry.ensures (rw own refl)) in
    record { entry = found; message = down_meant c.args.self.now c.args.client c.args.place (client_of c.seat-seat.result.now) _ c.seat-seat.ensures.client found }

pub returns : goal.returns
returns c =
    let other : (c.in-Some-entry.entry.now.maker == c.args.client) ≡ false = search rules in
    let found = (down_some c.args.self.now c.args.client c.args.place (client_of c.seat-seat.result.now) c.seat-seat.result.now.down.items c.in-Some.number.now _ _
    c.seat-seat.ensures.client c.seat-seat.ensures.queue (sym c.in-Some.ensures) c.in-Some-entry.ensures (rw other refl)) in
    record { entry = found; message = down_meant c.args.self.now c.args.client c.args.place (client_of c.seat-seat.result.now) _ c.seat-seat.ensures.client found }
