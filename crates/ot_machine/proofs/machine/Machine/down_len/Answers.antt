use Rattle.ot_machine.specs.Seats.{client_of}
use Rattle.ot_machine.proofs.Reading.{down_len_is}
use Rattle.ot_machine.proofs.machine.Machine.down_len.Goals as goal

pub returns : goal.returns
returns c =
    down_len_is c.args.self.now c.args.client (client_of c.seat.result.now) c.seat.result.now.down.items c.len.result
    c.seat.ensures.client c.seat.ensures.queue c.len.ensures
