use Rattle.std.proofs.Common.{◌≡◌, ◌<◌, ◌∷◌, [], length, length-append, arith}
use Rattle.ot_server.proofs.Transformed.{chain_received}
use Rattle.ot_server.proofs.Server.append.Goals as goal

pub invariant_of-self-2 : goal.invariant_of-self-2
invariant_of-self-2 g c =
    let base : c.args.op.base ≡ length c.self.inside.document = rw (← c.self.view_is) at c.requires.base in
    let room : length c.self.inside.log.items < 1000000 = rw (← c.self.view_is) at c.requires.room in (
      rw (c.push_reserved.ensures.items, c.reserve.ensures.items, c.in_ok-change.ensures.ok, c.new.ensures)
          (chain_received c.self.inside.log.items c.self.inside.document (record { maker = c.args.maker; op = c.args.op })
          c.self.invariant.0 base c.requires.operation),
      rw (c.push_reserved.ensures.items, c.reserve.ensures.items)
          (omega (arith, room, length-append c.self.inside.log.items (c.new.result ∷ []))),
    )
