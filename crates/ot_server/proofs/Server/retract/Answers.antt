use Rattle.std.proofs.Common.{◌-◌, arith}
use Rattle.std.specs.Vec.{vec_len}
use Rattle.ot_server.specs.Undo.{IsUndo}
use Rattle.ot_server.proofs.Retracted.{undo_fits, document_back, log_back, some, chain_back, retracted}
use Rattle.ot_server.proofs.Server.retract.Goals as goal

pub change-requires : goal.change-requires
change-requires g c =
    undo_fits c.requires.0 (record { document = c.self.inside.document; log = c.self.inside.log.items }) c.args.undo.now
    (rw (← c.self.view_is) at c.requires.1)

pub invariant_of-self-2 : goal.invariant_of-self-2
invariant_of-self-2 g c =
    let undoing : IsUndo c.requires.0 (record { document = c.self.inside.document; log = c.self.inside.log.items }) c.args.undo.now =
    rw (← c.self.view_is) at c.requires.1 in
    let one = some _ _ _ undoing in (
      rw (c.pop.ensures.rest, c.in_ok-change.ensures.ok, log_back _ _ _ undoing (vec_len c.self.inside.log - 1) (omega (arith, one)), document_back _ _ _ undoing)
          (chain_back _ _ _ undoing c.self.invariant.0),
      omega (arith, c.pop.ensures.len, c.self.invariant.1),
    )

pub returns-clause-ok : goal.returns-clause-ok
returns-clause-ok g c = λ earlier was.
    let undoing : IsUndo earlier (record { document = c.self.inside.document; log = c.self.inside.log.items }) c.args.undo.now =
    rw (← c.self.view_is) at was in
    let one = some _ _ _ undoing in
    retracted _ _ _ undoing _ c.pop.new.self.items (vec_len c.self.inside.log - 1)
    c.in_ok-change.ensures.ok c.pop.ensures.rest (omega (arith, one))
