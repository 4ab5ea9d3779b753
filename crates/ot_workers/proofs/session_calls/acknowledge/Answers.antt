use Rattle.std.proofs.Common.{◌≡◌, ap, sym, ◌∙◌}
use Rattle.ot_model.specs.Table.{Synchronized}
use Rattle.ot_board.specs.declared.lent.Lent.{Lent}
use Rattle.ot_board.specs.Lents.{session_of}
use Rattle.ot_workers.proofs.Heard.{none_waits}
use Rattle.ot_workers.proofs.session_calls.acknowledge.Goals as goal

pub unreachable-requires : goal.unreachable-requires
unreachable-requires c =
    let phase : (session_of c.args.lent).now.client.phase ≡ Synchronized = ap (λ (l : Lent). (session_of l).now.client.phase) c.in-Synchronized.is ∙ sym c.state-synchronized.ensures.phase in
    none_waits (session_of c.args.lent) c.steps-allowed.ensures.allowed phase c.requires
