use Rattle.std.proofs.Common.{sym, subst}
use Rattle.ot_isa.specs.Program.{Program}
use Rattle.ot_board.specs.Boards.{RunsEndIn}
use Rattle.ot_board.proofs.Replaying.{replayed}
use Rattle.ot_board.proofs.board.Board.finish.Goals as goal

pub returns-clause-runs : goal.returns-clause-runs
returns-clause-runs c =
    subst (λ (p : Program). RunsEndIn p c.self.inside.machine) (sym c.finish.ensures) (replayed c.self.inside.recorded.program c.self.inside.machine c.self.invariant.replays)
