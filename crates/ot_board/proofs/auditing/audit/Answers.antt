use Rattle.std.proofs.lemmas.Result.{IfErr-weaker}
use Rattle.ot_board.specs.Tiling.{lists}
use Rattle.ot_board.proofs.Tiles.{tiled_fault}
use Rattle.ot_board.proofs.auditing.audit.Goals as goal

pub returns-clause-exact : goal.returns-clause-exact
returns-clause-exact c = λ tiles. IfErr-weaker c.check_all.result _ _ (tiled_fault c.args.finished.now.schedule.instrs (lists c.args.workers.now) tiles) c.check_all.ensures.err
