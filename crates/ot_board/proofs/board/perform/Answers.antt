use Rattle.ot_board.proofs.Boarding.{runs_one}
use Rattle.ot_board.proofs.board.perform.Goals as goal

pub returns-in-Ok-clause-ran : goal.returns-in-Ok-clause-ran
returns-in-Ok-clause-ran c = runs_one c.args.machine.now c.step.new.self c.args.instr.now c.in-Ok._shown c.in-Ok.ensures.done
