use Rattle.ot_theorem.proofs.Parts.{memory_if, ran_whole_if, ran_to_if}
use Rattle.ot_theorem.proofs.main_theorem.Goals as goal

pub returns-clause-memory : goal.returns-clause-memory
returns-clause-memory c = memory_if _ c.step.result c.step.ensures.refused

pub returns-clause-runs : goal.returns-clause-runs
returns-clause-runs c = ran_whole_if c.args.schedule.now c.run.result c.run.ensures

pub returns-clause-stops : goal.returns-clause-stops
returns-clause-stops c = ran_to_if c.args.schedule.now c.run.result c.run.ensures
