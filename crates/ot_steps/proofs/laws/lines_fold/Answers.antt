use Rattle.ot_steps.proofs.Running.{all_lines_fold, lines_fold_within}
use Rattle.ot_steps.proofs.laws.lines_fold.Goals as goal

pub returns-clause-within : goal.returns-clause-within
returns-clause-within c = lines_fold_within

pub returns-clause-all : goal.returns-clause-all
returns-clause-all c = all_lines_fold
