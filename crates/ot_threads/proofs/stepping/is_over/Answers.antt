use Rattle.ot_threads.proofs.stepping.is_over.Goals as goal

pub returns-then-is_quiet-clause-quiet : goal.returns-then-is_quiet-clause-quiet
returns-then-is_quiet-clause-quiet c = λ _. c.is_quiet.ensures.exact.0 c.if-is_quiet.true
