use Rattle.streams.proofs.outcomes.complain_of_input.Goals as goal

pub returns-in-Read-clause-line : goal.returns-in-Read-clause-line
returns-in-Read-clause-line g c = rw c.in-Read.is c.complain.ensures.line
