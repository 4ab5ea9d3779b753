use Rattle.ot_report.proofs.AuthorLaws as laws
use Rattle.ot_report.proofs.authors.edits_are_authors.Goals as goal

pub returns-clause-edits : goal.returns-clause-edits
returns-clause-edits c = laws.edits_are_authors

pub returns-clause-all : goal.returns-clause-all
returns-clause-all c = laws.all_have_authors
