use Rattle.ot_report.proofs.Spelling as laws
use Rattle.ot_report.proofs.spans.spans_spell.Goals as goal

pub returns : goal.returns
returns c = laws.spans_spell
