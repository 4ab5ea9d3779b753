use Rattle.std.proofs.Common.{refl, sym, ◌∙◌}
use Rattle.ot_conform.specs.Ports.{port_line}
use Rattle.ot_conform.proofs.Leading.{bytes_decide, bytes_lead}
use Rattle.ot_conform.proofs.Settling.{if_ok, if_some}
use Rattle.ot_conform.proofs.reading.take_bytes.Goals as goal

pub returns-clause-goes : goal.returns-clause-goes
returns-clause-goes c =
    if_ok c.take_bytes.result _ _
    (λ v went none. bytes_lead c.args.schedule.now c.args.comparison.now c.take_bytes.new.self c.args.line.now c.trimmed-text.result.now (port_line c.trimmed-text.result.now)
    c.trimmed-text.ensures (sym c.is_empty.ensures ∙ c.if-is_empty.false) refl (went none))
    c.take_bytes.ensures.goes

pub returns-clause-decided : goal.returns-clause-decided
returns-clause-decided c =
    if_ok c.take_bytes.result _ _
    (λ v. if_some v _ _ (λ verdict. bytes_decide c.args.schedule.now c.args.comparison.now c.args.line.now c.trimmed-text.result.now (port_line c.trimmed-text.result.now) verdict
    c.trimmed-text.ensures (sym c.is_empty.ensures ∙ c.if-is_empty.false) refl))
    c.take_bytes.ensures.decided
