use Rattle.std.proofs.Common.{◌∙◌, sym}
use Rattle.serde_json.specs.View.{view}
use Rattle.ot_conform.proofs.Plain.{written_is}
use Rattle.ot_conform.proofs.agreement.is_written.Goals as goal

pub returns : goal.returns
returns c =
    c.eq.ensures
    ∙ written_is (view c.args.value.now) c.as_str.result.now c.args.text.now (sym c.is_plain.ensures ∙ c.if-not-is_plain.false)
    (λ plain. c.as_str.ensures.value ∙ c.in_ok-written.ensures.text plain)
