use Rattle.std.proofs.Common.{◌∙◌, ap, sym}
use Rattle.std.specs.Prelude.{Result, Err}
use Rattle.serde_json.specs.View.{view}
use Rattle.ot_judge.specs.declared.fault.TraceFault.{TraceFault}
use Rattle.ot_model.specs.Trace.{TraceView}
use Rattle.ot_reasons.proofs.Exact.{no-fault-good}
use Rattle.ot_reasons.proofs.words.value_reason.Goals as goal

pub unreachable-requires : goal.unreachable-requires
unreachable-requires c =
    no-fault-good (view c.args.value.now) (sym c.shape_fault.ensures.first ∙ c.in-None.is)
    (c.requires ∙ ap (λ (e : TraceFault). let r : Result TraceView TraceFault = Err e in r) c.in-BadShape.is)
