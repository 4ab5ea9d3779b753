use Rattle.ot_model.proofs.Traced.{trace_shape}
use Rattle.ot_model.proofs.list_laws.trace_shape.Goals as goal

pub returns : goal.returns
returns c = trace_shape
