use Rattle.ot_model.proofs.Traced.{trace_weak}
use Rattle.ot_model.proofs.list_laws.weak_list.Goals as goal

pub returns : goal.returns
returns c = trace_weak
