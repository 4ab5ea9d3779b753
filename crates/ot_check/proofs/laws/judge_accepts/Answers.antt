use Rattle.ot_model.specs.Events.{trace_of}
use Rattle.ot_model.proofs.Traced.{trace_weak}
use Rattle.ot_judge.proofs.Whole.{verdict-both}
use Rattle.ot_check.proofs.laws.judge_accepts.Goals as goal

pub returns : goal.returns
returns c = λ s v is verdict. (verdict-both (trace_of s) v verdict).1 (trace_weak s is)
