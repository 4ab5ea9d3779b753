use Rattle.std.proofs.Common.{sym, ◌∙◌}
use Rattle.ot_judge.specs.Views.{views}
use Rattle.ot_report.specs.Causes.{lacked_at}
use Rattle.ot_report.proofs.Below.{first-found}
use Rattle.ot_report.proofs.causes.first_lacking.Goals as goal

pub returns-in-Some-clause-value : goal.returns-in-Some-clause-value
returns-in-Some-clause-value c =
    sym (first-found (lacked_at (views c.args.events.now) c.args.e) c.args.e c.loop-d.d c.in-Some.cause c.loop-d-test.true c.loop-d.invariant (sym c.lacked_at.ensures.value ∙ c.in-Some.is))
