use Rattle.std.proofs.Common.{rules}
use Rattle.ot_judge.specs.Views.{views}
use Rattle.ot_report.proofs.Exact.{cause-exact}
use Rattle.ot_report.proofs.causes.cause_of.Goals as goal

pub returns-in-Some-clause-exact : goal.returns-in-Some-clause-exact
returns-in-Some-clause-exact c = cause-exact (views c.args.events.now) c.args.e _ (search rules)

pub returns-in-None-clause-exact : goal.returns-in-None-clause-exact
returns-in-None-clause-exact c = cause-exact (views c.args.events.now) c.args.e _ (search rules)
