use Rattle.std.proofs.Common.{[], inr}
use Rattle.ot_steps.specs.Steps.{is_quiet}
use Rattle.ot_steps.proofs.Quiet.{quiet_is}
use Rattle.ot_conform.specs.Due.{end_due}
use Rattle.ot_conform.specs.Read.{read_as}
use Rattle.ot_conform.specs.declared.comparison.Stage.TheVariants.{Over}
use Rattle.ot_conform.proofs.Outcomes.{never}
use Rattle.ot_conform.proofs.Settling.{agreed, end_judged, if_ok, is_there, nothing_judged, settled, there_not}
use Rattle.ot_conform.proofs.comparison.Comparison.take_end.Goals as goal

pub returns : goal.returns
returns c =
    let here = c.args.self.now in
    let line = read_as c.args.line.now in
    let counts = c.judge.new.counts in
    let there = is_there c.args.line.now c.in_default.not-Nothing in
    let due = end_due here.place (is_quiet here.machine) in
    let judged = if_ok c.judge.result _ _ (λ v. end_judged here counts line c.is_quiet-quiet.result v (quiet_is c.is_quiet-quiet.result here.machine c.is_quiet-quiet.ensures.exact)) c.judge.ensures in
    record {
      goes = if_ok c.judge.result _ _ (λ v. agreed here counts due Over line v) judged;
      decided = if_ok c.judge.result _ _ (λ v. settled here counts here.place due [] line v (inr there) (there_not line there) (never here.sparse)) judged;
      nothing = if_ok c.judge.result _ _ (λ v. nothing_judged here.counts counts due line v) judged;
    }
