use Rattle.std.proofs.Common.{length}
use Rattle.std.proofs.lemmas.Option.{slice_get_within}
use Rattle.ot_conform.specs.Read.{read_as}
use Rattle.ot_conform.proofs.Going.{verdict_past}
use Rattle.ot_conform.proofs.Settling.{end_verdict, if_ok, if_some, not_passed}
use Rattle.ot_conform.proofs.comparison.Comparison.take_running.Goals as goal

pub returns-in_default-clause-decided : goal.returns-in_default-clause-decided
returns-in_default-clause-decided c =
    if_ok c.take_end.result _ _
    (λ v. if_some v _ _ (λ verdict given. verdict_past c.args.schedule.now c.args.self.now c.pass_over-refusal.new.self (read_as c.args.line) verdict c.pass_over-refusal.ensures.passes
    (end_verdict c.args.schedule.now c.pass_over-refusal.new.self (read_as c.args.line) verdict (c.get.ensures.none c.in_default.is) given)))
    c.take_end.ensures.decided

pub take_step-requires-clause-kept : goal.take_step-requires-clause-kept
take_step-requires-clause-kept c =
    not_passed _ (length c.args.schedule.now.instrs) c.pass_over-refusal.new.self.place (c.pass_over-refusal.ensures.kept c.in-None.is)
    (slice_get_within c.args.schedule.now.instrs c.pass_over-refusal.new.self.place c.in-Some.instr.now c.in-Some.ensures.some)

pub returns-in-Some-refusal-clause-decided : goal.returns-in-Some-refusal-clause-decided
returns-in-Some-refusal-clause-decided c =
    if_ok c.take_refused.result _ _
    (λ v. if_some v _ _ (λ verdict. verdict_past c.args.schedule.now c.args.self.now c.pass_over-refusal.new.self (read_as c.args.line) verdict c.pass_over-refusal.ensures.passes)) c.take_refused.ensures.decided

pub returns-clause-decided : goal.returns-clause-decided
returns-clause-decided c =
    if_ok c.take_step.result _ _
    (λ v. if_some v _ _ (λ verdict. verdict_past c.args.schedule.now c.args.self.now c.pass_over-refusal.new.self (read_as c.args.line) verdict c.pass_over-refusal.ensures.passes)) c.take_step.ensures.decided
