use Rattle.std.proofs.Common.{sym, ◌∙◌, subst, List, inl, inr}
use Rattle.ot_conform.specs.Differences.{ending}
use Rattle.ot_conform.specs.Due.{stop_due}
use Rattle.ot_conform.specs.Ports.{PortLine, front}
use Rattle.ot_conform.specs.Read.{given_as, read_as}
use Rattle.ot_conform.specs.Standing.{Goes, IsVerdict, rest}
use Rattle.ot_conform.specs.declared.comparison.Stage.TheVariants.{Ending}
use Rattle.ot_conform.proofs.Going.{running}
use Rattle.ot_conform.proofs.Settling.{agreed, if_ok, if_some, limit_verdict, nothing_judged, past_decides, settled, stop_goes, stop_verdict}
use Rattle.ot_conform.proofs.comparison.Comparison.take_refused.Goals as goal

pub returns-then-is_limit-clause-decided : goal.returns-then-is_limit-clause-decided
returns-then-is_limit-clause-decided c =
    limit_verdict c.args.schedule.now c.args.self.now (given_as c.args.line) c.args.instr.now c.args.refusal c.requires.here c.requires.refused (sym c.is_limit.ensures ∙ c.if-is_limit.true) c.requires.there

pub returns-then-passes_refused-clause-goes : goal.returns-then-passes_refused-clause-goes
returns-then-passes_refused-clause-goes c =
    let here = c.args.self.now in
    let s = c.args.schedule.now in
    let line = read_as c.in_ok-line.line in
    if_ok c.take_end.result _ _
    (λ v went none. subst (λ (l : PortLine). Goes s (running here) l c.take_end.new.self) c.in_ok-line.ensures.read
    (stop_goes s here c.take_end.new.self line c.args.instr.now c.args.refusal c.requires.standing c.requires.here c.requires.refused (sym c.is_limit.ensures ∙ c.if-is_limit.false)
    (inr (sym c.passes_refused.ensures ∙ c.if-passes_refused.true, went none))))
    c.take_end.ensures.goes

pub returns-then-passes_refused-clause-decided : goal.returns-then-passes_refused-clause-decided
returns-then-passes_refused-clause-decided c =
    let here = c.args.self.now in
    let s = c.args.schedule.now in
    let line = read_as c.in_ok-line.line in
    if_ok c.take_end.result _ _
    (λ v. if_some v _ _ (λ verdict given. subst (λ (l : PortLine). (lines : List PortLine) → IsVerdict here l (rest s (running here) (front l lines)) verdict) c.in_ok-line.ensures.read
    (stop_verdict s here line c.args.instr.now c.args.refusal verdict c.requires.here c.requires.refused (sym c.is_limit.ensures ∙ c.if-is_limit.false)
    (past_decides here c.args.instr.now c.args.refusal line verdict (sym c.passes_refused.ensures ∙ c.if-passes_refused.true) given))))
    c.take_end.ensures.decided

pub returns-clause-goes : goal.returns-clause-goes
returns-clause-goes c =
    let here = c.args.self.now in
    let s = c.args.schedule.now in
    let line = read_as c.in_ok-line.line in
    if_ok c.judge.result _ _
    (λ v judged none. subst (λ (l : PortLine). Goes s (running here) l (record here { stage = Ending; counts = c.judge.new.counts })) c.in_ok-line.ensures.read
    (stop_goes s here _ line c.args.instr.now c.args.refusal c.requires.standing c.requires.here c.requires.refused (sym c.is_limit.ensures ∙ c.if-is_limit.false)
    (inl (sym c.passes_refused.ensures ∙ c.if-passes_refused.false, agreed here c.judge.new.counts (stop_due here.place c.args.instr.now c.args.refusal) Ending line v judged none))))
    c.judge.ensures

pub returns-clause-decided : goal.returns-clause-decided
returns-clause-decided c =
    let here = c.args.self.now in
    let s = c.args.schedule.now in
    let line = read_as c.in_ok-line.line in
    let due = stop_due here.place c.args.instr.now c.args.refusal in
    if_ok c.judge.result _ _
    (λ v judged. if_some v _ _ (λ verdict given. subst (λ (l : PortLine). (lines : List PortLine) → IsVerdict here l (rest s (running here) (front l lines)) verdict) c.in_ok-line.ensures.read
    (stop_verdict s here line c.args.instr.now c.args.refusal verdict c.requires.here c.requires.refused (sym c.is_limit.ensures ∙ c.if-is_limit.false) given))
    (settled here c.judge.new.counts here.place due (ending here.place here.machine) line v (inl tt) (λ e. c.requires.there (sym c.in_ok-line.ensures.read ∙ e)) (sym c.passes_refused.ensures ∙ c.if-passes_refused.false) judged))
    c.judge.ensures

pub returns-clause-nothing : goal.returns-clause-nothing
returns-clause-nothing c =
    let here = c.args.self.now in
    if_ok c.judge.result _ _
    (λ v judged e. nothing_judged here.counts c.judge.new.counts (stop_due here.place c.args.instr.now c.args.refusal) (read_as c.in_ok-line.line) v judged (c.in_ok-line.ensures.read ∙ e))
    c.judge.ensures
