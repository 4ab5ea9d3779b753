use Rattle.std.proofs.Common.{◌≡◌, ap, sym, subst, ◌∙◌}
use Rattle.std.specs.Option.{option_copied}
use Rattle.ot_steps.specs.Held.{IsHeld, operations, printed_of}
use Rattle.ot_steps.specs.declared.line.Line.{Line}
use Rattle.ot_steps.proofs.Progress.{did, did_apply, leads_within}
use Rattle.ot_conform.specs.Alike.{StandsFor}
use Rattle.ot_conform.specs.Due.{due_with}
use Rattle.ot_conform.specs.Read.{given_as}
use Rattle.ot_conform.specs.Received.{received_in}
use Rattle.ot_conform.specs.declared.comparison.Comparison.{Comparison}
use Rattle.ot_conform.proofs.Alike.{step_stands}
use Rattle.ot_conform.proofs.Going.{due_is}
use Rattle.ot_conform.proofs.Receiving.{still_held}
use Rattle.ot_conform.proofs.Settling.{if_ok, if_some, nothing_judged, same_refused, same_verdict, step_decides, step_goes}
use Rattle.ot_conform.proofs.comparison.Comparison.take_step.Goals as goal

pub returns-in-Err-clause-goes : goal.returns-in-Err-clause-goes
returns-in-Err-clause-goes c =
    let here = c.args.self.now in
    let mid : Comparison = record here { machine = c.perform.new.self } in
    let same : mid ≡ here = ap (λ m. record here { machine = m }) c.in-Err.ensures.unchanged in
    if_ok c.take_refused.result _ _ (λ v went none. same_refused c.args.schedule.now here mid c.take_refused.new.self (given_as c.args.line) same (went none)) c.take_refused.ensures.goes

pub returns-in-Err-clause-decided : goal.returns-in-Err-clause-decided
returns-in-Err-clause-decided c =
    let here = c.args.self.now in
    let mid : Comparison = record here { machine = c.perform.new.self } in
    let same : mid ≡ here = ap (λ m. record here { machine = m }) c.in-Err.ensures.unchanged in
    if_ok c.take_refused.result _ _ (λ v. if_some v _ _ (λ verdict. same_verdict c.args.schedule.now here mid (given_as c.args.line) verdict same)) c.take_refused.ensures.decided

pub judge_given-requires : goal.judge_given-requires
judge_given-requires c =
    let here = c.args.self.now in
    let i = c.args.instr.now in
    let t = c.perform.new.self in
    let received = c.in_ok-received.received in
    let is = did_apply here.machine i t c.in-Ok.effect (option_copied c.operation-delivered.result) c.in-Ok.ensures.effect c.operation-delivered.ensures in
    let performed = did here.machine i t c.in-Ok.effect c.in-Ok.ensures.effect in
    record {
      there = subst IsHeld (sym c.step-step.ensures) (leads_within here.machine t i performed);
      printed = λ documents.
          subst (λ (line : Line). StandsFor (due_with line received) (printed_of documents line)) (sym c.step-step.ensures)
          (step_stands documents c.args.schedule.now here i t performed.0 c.in-Ok.effect.sent (operations c.operation-delivered.result) (received_in t received) c.clients-clients.ensures.limits c.requires.standing c.requires.here performed.1 c.in-Ok.ensures.effect.sent is
          (still_held i here.machine t performed.0 received performed.1 c.in_ok-received.ensures));
    }

pub returns-clause-goes : goal.returns-clause-goes
returns-clause-goes c =
    let here = c.args.self.now in
    let i = c.args.instr.now in
    let t = c.perform.new.self in
    let line = given_as c.args.line in
    let received = c.in_ok-received.received in
    let due = due_with c.step-step.result received in
    let performed = did here.machine i t c.in-Ok.effect c.in-Ok.ensures.effect in
    let is = ap (λ (line : Line). due_with line received) c.step-step.ensures
    ∙ due_is here.place i c.in-Ok.effect.sent (operations c.operation-delivered.result) (received_in t received) here.machine t c.in-Ok.ensures.effect.sent (did_apply here.machine i t c.in-Ok.effect (option_copied c.operation-delivered.result) c.in-Ok.ensures.effect c.operation-delivered.ensures)
    (still_held i here.machine t performed.0 received performed.1 c.in_ok-received.ensures) in
    if_ok c.judge_given.result _ _
    (λ v. step_goes c.args.schedule.now here c.judge_given.new.counts line i t performed.0 due v c.requires.standing c.requires.here performed.1 is c.requires.kept) c.judge_given.ensures.judged

pub returns-clause-decided : goal.returns-clause-decided
returns-clause-decided c =
    let here = c.args.self.now in
    let i = c.args.instr.now in
    let t = c.perform.new.self in
    let line = given_as c.args.line in
    let received = c.in_ok-received.received in
    let due = due_with c.step-step.result received in
    let performed = did here.machine i t c.in-Ok.effect c.in-Ok.ensures.effect in
    let is = ap (λ (line : Line). due_with line received) c.step-step.ensures
    ∙ due_is here.place i c.in-Ok.effect.sent (operations c.operation-delivered.result) (received_in t received) here.machine t c.in-Ok.ensures.effect.sent (did_apply here.machine i t c.in-Ok.effect (option_copied c.operation-delivered.result) c.in-Ok.ensures.effect c.operation-delivered.ensures)
    (still_held i here.machine t performed.0 received performed.1 c.in_ok-received.ensures) in
    if_ok c.judge_given.result _ _
    (λ v. step_decides c.args.schedule.now here c.judge_given.new.counts line i t performed.0 due v c.requires.here performed.1 is c.requires.there c.requires.kept) c.judge_given.ensures.judged

pub returns-clause-nothing : goal.returns-clause-nothing
returns-clause-nothing c =
    if_ok c.judge_given.result _ _
    (λ v. nothing_judged c.args.self.now.counts c.judge_given.new.counts (due_with c.step-step.result c.in_ok-received.received) (given_as c.args.line) v) c.judge_given.ensures.judged
