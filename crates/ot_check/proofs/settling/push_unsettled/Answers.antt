use Rattle.std.proofs.Common.{subst, Bool}
use Rattle.ot_model.specs.Table.{is_joined}
use Rattle.ot_machine.specs.Readers.{ClientHas}
use Rattle.ot_check.proofs.AllAnswers.{not-joined, pushed}
use Rattle.ot_check.proofs.settling.push_unsettled.Goals as goal

pub returns : goal.returns
returns c =
    let s = c.args.machine.now in
    pushed s c.args.client c.args.found.now.items c.push_if.new.found.items c.push_if-2.new.found.items c.push_if-3.new.found.items c.is_synchronized-synchronized.result c.sends-sends.result
    c.awaits_none-none.result (subst (λ (b : Bool). ClientHas s c.args.client (λ x. is_joined x.phase) b) c.if-not-joined.false c.joined.ensures)
    c.is_synchronized-synchronized.ensures c.sends-sends.ensures c.awaits_none-none.ensures c.in_ok-push_if.ensures c.in_ok-push_if-2.ensures c.in_ok-push_if-3.ensures

pub returns-then-not-joined : goal.returns-then-not-joined
returns-then-not-joined c =
    let s = c.args.machine.now in
    not-joined s c.args.client c.args.found.now.items
    (subst (λ (b : Bool). ClientHas s c.args.client (λ x. is_joined x.phase) b) c.if-not-joined.true c.joined.ensures)
