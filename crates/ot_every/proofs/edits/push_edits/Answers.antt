use Rattle.std.proofs.Common.{◌≡◌, ◌∙◌, ℕ, ◌-◌, ap, arith}
use Rattle.ot_operation.proofs.Refused.{OnOk-at_ok}
use Rattle.ot_operation.specs.Operation.{Operation, empty, with_insert}
use Rattle.ot_every.proofs.Growing.{first_target, pushed_all}
use Rattle.ot_every.proofs.edits.push_edits.Goals as goal

pub push_ends-requires-2-clause-target : goal.push_ends-requires-2-clause-target
push_ends-requires-2-clause-target c =
    let more : c.insert.new.self ≡ with_insert empty c.args.text.now =
    OnOk-at_ok c.insert.result c.in_ok-only_memory.ensures c.insert.ensures.ok ∙ ap (λ (o : Operation ℕ). with_insert o c.args.text.now) c.new-op.ensures in
    first_target c.insert.new.self c.args.text.now c.args.count c.args.inserts more c.if-inserts-eq0.false c.requires

pub returns : goal.returns
returns c =
    let more : c.insert.new.self ≡ with_insert empty c.args.text.now =
    OnOk-at_ok c.insert.result c.in_ok-only_memory.ensures c.insert.ensures.ok ∙ ap (λ (o : Operation ℕ). with_insert o c.args.text.now) c.new-op.ensures in
    pushed_all c.args.client c.args.text.now c.new.result c.insert.new.self c.args.count c.args.inserts (c.args.inserts - 1) c.args.next.now.items c.push_ends.new.next.items _
    c.new.ensures more (omega (arith, c.if-inserts-eq0.false)) c.in_ok-push_ends.ensures c.in_ok-push_ends-2.ensures
