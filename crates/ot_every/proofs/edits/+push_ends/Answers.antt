use Rattle.std.proofs.Common.{◌≡◌, ◌∙◌, ℕ, ◌+◌, ◌-◌, ◌≤◌, ap, arith, refl, subst, sym}
use Rattle.ot_operation.proofs.Refused.{OnOk-at_ok}
use Rattle.ot_operation.specs.Operation.{Operation, with_delete, with_insert, with_retain}
use Rattle.ot_every.proofs.Growing.{kept_base, kept_target, pushed_kept, pushed_text, text_fits, text_target}
use Rattle.ot_every.proofs.edits.+push_ends.Goals as goal

pub returns-then-inserts-eq0 : goal.returns-then-inserts-eq0
returns-then-inserts-eq0 t c =
    let kept : c.retain.new.self ≡ with_retain c.args.op 1 = OnOk-at_ok c.retain.result c.in_ok-only_memory.ensures c.retain.ensures.ok ∙ ap (λ (o : Operation ℕ). with_retain o 1) c.in_ok-kept.ensures in
    let gone : c.delete.new.self ≡ with_delete c.args.op 1 = OnOk-at_ok c.delete.result c.in_ok-only_memory-2.ensures c.delete.ensures.ok in
    pushed_kept c.args.client c.args.text.now c.args.op c.retain.new.self c.delete.new.self c.args.left (c.args.left - 1) c.args.inserts c.args.next.now.items c.push_ends.new.next.items _
    kept gone (omega (arith, c.if-left-eq0.false)) c.if-inserts-eq0.true c.in_ok-push_ends.ensures c.in_ok-push_ends-2.ensures

pub only_memory-requires-3 : goal.only_memory-requires-3
only_memory-requires-3 t c refused =
    let kept : c.in_ok-longer.longer ≡ with_retain c.args.op 1 =
    c.in_ok-longer.ensures ∙ OnOk-at_ok c.retain.result c.in_ok-only_memory.ensures c.retain.ensures.ok ∙ ap (λ (o : Operation ℕ). with_retain o 1) c.in_ok-kept.ensures in
    text_fits c.args.op c.in_ok-longer.longer c.args.text.now c.args.left c.args.inserts kept c.if-left-eq0.false c.if-inserts-eq0.false c.requires.base c.requires.target (c.insert.ensures.too_long.0 refused)

pub push_ends-requires-2 : goal.push_ends-requires-2
push_ends-requires-2 t c =
    let kept : c.retain.new.self ≡ with_retain c.args.op 1 = OnOk-at_ok c.retain.result c.in_ok-only_memory.ensures c.retain.ensures.ok ∙ ap (λ (o : Operation ℕ). with_retain o 1) c.in_ok-kept.ensures in (
      omega (arith, c.decreases, c.if-left-eq0.false),
      (
        kept_base c.args.op c.retain.new.self c.args.left kept c.if-left-eq0.false c.requires.base,
        kept_target c.args.op c.retain.new.self c.args.left _ kept c.if-left-eq0.false c.requires.target,
      ),
    )

pub push_ends-requires-3 : goal.push_ends-requires-3
push_ends-requires-3 t c =
    let kept : c.in_ok-longer.longer ≡ with_retain c.args.op 1 =
    c.in_ok-longer.ensures ∙ OnOk-at_ok c.retain.result c.in_ok-only_memory.ensures c.retain.ensures.ok ∙ ap (λ (o : Operation ℕ). with_retain o 1) c.in_ok-kept.ensures in
    let more : c.insert.new.self ≡ with_insert (with_retain c.args.op 1) c.args.text.now =
    OnOk-at_ok c.insert.result c.in_ok-only_memory-3.ensures c.insert.ensures.ok ∙ ap (λ (o : Operation ℕ). with_insert o c.args.text.now) kept in (
      omega (arith, c.decreases, c.if-left-eq0.false),
      (
        subst (λ (o : Operation ℕ). o.base + (c.args.left - 1) ≤ 1000000) (sym more) (kept_base c.args.op (with_retain c.args.op 1) c.args.left refl c.if-left-eq0.false c.requires.base),
        text_target c.args.op c.insert.new.self c.args.text.now c.args.left c.args.inserts more c.if-left-eq0.false c.if-inserts-eq0.false c.requires.target,
      ),
    )

pub returns : goal.returns
returns t c =
    let kept : c.retain.new.self ≡ with_retain c.args.op 1 = OnOk-at_ok c.retain.result c.in_ok-only_memory.ensures c.retain.ensures.ok ∙ ap (λ (o : Operation ℕ). with_retain o 1) c.in_ok-kept.ensures in
    let gone : c.delete.new.self ≡ with_delete c.args.op 1 = OnOk-at_ok c.delete.result c.in_ok-only_memory-2.ensures c.delete.ensures.ok in
    let more : c.insert.new.self ≡ with_insert (with_retain c.args.op 1) c.args.text.now =
    OnOk-at_ok c.insert.result c.in_ok-only_memory-3.ensures c.insert.ensures.ok ∙ ap (λ (o : Operation ℕ). with_insert o c.args.text.now) (c.in_ok-longer.ensures ∙ kept) in
    pushed_text c.args.client c.args.text.now c.args.op c.retain.new.self c.insert.new.self c.delete.new.self c.args.left (c.args.left - 1) c.args.inserts (c.args.inserts - 1)
    c.args.next.now.items c.push_ends-2.new.next.items c.push_ends-3.new.next.items _
    kept more gone (omega (arith, c.if-left-eq0.false)) (omega (arith, c.if-inserts-eq0.false)) c.in_ok-push_ends-3.ensures c.in_ok-push_ends-4.ensures c.in_ok-push_ends-5.ensures
