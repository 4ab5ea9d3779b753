use Rattle.std.proofs.Common.{◌≡◌, ◌≤◌, ℕ, ap, arith, length, rules, subst, ◌∙◌}
use Rattle.ot_operation.specs.Operation.{Operation, empty, news, with_retain, IsTooLong}
use Rattle.ot_operation.proofs.RunLemmas.{length-news-olds, length-olds}
use Rattle.ot_generate.proofs.edits.identity.Goals as goal

not_long : (op : Operation ℕ) (n : ℕ) → op ≡ empty → n ≤ 1000000 → IsTooLong (with_retain op n) → ⊥
not_long op n is le long =
    let whole : IsTooLong (with_retain (empty {A = ℕ}) n) = subst (λ (o : Operation ℕ). IsTooLong (with_retain o n)) is long in
    let many = length-olds ℕ 0 n in
    omega arith

pub only_memory-requires : goal.only_memory-requires
only_memory-requires c refused = not_long c.new-op.result c.args.size c.new-op.ensures c.requires (c.retain.ensures.too_long.0 refused)

none_new : (op kept : Operation ℕ) (n : ℕ) → op ≡ empty → kept ≡ with_retain op n → length (news kept.image) ≡ 0
none_new op kept n is e = ap (λ (o : Operation ℕ). length (news o.image)) (e ∙ ap (λ (o : Operation ℕ). with_retain o n) is) ∙ length-news-olds ℕ 0 n

pub returns-clause-none : goal.returns-clause-none
returns-clause-none c =
    let e : c.retain.new.self ≡ with_retain c.new-op.result c.args.size = search rules in
    none_new c.new-op.result c.retain.new.self c.args.size c.new-op.ensures e
