use Rattle.std.proofs.Common.{◌≡◌, ◌∙◌, ◌++◌, ℕ, ap, arith, length, sym}
use Rattle.std.proofs.lemmas.List.{append-nil}
use Rattle.ot_machine.specs.Effects.{client_in}
use Rattle.ot_model.specs.Table.{downlink}
use Rattle.ot_verdict.specs.Pending.{incoming_to}
use Rattle.ot_verdict.proofs.Gathering.{has_in}
use Rattle.ot_verdict.proofs.waiting.push_incoming.Goals as goal

pub returns-else-count-gt0 : goal.returns-else-count-gt0
returns-else-count-gt0 c =
    let s = c.args.machine.now in
    let k = c.args.client in
    let list = c.args.list.now.items in
    let many = has_in s k (λ x. length (downlink s k x)) c.down_len-count.result c.down_len-count.ensures in
    let none : 0 ≡ length (downlink s k (client_in s k)) = omega (arith, many, c.if-count-gt0.false) in
    sym (append-nil list) ∙ ap (λ (n : ℕ). list ++ incoming_to k n) none
