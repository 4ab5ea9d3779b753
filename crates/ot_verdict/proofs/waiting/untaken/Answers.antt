use Rattle.ot_verdict.specs.Pending.{has_untaken, number_if}
use Rattle.ot_verdict.proofs.Gathering.{gives_next}
use Rattle.std.proofs.Common.{◌<◌, ◌∙◌, ◌++◌, Bool, ap, arith, length}
use Rattle.ot_verdict.proofs.waiting.untaken.Goals as goal

pub loop-client-preserved : goal.loop-client-preserved
loop-client-preserved c =
    let s = c.args.machine.now in
    let k = c.loop-client.client in
    let many = c.clients-client-end.ensures.value in
    let inside : k < length s.clients = omega (arith, many, c.loop-client-test.true) in
    gives_next (λ d x. number_if (has_untaken x) d) s k c.loop-client.list.items c.push_if.new.list.items inside c.loop-client.invariant
    (c.in_ok-push_if.ensures ∙ ap (λ (b : Bool). c.loop-client.list.items ++ number_if b k) c.has_untaken.ensures)
