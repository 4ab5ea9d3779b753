use Rattle.std.proofs.Common.{◌∙◌, List, ap, arith, drop, map}
use Rattle.std.specs.Prelude.{flat_map, vec_items}
use Rattle.std.proofs.lemmas.List.{take_all}
use Rattle.ot_model.specs.Table.{Client}
use Rattle.ot_every.specs.Walking.{sessions_by, tried_at}
use Rattle.ot_every.proofs.Leading.{client_on, then_takes, waiting_is, waits_on}
use Rattle.ot_every.proofs.candidates.candidates.Goals as goal

pub returns-then-down_len-gt0 : goal.returns-then-down_len-gt0
returns-then-down_len-gt0 c count path are =
    let s = c.args.machine.now in
    let texts = drop c.args.made (map vec_items c.args.texts.now) in
    let k = c.loop-client.client in
    waits_on c.args.inserts count texts path s k c.push_join.new.next.items (waiting_is s k c.down_len.result c.down_len.ensures (omega (arith, c.if-down_len-gt0.true)))
    (client_on c.args.inserts count texts path s k c.loop-client.next.items c.push_edits_in_time.new.next.items c.push_receipt.new.next.items c.push_join.new.next.items
    (c.loop-client.invariant count path are) (c.in_ok-push_edits_in_time.ensures path are)
    (c.in_ok-push_receipt.ensures c.args.inserts count texts path are) (c.in_ok-push_join.ensures c.args.inserts count texts path are))

pub loop-client-preserved : goal.loop-client-preserved
loop-client-preserved c count path are =
    let texts = drop c.args.made (map vec_items c.args.texts.now) in
    client_on c.args.inserts count texts path c.args.machine.now c.loop-client.client c.loop-client.next.items c.push_edits_in_time.new.next.items c.push_receipt.new.next.items c.push_join.new.next.items
    (c.loop-client.invariant count path are) (c.in_ok-push_edits_in_time.ensures path are)
    (c.in_ok-push_receipt.ensures c.args.inserts count texts path are) (c.in_ok-push_join.ensures c.args.inserts count texts path are)

pub returns : goal.returns
returns c count path are =
    let s = c.args.machine.now in
    let texts = drop c.args.made (map vec_items c.args.texts.now) in
    then_takes c.args.inserts count texts path s c.loop-client.next.items c.push_takes.new.next.items
    (c.loop-client.invariant count path are
    ∙ ap (λ (xs : List Client). flat_map (sessions_by c.args.inserts count texts path s) (tried_at c.args.inserts texts path 0 xs)) (take_all c.loop-client.client s.clients (omega (arith, c.loop-client-test.false, c.clients-client-end.ensures.value))))
    (c.in_ok-push_takes.ensures c.args.inserts count texts path)
