use Rattle.std.proofs.Common.{◌≡◌, ◌≤◌, ◌+◌, length, ap, ◌∙◌, arith}
use Rattle.ot_model.specs.Table.{State}
use Rattle.ot_workers.proofs.Receipted.{receipts_more}
use Rattle.ot_workers.proofs.Takes.{takes_more}
use Rattle.ot_workers.proofs.Uplinks.{taken_all, taken_more}
use Rattle.ot_workers.proofs.turns.take_all.Goals as goal

pub returns-in_err-take_one-clause-receipts : goal.returns-in_err-take_one-clause-receipts
returns-in_err-take_one-clause-receipts c =
    receipts_more c.args.board.now c.loop-client.board c.take_one.new.board c.args.receipts.now.items c.loop-client.receipts.items c.take_one.new.receipts.items
    c.loop-client.invariant.receipts c.take_one.ensures.receipts

pub returns-in_err-take_one-clause-takes : goal.returns-in_err-take_one-clause-takes
returns-in_err-take_one-clause-takes c = takes_more c.args.board.now c.loop-client.board c.take_one.new.board c.loop-client.invariant.takes c.take_one.ensures.takes

pub loop-client-preserved : goal.loop-client-preserved
loop-client-preserved c =
    taken_more c.args.board.now c.loop-client.board c.take_one.new.board c.args.receipts.now.items c.loop-client.receipts.items c.take_one.new.receipts.items
    c.loop-client.client (c.loop-client.client + 1) (omega arith) c.loop-client.invariant
    c.in_ok-take_one.ensures.taken c.take_one.ensures.others c.take_one.ensures.clients c.take_one.ensures.takes c.take_one.ensures.receipts

pub returns-clause-taken : goal.returns-clause-taken
returns-clause-taken c =
    let end : c.clients-client-end.result ≡ length c.args.board.now.state.clients = c.clients-client-end.ensures.value ∙ ap (λ (s : State). length s.clients) c.machine.ensures.value in
    let past = c.loop-client-test.false in
    let all : length c.args.board.now.state.clients ≤ c.loop-client.client = omega (arith, past, end) in
    taken_all c.args.board.now c.loop-client.board c.args.receipts.now.items c.loop-client.receipts.items c.loop-client.client all c.loop-client.invariant
