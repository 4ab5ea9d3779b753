use Rattle.std.proofs.Common.{arith, map}
use Rattle.std.proofs.lemmas.List.{length-map}
use Rattle.ot_report.proofs.Inserters.{all_inserters}
use Rattle.ot_report.proofs.authors.Authors.of.Goals as goal

pub returns : goal.returns
returns c =
    let rows = c.loop-client.inserters.items in
    let long = c.loop-client.invariant.0 in
    let most = c.loop-client.auto.client-end in
    let clients = c.clients-client-end.ensures.value in
    all_inserters c.args.schedule.now (map (λ v. v.items) rows) c.clients-client-end.ensures.limits (omega (arith, length-map rows (λ v. v.items)))
    (λ k below. c.loop-client.invariant.1 k (omega arith))
