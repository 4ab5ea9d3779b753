use Rattle.std.proofs.Common.{rules}
use Rattle.ot_client.specs.Client.{state_of}
use Rattle.ot_client.proofs.Exchanged.{changed_from, undoing_fits}
use Rattle.ot_client.proofs.client.Client.exchange.Goals as goal

pub returns-then-not-exchange_in_place-clause-client : goal.returns-then-not-exchange_in_place-clause-client
returns-then-not-exchange_in_place-clause-client g c = search rules

pub returns-then-not-exchange_in_place-clause-undoing : goal.returns-then-not-exchange_in_place-clause-undoing
returns-then-not-exchange_in_place-clause-undoing g c = search rules

pub returns-then-not-exchange_in_place-clause-fits : goal.returns-then-not-exchange_in_place-clause-fits
returns-then-not-exchange_in_place-clause-fits g c =
    rw (returns-then-not-exchange_in_place-clause-client g c, returns-then-not-exchange_in_place-clause-undoing g c)
    (undoing_fits (state_of c.args.self.now) c.args.change.now c.requires)

pub returns-then-not-exchange_in_place-clause-back : goal.returns-then-not-exchange_in_place-clause-back
returns-then-not-exchange_in_place-clause-back g c =
    changed_from (state_of c.args.self.now) c.args.change.now c.requires _ _
    (returns-then-not-exchange_in_place-clause-client g c) (returns-then-not-exchange_in_place-clause-undoing g c)

pub returns-else-not-exchange_in_place-clause-client : goal.returns-else-not-exchange_in_place-clause-client
returns-else-not-exchange_in_place-clause-client g c = search rules

pub returns-else-not-exchange_in_place-clause-undoing : goal.returns-else-not-exchange_in_place-clause-undoing
returns-else-not-exchange_in_place-clause-undoing g c = search rules

pub returns-else-not-exchange_in_place-clause-fits : goal.returns-else-not-exchange_in_place-clause-fits
returns-else-not-exchange_in_place-clause-fits g c =
    rw (returns-else-not-exchange_in_place-clause-client g c, returns-else-not-exchange_in_place-clause-undoing g c)
    (undoing_fits (state_of c.args.self.now) c.args.change.now c.requires)

pub returns-else-not-exchange_in_place-clause-back : goal.returns-else-not-exchange_in_place-clause-back
returns-else-not-exchange_in_place-clause-back g c =
    changed_from (state_of c.args.self.now) c.args.change.now c.requires _ _
    (returns-else-not-exchange_in_place-clause-client g c) (returns-else-not-exchange_in_place-clause-undoing g c)
