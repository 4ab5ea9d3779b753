use Rattle.std.proofs.Common.{rules}
use Rattle.ot_client.proofs.client.Client.exchange_state.Goals as goal

pub returns-clause-client : goal.returns-clause-client
returns-clause-client g c = search rules

pub returns-clause-undoing : goal.returns-clause-undoing
returns-clause-undoing g c = search rules
