use Rattle.std.proofs.Common.{◌+◌, ◌-◌, ◌*◌, ap₂, ℕ}
use Rattle.ot_every.proofs.listing.most.Goals as goal

pub returns-clause-value : goal.returns-clause-value
returns-clause-value c = ap₂ (λ (n p : ℕ). c.args.edits * (n + 2) + (n - p)) c.clients-clients.ensures.value c.present-present.ensures.value
