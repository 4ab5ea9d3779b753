use Rattle.std.proofs.Common.{◌≡◌, ℕ, ◌<◌, [], get_or, length, map}
use Rattle.ot_report.specs.Authors.{inserters}
use Rattle.ot_report.proofs.authors.Authors.of.Given as goal

abbrev pub invariant-loop-client : goal.invariant-loop-client
invariant-loop-client l =
    (length l.inserters.items ≡ l.client) × ((c : ℕ) → c < l.client → get_or (map (λ v. v.items) l.inserters.items) c [] ≡ inserters c 0 l.schedule.instrs)
