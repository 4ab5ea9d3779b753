use Rattle.std.proofs.Common.{arith, subst, List, ℕ, ◌≡◌}
use Rattle.std.specs.Prelude.{IfOk}
use Rattle.ot_check.specs.Following.{counts_of}
use Rattle.ot_check.proofs.Stepping.{row_inside, replica_inside, seen_is}
use Rattle.ot_check.proofs.tracing.Tracer.seen_by.Goals as goal

pub seen-requires-clause-entries : goal.seen-requires-clause-entries
seen-requires-clause-entries c = row_inside c.args.self.now.machine c.args.self.now.ledger c.args.client c.revision-revision.result c.requires.fits c.revision-revision.ensures

pub seen-requires-clause-replica : goal.seen-requires-clause-replica
seen-requires-clause-replica c =
    let inside = c.requires.client in
    replica_inside c.args.self.now.machine c.args.self.now.ledger c.args.client c.revision-revision.result c.args.client c.requires.fits c.revision-revision.ensures (omega arith)

pub returns : goal.returns
returns c =
    let old = c.args.self.now in
    subst (λ (xs : List ℕ). IfOk c.seen.result (λ v. v.items ≡ xs))
    (seen_is old.machine (counts_of old.ledger) c.args.client c.revision-revision.result c.index-own.result.now c.requires.fits c.requires.client c.revision-revision.ensures c.index-own.ensures) c.seen.ensures
