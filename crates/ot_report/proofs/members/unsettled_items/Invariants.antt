use Rattle.std.proofs.Common.{◌≡◌, [], drop, string_bytes}
use Rattle.ot_report.specs.Members.{with_all_unsettled}
use Rattle.ot_report.proofs.members.unsettled_items.Given as goal

abbrev pub invariant-loop-convergence : goal.invariant-loop-convergence
invariant-loop-convergence l = with_all_unsettled (string_bytes l.items) (drop l.convergence-index l.settling) ≡ with_all_unsettled [] l.settling
