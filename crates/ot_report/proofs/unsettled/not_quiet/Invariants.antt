use Rattle.std.proofs.Common.{◌≡◌, map, take}
use Rattle.ot_check.specs.declared.outcome.Convergence.TheVariants.{NotQuiet}
use Rattle.ot_report.proofs.unsettled.not_quiet.Given as goal

abbrev pub invariant-loop-what : goal.invariant-loop-what
invariant-loop-what l = l.settling.items ≡ map NotQuiet (take l.what-index l.unsettled)
