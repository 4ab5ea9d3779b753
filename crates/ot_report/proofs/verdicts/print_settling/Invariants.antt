use Rattle.std.proofs.Common.{◌≡◌, take, string_bytes}
use Rattle.ot_report.specs.Verdicts.{settling_lines}
use Rattle.ot_report.proofs.verdicts.print_settling.Given as goal

abbrev pub invariant-loop-convergence : goal.invariant-loop-convergence
invariant-loop-convergence l = string_bytes l.text ≡ settling_lines (take l.convergence-index l.settling)
