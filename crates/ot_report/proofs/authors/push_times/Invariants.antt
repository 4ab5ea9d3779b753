use Rattle.std.proofs.Common.{◌≡◌, ◌++◌, replicate}
use Rattle.ot_report.proofs.authors.push_times.Given as goal

abbrev pub invariant-loop : goal.invariant-loop
invariant-loop l = l.numbers.items ≡ l.fn.numbers.items ++ replicate l.counter l.number
