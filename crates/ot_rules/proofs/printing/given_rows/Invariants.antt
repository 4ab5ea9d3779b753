use Rattle.std.proofs.Common.{◌≡◌, ◌++◌, drop, string_bytes}
use Rattle.ot_rules.specs.Text.{given_rows, given_values}
use Rattle.ot_rules.proofs.printing.given_rows.Given as goal

abbrev pub invariant-loop-value : goal.invariant-loop-value
invariant-loop-value l = string_bytes l.rows ++ given_rows (given_values (drop l.value-index l.given)) ≡ given_rows (given_values l.given)
