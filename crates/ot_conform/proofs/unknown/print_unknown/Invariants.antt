use Rattle.std.proofs.Common.{◌≡◌, ◌++◌, drop, string_bytes}
use Rattle.ot_conform.specs.Unknown.{all_named, unknown_rows}
use Rattle.ot_conform.proofs.unknown.print_unknown.Given as goal

abbrev pub invariant-loop-unknown : goal.invariant-loop-unknown
invariant-loop-unknown l = string_bytes l.rows ++ unknown_rows (all_named (drop l.unknown-index l.keys)) ≡ unknown_rows (all_named l.keys)
