use Rattle.std.proofs.Common.{◌≡◌, ◌++◌, drop, string_bytes}
use Rattle.ot_reasons.specs.Ignored.{ignored_rows, key_values}
use Rattle.ot_reasons.proofs.ignored.ignored_text.Given as goal

abbrev pub invariant-loop-key : goal.invariant-loop-key
invariant-loop-key l = string_bytes l.rows ++ ignored_rows (key_values (drop l.key-index l.ignored)) ≡ ignored_rows (key_values l.ignored)
