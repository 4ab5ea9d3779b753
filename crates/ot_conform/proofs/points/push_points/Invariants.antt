use Rattle.std.proofs.Common.{◌≡◌, ◌++◌, drop, string_bytes}
use Rattle.ot_conform.specs.Points.{points_text}
use Rattle.ot_conform.proofs.points.push_points.Given as goal

abbrev pub invariant-loop-letter : goal.invariant-loop-letter
invariant-loop-letter l = string_bytes l.row ++ points_text (drop l.letter-index l.text) ≡ string_bytes l.fn.row ++ points_text l.text
