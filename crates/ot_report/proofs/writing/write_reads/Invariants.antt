use Rattle.std.proofs.Common.{string_bytes}
use Rattle.ot_report.proofs.Progress.{IsAt}
use Rattle.ot_report.proofs.writing.write_reads.Given as goal

abbrev pub invariant-loop-place : goal.invariant-loop-place
invariant-loop-place g l = IsAt l.json l.schedule l.place l.machine (string_bytes l.text) (g.W.Write.contents l.fn.output) (g.W.Write.contents l.output)
