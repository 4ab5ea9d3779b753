use Rattle.std.proofs.Common.{◌≡◌, ◌++◌, drop}
use Rattle.ot_threads.specs.Record.{commented, commented_from}
use Rattle.ot_threads.proofs.comment.push_comment.Given as goal

abbrev pub invariant-loop-byte : goal.invariant-loop-byte
invariant-loop-byte l = l.text.items ++ commented_from l.starts (drop l.byte-index l.lines) ≡ l.fn.text.items ++ commented l.lines
